use Rattle.std.proofs.Common.{◌≡◌, drop, map}
use Rattle.httparse.specs.Spans.{header_bytes}
use Rattle.head_fields.specs.Fields.{has_field}
use Rattle.head_fields.proofs.values.is_among.Given as goal

abbrev pub invariant-loop-field : goal.invariant-loop-field
invariant-loop-field l = has_field l.name (map (header_bytes l.buf) l.fields) ≡ has_field l.name (map (header_bytes l.buf) (drop l.field-index l.fields))
