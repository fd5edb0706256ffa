use Rattle.std.proofs.Common.{◌≡◌, drop, map, ◌++◌}
use Rattle.std.specs.Option.{option_to_list, option_map}
use Rattle.httparse.specs.Spans.{header_bytes}
use Rattle.head_fields.specs.Fields.{values}
use Rattle.head_fields.proofs.values.values_of.Given as goal

abbrev pub invariant-loop-field : goal.invariant-loop-field
invariant-loop-field l = values l.name (map (header_bytes l.buf) l.fields) ≡ option_to_list (option_map (λ v. v.now) l.found) ++ values l.name (map (header_bytes l.buf) (drop l.field-index l.fields))
