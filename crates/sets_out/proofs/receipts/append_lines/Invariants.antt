use Rattle.std.proofs.Common.{take}
use Rattle.std.specs.Prelude.{flat_map}
use Rattle.segments.specs.Extends.{Extends}
use Rattle.sets_out.specs.Appends.{Writes}
use Rattle.sets_out.specs.Documents.{received_line}
use Rattle.sets_out.proofs.receipts.append_lines.Given as goal

-- the lines so far are told
abbrev pub invariant-loop-line : goal.invariant-loop-line
invariant-loop-line l = record {
  told : Writes l.delims l.fn.out.items l.out.items (flat_map received_line (take l.line-index l.lines)) l.count;
  kept : Extends l.fn.out.items l.out.items;
}
