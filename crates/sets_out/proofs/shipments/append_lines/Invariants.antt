use Rattle.std.proofs.Common.{take}
use Rattle.std.specs.Prelude.{flat_map}
use Rattle.std.specs.List.{enumerate_from}
use Rattle.segments.specs.Extends.{Extends}
use Rattle.sets_out.specs.Appends.{Writes}
use Rattle.sets_out.specs.Documents.{shipped_line}
use Rattle.sets_out.proofs.shipments.append_lines.Given as goal

-- the lines so far are told
abbrev pub invariant-loop-index : goal.invariant-loop-index
invariant-loop-index l = record {
  told : Writes l.delims l.fn.out.items l.out.items (flat_map (λ p. shipped_line p.0 p.1) (enumerate_from 1 (take l.index l.lines))) l.count;
  kept : Extends l.fn.out.items l.out.items;
}
