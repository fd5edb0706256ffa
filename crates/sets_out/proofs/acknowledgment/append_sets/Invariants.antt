use Rattle.std.proofs.Common.{take}
use Rattle.std.specs.Prelude.{flat_map}
use Rattle.definitions.specs.Texts.{told_segments}
use Rattle.segments.specs.Extends.{Extends}
use Rattle.sets_out.specs.Appends.{Writes}
use Rattle.sets_out.proofs.acknowledgment.append_sets.Given as goal

-- the sets so far are told
abbrev pub invariant-loop-set : goal.invariant-loop-set
invariant-loop-set l = record {
  told : Writes l.delims l.fn.out.items l.out.items (flat_map told_segments (take l.set-index l.sets)) l.count;
  kept : Extends l.fn.out.items l.out.items;
}
