use Rattle.std.proofs.Common.{map, take}
use Rattle.std.specs.Prelude.{codes}
use Rattle.definitions.specs.Texts.{body_997, sets_of_segments}
use Rattle.segments.specs.Extends.{Extends}
use Rattle.sets_out.specs.Appends.{Writes}
use Rattle.sets_out.proofs.interchanges.append_997s.Given as goal

-- the groups so far are told
abbrev pub invariant-loop-index : goal.invariant-loop-index
invariant-loop-index l = record {
  told : Writes l.delims l.fn.out.items l.out.items (sets_of_segments (codes "997") (map body_997 (take l.index l.told))) l.count;
  kept : Extends l.fn.out.items l.out.items;
}
