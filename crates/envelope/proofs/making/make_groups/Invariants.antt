use Rattle.std.proofs.Common.{◌≡◌, ◌++◌, ◌≤◌, ◌-◌, map, length, drop}
use Rattle.std.specs.Prelude.{codes}
use Rattle.definitions.specs.Lists.{parted}
use Rattle.definitions.specs.Cut.{has_id, segments_of}
use Rattle.definitions.specs.Structure.{group_of}
use Rattle.envelope.specs.Parts.{group_under, bare, marked}
use Rattle.envelope.proofs.making.make_groups.Given as goal

-- those so far and those of what is left are all
abbrev pub invariant-loop-start : goal.invariant-loop-start
invariant-loop-start l = record {
  made : l.groups.items ++ map (λ r. group_under l.delims (group_of (bare r))) ((parted (marked (codes "GS")) (drop l.from l.segments)).runs)
      ≡ map (group_under l.delims) (map group_of ((parted (has_id (codes "GS")) (segments_of l.segments)).runs));
  within : l.from ≤ length l.segments;
}

abbrev pub decreases-loop-start : goal.decreases-loop-start
decreases-loop-start l = length l.segments - l.from
