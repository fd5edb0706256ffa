use Rattle.std.proofs.Common.{◌≡◌, ◌≤◌, ◌-◌, length, drop}
use Rattle.std.specs.Prelude.{codes}
use Rattle.std.specs.List.{list_all}
use Rattle.definitions.specs.Lists.{parted}
use Rattle.definitions.specs.Cut.{has_id, segments_of}
use Rattle.definitions.specs.Structure.{is_group_clean}
use Rattle.envelope.specs.Parts.{bare, marked}
use Rattle.envelope.proofs.places.are_groups_clean.Given as goal

-- what is left decides
abbrev pub invariant-loop-start : goal.invariant-loop-start
invariant-loop-start l = record {
  left : list_all (λ r. is_group_clean (bare r)) ((parted (marked (codes "GS")) (drop l.from l.segments)).runs)
      ≡ list_all is_group_clean ((parted (has_id (codes "GS")) (segments_of l.segments)).runs);
  within : l.from ≤ length l.segments;
}

abbrev pub decreases-loop-start : goal.decreases-loop-start
decreases-loop-start l = length l.segments - l.from
