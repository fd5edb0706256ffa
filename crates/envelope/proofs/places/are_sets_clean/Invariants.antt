use Rattle.std.proofs.Common.{◌≡◌, ◌≤◌, ◌-◌, length, drop}
use Rattle.std.specs.Prelude.{codes}
use Rattle.std.specs.List.{list_all}
use Rattle.definitions.specs.Lists.{parted}
use Rattle.definitions.specs.Cut.{has_id, segments_of}
use Rattle.definitions.specs.Structure.{is_set_clean}
use Rattle.envelope.specs.Parts.{bare, marked}
use Rattle.envelope.proofs.places.are_sets_clean.Given as goal

-- what is left decides
abbrev pub invariant-loop-start : goal.invariant-loop-start
invariant-loop-start l = record {
  left : list_all (λ r. is_set_clean (bare r)) ((parted (marked (codes "ST")) (drop l.from l.segments)).runs)
      ≡ list_all is_set_clean ((parted (has_id (codes "ST")) (segments_of l.segments)).runs);
  within : l.from ≤ length l.segments;
}

abbrev pub decreases-loop-start : goal.decreases-loop-start
decreases-loop-start l = length l.segments - l.from
