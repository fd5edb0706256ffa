use Rattle.std.proofs.Common.{◌≡◌, ◌++◌, ◌≤◌, ◌-◌, map, length, drop}
use Rattle.std.specs.Prelude.{codes}
use Rattle.definitions.specs.Lists.{parted}
use Rattle.definitions.specs.Cut.{has_id, segments_of}
use Rattle.definitions.specs.Structure.{set_of}
use Rattle.envelope.specs.Parts.{set_under, bare, marked}
use Rattle.envelope.proofs.making.make_sets.Given as goal

-- those so far and those of what is left are all
abbrev pub invariant-loop-start : goal.invariant-loop-start
invariant-loop-start l = record {
  made : l.sets.items ++ map (λ r. set_under l.delims (set_of (bare r))) ((parted (marked (codes "ST")) (drop l.from l.segments)).runs)
      ≡ map (set_under l.delims) (map set_of ((parted (has_id (codes "ST")) (segments_of l.segments)).runs));
  within : l.from ≤ length l.segments;
}

abbrev pub decreases-loop-start : goal.decreases-loop-start
decreases-loop-start l = length l.segments - l.from
