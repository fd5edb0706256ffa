use Rattle.std.proofs.Common.{◌≡◌, ◌++◌, take, drop}
use Rattle.std.specs.Prelude.{codes, ◌||◌}
use Rattle.std.specs.List.{take_while}
use Rattle.definitions.specs.Cut.{segments_of, has_id}
use Rattle.sets_in.proofs.addresses.belonging.Given as goal

-- all that came belong
abbrev pub invariant-loop-index : goal.invariant-loop-index
invariant-loop-index l = take_while (λ s. has_id (codes "N3") s || has_id (codes "N4") s) (segments_of l.segments)
    ≡ segments_of (take l.index l.segments) ++ take_while (λ s. has_id (codes "N3") s || has_id (codes "N4") s) (segments_of (drop l.index l.segments))
