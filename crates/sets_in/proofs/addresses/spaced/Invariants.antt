use Rattle.std.proofs.Common.{◌≡◌, map, drop}
use Rattle.definitions.specs.Means.{spaced}
use Rattle.sets_in.proofs.Spaced.{spaced_after}
use Rattle.sets_in.proofs.addresses.spaced.Given as goal

-- what is left goes after what was written
abbrev pub invariant-loop-text : goal.invariant-loop-text
invariant-loop-text l = spaced (map (λ t. t.now) l.texts) ≡ spaced_after l.out.items (map (λ t. t.now) (drop l.text-index l.texts))
