use Rattle.std.proofs.Common.{◌≡◌, ◌++◌, option_map, drop}
use Rattle.app.specs.Explaining.{without_asking}
use Rattle.app.proofs.explaining.without_asking.Given as goal

abbrev pub invariant-loop-at : goal.invariant-loop-at
invariant-loop-at l = without_asking l.words ≡ option_map (λ t. l.line.items ++ t) (without_asking (drop l.at l.words))
