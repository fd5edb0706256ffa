use Rattle.rules.proofs.Expected.{expected_within}
use Rattle.rules.proofs.laws.what_is_expected_is_bounded.Goals as goal

pub returns-clause-within : goal.returns-clause-within
returns-clause-within c = λ r W L w legal. expected_within r W L w legal
