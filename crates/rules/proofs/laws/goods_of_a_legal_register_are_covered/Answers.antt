use Rattle.rules.proofs.Covered.{covered_goods, small_goods}
use Rattle.rules.proofs.laws.goods_of_a_legal_register_are_covered.Goals as goal

pub returns-clause-covered : goal.returns-clause-covered
returns-clause-covered c = λ r W L w legal. covered_goods r W L w legal

pub returns-clause-fits : goal.returns-clause-fits
returns-clause-fits c = λ r W L w legal. small_goods r W L w legal
