use Rattle.store.proofs.Repeats.{nothing_again}
use Rattle.store.proofs.laws.a_repeat_leaves_the_register.Goals as goal

pub returns : goal.returns
returns c = λ r W L x t s h. nothing_again r W L x t s h
