use Rattle.rules.proofs.Defines.{page_is_defined}
use Rattle.rules.proofs.laws.pages_are_the_defined_ones.Goals as goal

pub returns : goal.returns
returns c = λ r W L w p legal sound of. page_is_defined r W L w p legal sound.sorted of
