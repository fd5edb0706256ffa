use Rattle.rules.proofs.Fits.{page_fits}
use Rattle.rules.proofs.laws.what_a_page_lists_fits.Goals as goal

pub returns : goal.returns
returns c = λ r W L w legal. page_fits r W L w legal
