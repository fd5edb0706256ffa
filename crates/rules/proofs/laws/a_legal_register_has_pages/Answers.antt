use Rattle.rules.proofs.LegalPages.{legal_page}
use Rattle.rules.proofs.laws.a_legal_register_has_pages.Goals as goal

pub returns : goal.returns
returns c = λ r W L w h legal is. legal_page r W L w h legal is
