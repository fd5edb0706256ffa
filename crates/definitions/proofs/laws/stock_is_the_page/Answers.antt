use Rattle.definitions.proofs.PageLaws.{stock_rows-page}
use Rattle.definitions.proofs.laws.stock_is_the_page.Goals as goal

pub returns : goal.returns
returns c = λ M. stock_rows-page M
