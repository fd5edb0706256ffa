use Rattle.stock.proofs.PageLaws.{date_shows}
use Rattle.stock.proofs.laws.dates_are_the_first.Goals as goal

pub returns : goal.returns
returns c = date_shows
