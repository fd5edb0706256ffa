use Rattle.stock.proofs.PageLaws.{balance_shows}
use Rattle.stock.proofs.laws.rows_are_balances.Goals as goal

pub returns : goal.returns
returns c = balance_shows
