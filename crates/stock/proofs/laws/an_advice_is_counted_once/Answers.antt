use Rattle.stock.proofs.PageLaws.{counted_once}
use Rattle.stock.proofs.laws.an_advice_is_counted_once.Goals as goal

pub returns : goal.returns
returns c = counted_once
