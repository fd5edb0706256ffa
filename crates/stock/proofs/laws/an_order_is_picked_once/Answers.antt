use Rattle.stock.proofs.PageLaws.{picked_once}
use Rattle.stock.proofs.laws.an_order_is_picked_once.Goals as goal

pub returns : goal.returns
returns c = picked_once
