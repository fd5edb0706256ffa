use Rattle.stock.proofs.PageLaws.{date_stays}
use Rattle.stock.proofs.laws.a_pair_keeps_its_date.Goals as goal

pub returns : goal.returns
returns c = date_stays
