use Rattle.stock.proofs.PartLemmas.{part_date}
use Rattle.stock.proofs.laws.a_part_has_the_dates.Goals as goal

pub returns : goal.returns
returns c = part_date
