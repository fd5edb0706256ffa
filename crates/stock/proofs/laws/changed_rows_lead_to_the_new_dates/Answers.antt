use Rattle.stock.proofs.ChangeLaws.{changed_dates}
use Rattle.stock.proofs.laws.changed_rows_lead_to_the_new_dates.Goals as goal

pub returns : goal.returns
returns c = changed_dates
