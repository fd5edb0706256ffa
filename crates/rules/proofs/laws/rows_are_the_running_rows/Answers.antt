use Rattle.set_effects.proofs.Rowed.{rows_are}
use Rattle.rules.proofs.laws.rows_are_the_running_rows.Goals as goal

pub returns : goal.returns
returns c = λ p es sound shows. rows_are p es sound shows
