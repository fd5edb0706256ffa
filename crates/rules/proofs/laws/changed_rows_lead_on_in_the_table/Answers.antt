use Rattle.set_effects.proofs.Tables.{stock_led}
use Rattle.rules.proofs.laws.changed_rows_lead_on_in_the_table.Goals as goal

pub returns : goal.returns
returns c = λ w p es fs cs sound shows next led. stock_led w p es fs cs sound shows next led
