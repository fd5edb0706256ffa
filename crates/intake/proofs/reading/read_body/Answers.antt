use Rattle.intake.proofs.Filling.{own_input}
use Rattle.intake.proofs.reading.read_body.Goals as goal

pub returns-in_default-clause-body : goal.returns-in_default-clause-body
returns-in_default-clause-body g c = (_, own_input (g.R.Read.remaining c.args.reader.now.inner), tt)
