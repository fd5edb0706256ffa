use Rattle.commands.proofs.ClockLaws.{minute_shown}
use Rattle.commands.proofs.clock.now.Goals as goal

pub returns : goal.returns
returns g c = minute_shown (g.R.TimeSource.shows c.args.rt.now) c.in_ok-time.field-0 c.civil.result c.in_ok-time.ensures c.civil.ensures
