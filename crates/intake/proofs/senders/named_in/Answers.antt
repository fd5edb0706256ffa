use Rattle.store.specs.Asked.{asked}
use Rattle.intake.proofs.Sent.{named_none, named_some}
use Rattle.intake.proofs.senders.named_in.Goals as goal

pub returns-in_default : goal.returns-in_default
returns-in_default c = named_none (asked c.args.command.now) c.in_default.ensures

pub returns : goal.returns
returns c = named_some (asked c.args.command.now) _ _ c.in-Some.ensures
