use Rattle.intake.proofs.Replied.{fault_line_is}
use Rattle.intake.proofs.replies.of_fault.Goals as goal

pub returns : goal.returns
returns c = cc (c.with_line.ensures, c.line.ensures, fault_line_is c.args.fault)
