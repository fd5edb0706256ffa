use Rattle.std.proofs.Common.{◌∙◌}
use Rattle.intake.proofs.Replied.{deed_otherwise}
use Rattle.intake.proofs.replies.deed_refusal.Goals as goal

pub returns-in_default : goal.returns-in_default
returns-in_default c =
    let d = c.in_default in
    c.refused.ensures ∙ deed_otherwise c.args.refusal c.args.answer.items d.not-UnknownDepositor d.not-TicketUsed
