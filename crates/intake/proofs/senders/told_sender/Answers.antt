use Rattle.std.proofs.Common.{◌∙◌, sym}
use Rattle.intake.proofs.Sent.{unsent_at, sent_at}
use Rattle.intake.proofs.senders.told_sender.Goals as goal

pub returns-then-not-hands_in : goal.returns-then-not-hands_in
returns-then-not-hands_in c = λ body is. unsent_at _ _ _ (sym c.hands_in.ensures ∙ c.if-not-hands_in.true)

pub returns : goal.returns
returns c = λ body is. sent_at _ _ _ _ (sym c.hands_in.ensures ∙ c.if-not-hands_in.false) is
