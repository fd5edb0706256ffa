use Rattle.std.proofs.Common.{◌∙◌, sym, ap}
use Rattle.definitions.specs.Accepted.{depositor_of}
use Rattle.intake.proofs.Sent.{comes_without, comes_with}
use Rattle.intake.proofs.senders.sender_of.Goals as goal

pub returns-then-not-has_interchange : goal.returns-then-not-has_interchange
returns-then-not-has_interchange c = λ body is. comes_without _ _ _ (sym c.has_interchange.ensures ∙ c.if-not-has_interchange.true)

pub returns : goal.returns
returns c = λ body is. comes_with _ _ _ _ (sym c.has_interchange.ensures ∙ c.if-not-has_interchange.false) (c.named_in.ensures ∙ ap depositor_of is)
