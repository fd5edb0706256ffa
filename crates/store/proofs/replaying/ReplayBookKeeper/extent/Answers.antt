use Rattle.std.proofs.Common.{ap, ◌∙◌}
use Rattle.store.proofs.replaying.ReplayBookKeeper.extent.Goals as goal

pub returns-clause-extent : goal.returns-clause-extent
returns-clause-extent c = λ clean L is. c.extent_of.ensures L (c.deref.ensures.value ∙ ap (λ b. b.entries) c.self.view_is ∙ is)
