use Rattle.std.proofs.Common.{ap, ◌∙◌, subst, option_map}
use Rattle.definitions.specs.Decision.{standing}
use Rattle.definitions.specs.Register.{own}
use Rattle.store.specs.Held.{IsHeldFor}
use Rattle.store.specs.Open.{open_on}
use Rattle.store.proofs.OpenLaws.{work_some}
use Rattle.store.proofs.replaying.whole.Goals as goal

pub returns-in-Some-clause-work : goal.returns-in-Some-clause-work
returns-in-Some-clause-work c = λ L who h.
    ap (option_map open_on) c.in-Some.is
    ∙ work_some L who c.in-Some.page c.rows.ensures.sound (subst (λ p. IsHeldFor p (standing (own L who))) c.in-Some.is h)
