use Rattle.std.proofs.Common.{ap, sym, ◌∙◌, Some}
use Rattle.std.specs.Prelude.{option_copied}
use Rattle.store.proofs.Extents.{moment_of, moment_of_last}
use Rattle.store.proofs.replaying.last_of.Goals as goal

pub returns-in-Some : goal.returns-in-Some
returns-in-Some c = λ L is. ap Some c.moment.ensures ∙ ap (λ o. moment_of (option_copied o)) (sym c.in-Some.is) ∙ ap moment_of c.last.ensures.value
    ∙ moment_of_last L c.args.entries.now is

pub returns-in-None : goal.returns-in-None
returns-in-None c = λ L is. ap (λ o. moment_of (option_copied o)) (sym c.in-None.is) ∙ ap moment_of c.last.ensures.value ∙ moment_of_last L c.args.entries.now is
