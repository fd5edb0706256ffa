use Rattle.std.proofs.Common.{ap, ◌∙◌, map, subst, Option}
use Rattle.definitions.specs.Decision.{standing}
use Rattle.definitions.specs.Register.{own}
use Rattle.definitions.specs.Rows.{shown_row}
use Rattle.rules.specs.Pages.{PageFacts}
use Rattle.store.specs.Held.{IsHeldFor}
use Rattle.store.proofs.Entries.{stock_some, rows_of_page}
use Rattle.store.proofs.replaying.rows_for.Goals as goal

pub returns-in_ok-of_each-in-Some : goal.returns-in_ok-of_each-in-Some
returns-in_ok-of_each-in-Some c = λ L who held.
    stock_some L who c.in-Some.page _ (subst (λ (p : Option PageFacts). IsHeldFor p (standing (own L who))) c.in-Some.is held)
    (λ M is. c.in_ok-of_each-in-Some.ensures ∙ ap (map shown_row) c.rows.ensures.rows ∙ rows_of_page c.in-Some.page M c.rows.ensures.sound is)
