-- what a book that has to be opened again answers
use Rattle.std.proofs.Common.{◌≡◌, ◌∙◌, ℕ, List, Some, sym, subst}
use Rattle.std.specs.Prelude.{Result}
use Rattle.httparse.specs.Grammar.{RequestHead}
use Rattle.definitions.specs.Response.{Response}
use Rattle.store.specs.Standing.{Standing}
use Rattle.intake.specs.Asking.{asks_in, asks_with, IsShutAnswer}
use Rattle.intake.specs.Admitting.{asks_for}
use Rattle.intake.specs.Reaching.{asked_for}
use Rattle.intake.specs.Fields.{head_of}
use Rattle.intake.specs.Targets.{asked_with, target_of}
use Rattle.request_guard.specs.declared.askers.Asker.{Asker}
use Rattle.request_guard.specs.declared.askers.Asker.TheVariants.{Unnamed, Depositor, Unknown}
use Rattle.intake.specs.declared.audience.Audience.{Audience}
use Rattle.intake.proofs.Aimed.{asked_unnamed}

-- by the body that is asked with
asked_by : (old : Standing) (r : Response) (audience : Audience) (h : RequestHead) (rest : List ℕ) (q : Result (List ℕ) ℕ) → asked_with (head_of h) (target_of audience h.target) rest ≡ q
    → IsShutAnswer old (asks_with (head_of h).method (target_of audience h.target) q) r → IsShutAnswer old (asks_in audience (Some h) rest) r
asked_by old r audience h rest q e is =
    subst (λ (p : Result (List ℕ) ℕ). IsShutAnswer old (asks_with (head_of h).method (target_of audience h.target) p) r) (sym e) is

-- and by the asker's
pub asked_by_asker : (old : Standing) (r : Response) (asker : Asker) (audience : Audience) (h : RequestHead) (rest : List ℕ) (q : Result (List ℕ) ℕ) → asked_for asker (head_of h) (target_of audience h.target) rest ≡ q
    → IsShutAnswer old (asks_with (head_of h).method (target_of audience h.target) q) r → IsShutAnswer old (asks_for asker audience h rest) r
asked_by_asker old r Unnamed audience h rest q e is = asked_by old r audience h rest q (sym (asked_unnamed (head_of h) (target_of audience h.target) rest) ∙ e) is
asked_by_asker old r (Depositor w) audience h rest q e is =
    subst (λ (p : Result (List ℕ) ℕ). IsShutAnswer old (asks_with (head_of h).method (target_of audience h.target) p) r) (sym e) is
asked_by_asker old r Unknown audience h rest q e is =
    subst (λ (p : Result (List ℕ) ℕ). IsShutAnswer old (asks_with (head_of h).method (target_of audience h.target) p) r) (sym e) is
