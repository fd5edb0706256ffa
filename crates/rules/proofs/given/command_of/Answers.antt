use Rattle.std.proofs.Common.{◌≡◌, ℕ, ◌∷◌, sym, ap, ◌∙◌}
use Rattle.std.proofs.lemmas.Result.{IfOk-weaker}
use Rattle.entries.specs.Written.{Written}
use Rattle.rules.proofs.GivenRead.{act_given}
use Rattle.rules.proofs.given.command_of.Goals as goal

-- the key is `T` and the ticket
pub returns-in-84 : goal.returns-in-84
returns-in-84 c =
    let name = c.in-Some.name.now in
    let key : c.args.entry.now.key ≡ 84 ∷ name =
    ap (λ (w : Written). w.key) (sym c.entry.view_is) ∙ sym c.deref.ensures.value ∙ c.in-Some.ensures.cases.0 ∙ ap (λ (letter : ℕ). letter ∷ name) c.in-84.is in
    IfOk-weaker c.performed.result _ _ (λ o read n e is good.
    act_given c.args.entry.now n e c.who-who.result name c.body-body.result.now c.rules-rules.result o is good key c.who-who.ensures c.body-body.ensures c.rules-rules.ensures read) c.performed.ensures
