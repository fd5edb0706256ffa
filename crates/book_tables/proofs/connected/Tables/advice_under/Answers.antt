use Rattle.std.proofs.Common.{refl, sym, subst, ◌∙◌}
use Rattle.std.proofs.lemmas.Result.{IfOk-weaker, IfErr-weaker}
use Rattle.definitions.specs.Register.{own}
use Rattle.store.specs.Fault.{Fault}
use Rattle.sqlite.specs.Held.{state}
use Rattle.book_statements.specs.Asking.{IsAskFault}
use Rattle.book_tables.specs.Looking.{bare_advice}
use Rattle.book_tables.proofs.Fits.{too_many}
use Rattle.book_tables.proofs.OwnEntries.{shows_none}
use Rattle.book_tables.proofs.AskedLater.{stands_later, clean_before}
use Rattle.book_tables.proofs.Queries.{asked_on, asked_then, asked_fails}
use Rattle.book_tables.proofs.Wholes.{none_bare, whole_advice}
use Rattle.book_tables.proofs.connected.Tables.advice_under.Goals as goal

pub returns-in_default-clause-advice : goal.returns-in_default-clause-advice
returns-in_default-clause-advice g c = λ clean W L stands.
    none_bare bare_advice _ (sym c.in_default.is ∙ c.in_ok-bare.ensures.advice clean W L stands)

pub returns-in-Ok-clause-advice : goal.returns-in-Ok-clause-advice
returns-in-Ok-clause-advice g c = λ clean W L stands.
    let old = state g.S.Store c.args.self.now.conn in
    let mid = state g.S.Store c.bare_advice.new.self.conn in
    let new = state g.S.Store c.advice_lines.new.self.conn in
    let early = clean_before mid new c.advice_lines.ensures.asked.left clean in
    IfOk-weaker c.with_lines.result _ _ (λ advice whole.
    whole ∙ whole_advice _ c.in-Some.bare c.in-Ok.lines.items (sym c.in-Some.is ∙ c.in_ok-bare.ensures.advice early W L stands)
    (c.in-Ok.ensures.lines clean W L (stands_later old mid W L early c.bare_advice.ensures.asked.left stands))) c.with_lines.ensures.whole

pub returns-in-Ok-clause-asked : goal.returns-in-Ok-clause-asked
returns-in-Ok-clause-asked g c =
    let mid = state g.S.Store c.bare_advice.new.self.conn in
    let new = state g.S.Store c.advice_lines.new.self.conn in
    asked_on g.S.Store c.args.self.now c.bare_advice.new.self c.advice_lines.new.self c.in_ok-bare.field-0 _ c.in_ok-bare.ensures.asked
    (asked_then g.S.Store c.bare_advice.new.self c.advice_lines.new.self c.in-Ok.lines _ c.in-Ok.ensures.asked
    (IfErr-weaker c.with_lines.result _ _ (λ fault many.
    subst (λ (f : Fault). IsAskFault f mid new c.bare_advice.new.self.refused c.advice_lines.new.self.refused) (sym many.0)
    (shows_none mid new c.bare_advice.new.self.refused c.advice_lines.new.self.refused (λ clean W L stands.
    too_many c.args.shipment.now (own L c.args.who) c.in-Ok.lines.items (c.in-Ok.ensures.lines clean W L stands) many.1))) c.with_lines.ensures.many))

pub returns-in-Err-clause-asked : goal.returns-in-Err-clause-asked
returns-in-Err-clause-asked g c =
    asked_on g.S.Store c.args.self.now c.bare_advice.new.self c.advice_lines.new.self c.in_ok-bare.field-0 _ c.in_ok-bare.ensures.asked
    (asked_fails g.S.Store c.bare_advice.new.self c.advice_lines.new.self c.in-Err.fault _ refl c.in-Err.ensures.asked)
