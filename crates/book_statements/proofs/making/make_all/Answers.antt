use Rattle.std.proofs.Common.{rules, ap, subst, ◌∙◌, ◌≡◌}
use Rattle.std.specs.Prelude.{IsErrAnd}
use Rattle.definitions.specs.Header.{Who}
use Rattle.sqlite.specs.Held.{state}
use Rattle.store.specs.Fault.{Fault}
use Rattle.book_statements.specs.Making.{HasBook}
use Rattle.book_statements.proofs.Writes.{wrote_on, wrote_failed, wrote_both}
use Rattle.book_statements.proofs.making.make_all.Goals as goal

pub returns-in_err-make_first-clause-wrote : goal.returns-in_err-make_first-clause-wrote
returns-in_err-make_first-clause-wrote g c =
    let same : IsErrAnd c.from_residual.result (λ (f : Fault). f ≡ c.in_err-make_first.field-0.0) = search rules in
    wrote_failed _ _ _ _ _ c.from_residual.result same c.in_err-make_first.ensures.wrote

pub returns-in_err-make_second-clause-wrote : goal.returns-in_err-make_second-clause-wrote
returns-in_err-make_second-clause-wrote g c =
    let same : IsErrAnd c.from_residual-in_err-make_second.result (λ (f : Fault). f ≡ c.in_err-make_second.field-0.0) = search rules in
    wrote_failed _ _ _ _ _ c.from_residual-in_err-make_second.result same
    (wrote_on _ _ _ _ _ _ _ _ c.in_ok-make_first.ensures.wrote c.in_err-make_second.ensures.wrote (λ one two. two))

pub returns-in_err-make_third-clause-wrote : goal.returns-in_err-make_third-clause-wrote
returns-in_err-make_third-clause-wrote g c =
    let same : IsErrAnd c.from_residual-in_err-make_third.result (λ (f : Fault). f ≡ c.in_err-make_third.field-0.0) = search rules in
    wrote_failed _ _ _ _ _ c.from_residual-in_err-make_third.result same
    (wrote_on _ _ _ _ _ _ _ _ (wrote_both _ _ _ _ _ _ _ _ c.in_ok-make_first.ensures.wrote c.in_ok-make_second.ensures.wrote) c.in_err-make_third.ensures.wrote (λ both three. three))

pub returns-in_err-make_fourth-clause-wrote : goal.returns-in_err-make_fourth-clause-wrote
returns-in_err-make_fourth-clause-wrote g c =
    let same : IsErrAnd c.from_residual-in_err-make_fourth.result (λ (f : Fault). f ≡ c.in_err-make_fourth.field-0.0) = search rules in
    wrote_failed _ _ _ _ _ c.from_residual-in_err-make_fourth.result same
    (wrote_on _ _ _ _ _ _ _ _ (wrote_both _ _ _ _ _ _ _ _ (wrote_both _ _ _ _ _ _ _ _ c.in_ok-make_first.ensures.wrote c.in_ok-make_second.ensures.wrote) c.in_ok-make_third.ensures.wrote) c.in_err-make_fourth.ensures.wrote
    (λ all four. four))

pub returns-clause-wrote : goal.returns-clause-wrote
returns-clause-wrote g c =
    let last = (state g.S.Store c.insert_book.new.tx.conn.now).now in
    let qualifier = c.qualifier.ensures ∙ ap (λ (w : Who). w.qualifier) c.who-who.ensures in
    let id = c.id.ensures ∙ ap (λ (w : Who). w.id) c.who-who.ensures in
    let three = wrote_both _ _ _ _ _ _ _ _ (wrote_both _ _ _ _ _ _ _ _ c.in_ok-make_first.ensures.wrote c.in_ok-make_second.ensures.wrote) c.in_ok-make_third.ensures.wrote in
    wrote_on _ _ _ _ _ _ _ c.insert_book.result (wrote_both _ _ _ _ _ _ _ _ three c.in_ok-make_fourth.ensures.wrote) c.insert_book.ensures.wrote
    (λ made book none. subst (λ (P : Type 0). P) (λ i. HasBook (qualifier i) (id i) last) (book (made.1.0 (made.0.1 (made.0.0.1 (made.0.0.0 (record { schema = none; empty = tt })))))))
