use Rattle.std.proofs.Common.{rules, arith, ◌≡◌, get_or, [], ◌∷◌, subst, sym, ap, map, ◌∙◌}
use Rattle.std.specs.Prelude.{IsErrAnd}
use Rattle.definitions.specs.Means.{Line}
use Rattle.definitions.specs.Page.{PageOrder}
use Rattle.sqlite.specs.Held.{state}
use Rattle.store.specs.Fault.{Fault}
use Rattle.book_statements.specs.Leading.{Leads}
use Rattle.book_statements.proofs.LeadingLemmas.{left_of, left_empty}
use Rattle.book_statements.proofs.Lines.{reservation_change, reservations_are}
use Rattle.book_statements.proofs.Writes.{wrote_as, wrote_nothing, wrote_on, wrote_failed}
use Rattle.book_statements.proofs.changing.insert_reservations.Goals as goal

pub loop-line-init : goal.loop-line-init
loop-line-init g c = record {
  same = search rules;
  wrote = wrote_nothing _ _ _ (λ last rest. rest);
}

pub loop-line-preserved : goal.loop-line-preserved
loop-line-preserved g c =
    let was = c.loop-line.invariant in
    record {
      same = search rules;
      wrote = wrote_on _ _ _ _ _ _ _ _ was.wrote c.in_ok-insert_reservation.ensures.wrote (λ led put last rest.
          let element : c.line-item.result ≡ get_or c.deref-line-items.result.now c.loop-line.line-index c.line-item.result = search rules in
          let one = subst (λ (p : Line). Leads (reservation_change c.args.who.now c.as_slice-number.result.now p ∷ []) (state g.S.Store c.loop-line.tx.conn.now).now (state g.S.Store c.insert_reservation.new.tx.conn.now).now) element put in
          led last (left_of (reservation_change c.args.who.now c.as_slice-number.result.now) c.deref-line-items.result.now c.loop-line.line-index c.line-item.result _ _ last c.loop-line-test.true one rest));
    }

pub returns-in_err-insert_reservation-clause-wrote : goal.returns-in_err-insert_reservation-clause-wrote
returns-in_err-insert_reservation-clause-wrote g c =
    let same : IsErrAnd c.from_residual.result (λ (f : Fault). f ≡ c.in_err-insert_reservation.field-0.0) = search rules in
    wrote_failed _ _ _ _ _ c.from_residual.result same
    (wrote_on _ _ _ _ _ _ _ _ c.loop-line.invariant.wrote c.in_err-insert_reservation.ensures.wrote (λ led put. put))

pub returns-clause-wrote : goal.returns-clause-wrote
returns-clause-wrote g c =
    let here = (state g.S.Store c.loop-line.tx.conn.now).now in
    let shown = (λ i. map (reservation_change c.args.who.now ((c.as_slice-number.ensures.value ∙ ap (λ (k : PageOrder). k.number) c.order.view_is) i)) ((c.deref-line-items.ensures.value ∙ ap (λ (k : PageOrder). k.reserved) c.order.view_is) i)) ∙ sym (reservations_are c.args.who.now c.args.order.now) in
    wrote_as _ _ _ _ _ c.loop-line.invariant.wrote (λ led. subst (λ cs. Leads cs (state g.S.Store c.args.tx.now.conn.now).now here) shown
    (led here (left_empty (reservation_change c.args.who.now c.as_slice-number.result.now) c.deref-line-items.result.now c.loop-line.line-index here (omega (arith, c.loop-line-test.false)))))
