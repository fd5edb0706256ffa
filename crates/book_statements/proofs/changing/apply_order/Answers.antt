use Rattle.std.proofs.Common.{rules, ◌≡◌, ap, sym, subst, ◌∙◌, ℕ, List, [], ◌∷◌}
use Rattle.std.specs.Prelude.{IsErrAnd}
use Rattle.definitions.specs.Changes.{Frees}
use Rattle.definitions.specs.Page.{PageOrder}
use Rattle.sqlite.specs.Held.{state}
use Rattle.store.specs.Fault.{Fault}
use Rattle.book_statements.specs.Leading.{Leads}
use Rattle.book_statements.proofs.Applied.{order_opened, order_closed}
use Rattle.book_statements.proofs.Writes.{wrote_on, wrote_failed, wrote_both}
use Rattle.book_statements.proofs.changing.apply_order.Goals as goal

pub returns-in_err-insert_order-clause-wrote : goal.returns-in_err-insert_order-clause-wrote
returns-in_err-insert_order-clause-wrote g c =
    let same : IsErrAnd c.from_residual.result (λ (f : Fault). f ≡ c.in_err-insert_order.field-0.0) = search rules in
    wrote_failed _ _ _ _ _ c.from_residual.result same c.in_err-insert_order.ensures.wrote

pub returns-in_err-insert_order_lines-clause-wrote : goal.returns-in_err-insert_order_lines-clause-wrote
returns-in_err-insert_order_lines-clause-wrote g c =
    let same : IsErrAnd c.from_residual-in_err-insert_order_lines.result (λ (f : Fault). f ≡ c.in_err-insert_order_lines.field-0.0) = search rules in
    wrote_failed _ _ _ _ _ c.from_residual-in_err-insert_order_lines.result same
    (wrote_on _ _ _ _ _ _ _ _ c.in_ok-insert_order.ensures.wrote c.in_err-insert_order_lines.ensures.wrote (λ put lines. lines))

pub returns-in_ok-insert_order_lines-clause-wrote : goal.returns-in_ok-insert_order_lines-clause-wrote
returns-in_ok-insert_order_lines-clause-wrote g c =
    wrote_on _ _ _ _ _ _ _ c.insert_reservations.result (wrote_both _ _ _ _ _ _ _ _ c.in_ok-insert_order.ensures.wrote c.in_ok-insert_order_lines.ensures.wrote) c.insert_reservations.ensures.wrote (λ both reserved w is.
    order_opened w c.args.who.now is _ _ _ _ c.args.order.now (ap (λ (k : PageOrder). k.is_open) (sym c.order.view_is) ∙ c.if-order.true) both.0 both.1 reserved)

pub returns-in_err-put_order-clause-wrote : goal.returns-in_err-put_order-clause-wrote
returns-in_err-put_order-clause-wrote g c =
    let same : IsErrAnd c.from_residual-in_err-put_order.result (λ (f : Fault). f ≡ c.in_err-put_order.field-0.0) = search rules in
    wrote_failed _ _ _ _ _ c.from_residual-in_err-put_order.result same c.in_err-put_order.ensures.wrote

pub returns-in_ok-put_order-clause-wrote : goal.returns-in_ok-put_order-clause-wrote
returns-in_ok-put_order-clause-wrote g c =
    let before = (state g.S.Store c.put_order.new.tx.conn.now).now in
    let after = (state g.S.Store c.free_reservations.new.tx.conn.now).now in
    let number = c.deref.ensures.value ∙ ap (λ (k : PageOrder). k.number) c.order.view_is in
    wrote_on _ _ _ _ _ _ _ c.free_reservations.result c.in_ok-put_order.ensures.wrote c.free_reservations.ensures.wrote (λ put freed w is.
    order_closed w c.args.who.now is _ _ _ (state g.S.Store c.args.tx.now.conn.now).now c.args.order.now (ap (λ (k : PageOrder). k.is_open) (sym c.order.view_is) ∙ c.if-order.false) put
    (subst (λ (t : List ℕ). Leads (Frees c.args.who.now t ∷ []) before after) number freed))
