use Rattle.std.proofs.Common.{rules, ◌≡◌, List, ℕ, None, Some, Option}
use Rattle.std.specs.Prelude.{IsErrAnd}
use Rattle.sqlite.specs.Held.{state}
use Rattle.store.specs.Fault.{Fault}
use Rattle.book_statements.proofs.Applied.{row_dated, row_undated}
use Rattle.book_statements.proofs.Writes.{wrote_as, wrote_on, wrote_failed}
use Rattle.book_statements.proofs.changing.apply_row.Goals as goal

pub returns-in_err-put_stock-clause-wrote : goal.returns-in_err-put_stock-clause-wrote
returns-in_err-put_stock-clause-wrote g c =
    let same : IsErrAnd c.from_residual.result (λ (f : Fault). f ≡ c.in_err-put_stock.field-0.0) = search rules in
    wrote_failed _ _ _ _ _ c.from_residual.result same c.in_err-put_stock.ensures.wrote

pub returns-in-Some-clause-wrote : goal.returns-in-Some-clause-wrote
returns-in-Some-clause-wrote g c =
    let dated : ◌≡◌ {A = Option (List ℕ)} (Some c.deref.result.now) c.args.row.now.expiry = search rules in
    wrote_on _ _ _ _ _ _ _ c.put_expiry.result c.in_ok-put_stock.ensures.wrote c.put_expiry.ensures.wrote (λ put date w is.
    row_dated w c.args.who.now is (state g.S.Store c.args.tx.now.conn.now).now (state g.S.Store c.put_stock.new.tx.conn.now).now (state g.S.Store c.put_expiry.new.tx.conn.now).now
    (state g.S.Store c.args.tx.now.conn.now).now c.args.row.now c.deref.result.now dated put date)

pub returns-in-None-clause-wrote : goal.returns-in-None-clause-wrote
returns-in-None-clause-wrote g c =
    let undated : ◌≡◌ {A = Option (List ℕ)} None c.args.row.now.expiry = search rules in
    wrote_as _ _ _ _ _ c.in_ok-put_stock.ensures.wrote (λ put w is.
    row_undated w c.args.who.now is (state g.S.Store c.args.tx.now.conn.now).now (state g.S.Store c.put_stock.new.tx.conn.now).now (state g.S.Store c.args.tx.now.conn.now).now
    (state g.S.Store c.args.tx.now.conn.now).now c.args.row.now undated put)
