use Rattle.std.proofs.Common.{rules, ◌≡◌, sym, ◌∙◌}
use Rattle.std.specs.Prelude.{IsErrAnd}
use Rattle.sqlite.specs.Held.{state}
use Rattle.store.specs.Fault.{Fault}
use Rattle.book_statements.proofs.Applied.{advice_opened, advice_closed}
use Rattle.book_statements.proofs.Writes.{wrote_as, wrote_on, wrote_failed}
use Rattle.book_statements.proofs.changing.apply_advice.Goals as goal

pub returns-in_err-insert_advice-clause-wrote : goal.returns-in_err-insert_advice-clause-wrote
returns-in_err-insert_advice-clause-wrote g c =
    let same : IsErrAnd c.from_residual.result (λ (f : Fault). f ≡ c.in_err-insert_advice.field-0.0) = search rules in
    wrote_failed _ _ _ _ _ c.from_residual.result same c.in_err-insert_advice.ensures.wrote

pub returns-in_ok-insert_advice-clause-wrote : goal.returns-in_ok-insert_advice-clause-wrote
returns-in_ok-insert_advice-clause-wrote g c =
    wrote_on _ _ _ _ _ _ _ c.insert_advice_lines.result c.in_ok-insert_advice.ensures.wrote c.insert_advice_lines.ensures.wrote (λ put lines w is.
    advice_opened w c.args.who.now is _ _ _ (state g.S.Store c.args.tx.now.conn.now).now c.args.advice.now (sym c.is_open.ensures ∙ c.if-is_open.true) put lines)

pub returns-else-is_open-clause-wrote : goal.returns-else-is_open-clause-wrote
returns-else-is_open-clause-wrote g c =
    wrote_as _ _ _ _ c.put_advice.result c.put_advice.ensures.wrote (λ put w is.
    advice_closed w c.args.who.now is _ _ (state g.S.Store c.args.tx.now.conn.now).now (state g.S.Store c.args.tx.now.conn.now).now c.args.advice.now (sym c.is_open.ensures ∙ c.if-is_open.false) put)
