use Rattle.std.proofs.Common.{rules, ◌≡◌}
use Rattle.std.specs.Prelude.{IsErrAnd}
use Rattle.sqlite.specs.Held.{state}
use Rattle.store.specs.Fault.{Fault}
use Rattle.book_statements.proofs.CreateLemmas.{made_fourth, widened}
use Rattle.book_statements.proofs.Writes.{wrote_on, wrote_failed}
use Rattle.book_statements.proofs.making.make_fourth.Goals as goal

pub returns-in_err-run-clause-wrote : goal.returns-in_err-run-clause-wrote
returns-in_err-run-clause-wrote g c =
    let same : IsErrAnd c.from_residual.result (λ (f : Fault). f ≡ c.in_err-run.field-0.0) = search rules in
    wrote_failed _ _ _ _ _ c.from_residual.result same c.in_err-run.ensures.wrote

pub returns-clause-wrote : goal.returns-clause-wrote
returns-clause-wrote g c =
    let a = state g.S.Store c.args.tx.now.conn.now in
    let b = state g.S.Store c.run.new.tx.conn.now in
    let d = state g.S.Store c.run-2.new.tx.conn.now in
    wrote_on a b d _ _ _ _ c.run-2.result c.in_ok-run.ensures.wrote c.run-2.ensures.wrote (λ one two.
    ((λ was. (made_fourth a b d one.count two.count was one.executes two.executes).0), (one.goes_on.was_open, widened a b d one.count two.count one.executes two.executes)))
