use Rattle.std.proofs.Common.{rules, ◌≡◌}
use Rattle.std.specs.Prelude.{IsErrAnd}
use Rattle.sqlite.specs.Held.{state}
use Rattle.store.specs.Fault.{Fault}
use Rattle.book_statements.proofs.CreateLemmas.{made_third}
use Rattle.book_statements.proofs.Writes.{wrote_on, wrote_failed, wrote_both}
use Rattle.book_statements.proofs.making.make_third.Goals as goal

pub returns-in_err-run-clause-wrote : goal.returns-in_err-run-clause-wrote
returns-in_err-run-clause-wrote g c =
    let same : IsErrAnd c.from_residual.result (λ (f : Fault). f ≡ c.in_err-run.field-0.0) = search rules in
    wrote_failed _ _ _ _ _ c.from_residual.result same c.in_err-run.ensures.wrote

pub returns-in_err-run-2-clause-wrote : goal.returns-in_err-run-2-clause-wrote
returns-in_err-run-2-clause-wrote g c =
    let same : IsErrAnd c.from_residual-in_err-run-2.result (λ (f : Fault). f ≡ c.in_err-run-2.field-0.0) = search rules in
    wrote_failed _ _ _ _ _ c.from_residual-in_err-run-2.result same
    (wrote_on _ _ _ _ _ _ _ _ c.in_ok-run.ensures.wrote c.in_err-run-2.ensures.wrote (λ one two. two))

pub returns-clause-wrote : goal.returns-clause-wrote
returns-clause-wrote g c =
    let a = state g.S.Store c.args.tx.now.conn.now in
    let b = state g.S.Store c.run.new.tx.conn.now in
    let d = state g.S.Store c.run-2.new.tx.conn.now in
    let e = state g.S.Store c.run-3.new.tx.conn.now in
    wrote_on a d e _ _ _ _ c.run-3.result (wrote_both a b d _ _ _ _ _ c.in_ok-run.ensures.wrote c.in_ok-run-2.ensures.wrote) c.run-3.ensures.wrote (λ both three was. (made_third a b d e both.0.count both.1.count three.count was both.0.executes both.1.executes three.executes).0)
