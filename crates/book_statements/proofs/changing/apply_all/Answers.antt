use Rattle.std.proofs.Common.{rules, arith, ◌≡◌, get_or, subst}
use Rattle.std.specs.Prelude.{IsErrAnd}
use Rattle.rules.specs.Tabled.{table_changes_of}
use Rattle.sqlite.specs.Held.{state}
use Rattle.store.specs.Fault.{Fault}
use Rattle.book_statements.specs.Leading.{Leads}
use Rattle.book_statements.proofs.LeadingLemmas.{left_more, left_nothing}
use Rattle.book_statements.proofs.Writes.{wrote_as, wrote_nothing, wrote_on, wrote_failed}
use Rattle.book_statements.proofs.changing.apply_all.Goals as goal

pub loop-change-init : goal.loop-change-init
loop-change-init g c = record { same = search rules; wrote = wrote_nothing _ _ _ (λ w is last rest. rest) }

pub loop-change-preserved : goal.loop-change-preserved
loop-change-preserved g c =
    let was = c.loop-change.invariant in
    record {
      same = search rules;
      wrote = wrote_on _ _ _ _ _ _ _ _ was.wrote c.in_ok-apply_change.ensures.wrote (λ led put w is last rest.
          let element : c.change-item.result ≡ get_or c.args.changes.now c.loop-change.change-index c.change-item.result = search rules in
          let one = subst (λ d. Leads (table_changes_of w d) (state g.S.Store c.loop-change.tx.conn.now).now (state g.S.Store c.apply_change.new.tx.conn.now).now) element (put w is) in
          led w is last (left_more (table_changes_of w) c.args.changes.now c.loop-change.change-index c.change-item.result _ _ last c.loop-change-test.true one rest));
    }

pub returns-in_err-apply_change-clause-wrote : goal.returns-in_err-apply_change-clause-wrote
returns-in_err-apply_change-clause-wrote g c =
    let same : IsErrAnd c.from_residual.result (λ (f : Fault). f ≡ c.in_err-apply_change.field-0.0) = search rules in
    wrote_failed _ _ _ _ _ c.from_residual.result same
    (wrote_on _ _ _ _ _ _ _ _ c.loop-change.invariant.wrote c.in_err-apply_change.ensures.wrote (λ led put. put))

pub returns-clause-wrote : goal.returns-clause-wrote
returns-clause-wrote g c =
    let here = (state g.S.Store c.loop-change.tx.conn.now).now in
    wrote_as _ _ _ _ _ c.loop-change.invariant.wrote (λ led w is. led w is here (left_nothing (table_changes_of w) c.args.changes.now c.loop-change.change-index here (omega (arith, c.loop-change-test.false))))
