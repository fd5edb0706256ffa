use Rattle.std.proofs.Common.{rules, arith, ◌≡◌, ◌+◌, ℕ, get_or, [], ◌∷◌, subst, sym, map, ◌∙◌}
use Rattle.std.specs.Prelude.{IsErrAnd}
use Rattle.std.specs.List.{enumerate_from}
use Rattle.definitions.specs.Means.{Line}
use Rattle.sqlite.specs.Held.{state}
use Rattle.store.specs.Fault.{Fault}
use Rattle.book_statements.specs.Leading.{Leads}
use Rattle.book_statements.proofs.Limited.{spends_same}
use Rattle.book_statements.proofs.LeadingLemmas.{left_on, left_none}
use Rattle.book_statements.proofs.Lines.{advice_line_change, advice_lines_are}
use Rattle.book_statements.proofs.Writes.{wrote_as, wrote_nothing, wrote_on, wrote_refused, wrote_failed}
use Rattle.book_statements.proofs.changing.insert_advice_lines.Goals as goal

pub loop-line-init : goal.loop-line-init
loop-line-init g c = record {
  same = search rules;
  number = search rules;
  wrote = wrote_nothing _ _ _ (λ last rest. rest);
}

pub loop-line-preserved : goal.loop-line-preserved
loop-line-preserved g c =
    let was = c.loop-line.invariant in
    record {
      same = search rules;
      number = search rules;
      wrote = wrote_on _ _ _ _ _ _ _ _ was.wrote c.in_ok-insert_advice_line.ensures.wrote (λ led put last rest.
          let number : c.in-Some.next ≡ c.loop-line.line-index + 1 = search rules in
          let element : c.line-item.result ≡ get_or c.lines-line-items.result.now c.loop-line.line-index c.line-item.result = search rules in
          let one = subst (λ (p : ℕ × Line). Leads (advice_line_change c.args.who.now c.shipment-shipment.result.now p ∷ []) (state g.S.Store c.loop-line.tx.conn.now).now (state g.S.Store c.insert_advice_line.new.tx.conn.now).now) (λ i. (number i, element i)) put in
          led last (left_on (advice_line_change c.args.who.now c.shipment-shipment.result.now) c.lines-line-items.result.now c.loop-line.line-index c.line-item.result _ _ last c.loop-line-test.true one rest));
    }

pub returns-in_default-clause-wrote : goal.returns-in_default-clause-wrote
returns-in_default-clause-wrote g c =
    wrote_on _ _ _ _ _ _ _ _ c.loop-line.invariant.wrote (wrote_refused (state g.S.Store c.loop-line.tx.conn.now) _ _ _ c.refuse.ensures.told c.refuse.ensures.counted (spends_same _ _ _ _ c.refuse.ensures.made c.refuse.ensures.limit)) (λ led none. none)

pub returns-in_err-insert_advice_line-clause-wrote : goal.returns-in_err-insert_advice_line-clause-wrote
returns-in_err-insert_advice_line-clause-wrote g c =
    let same : IsErrAnd c.from_residual.result (λ (f : Fault). f ≡ c.in_err-insert_advice_line.field-0.0) = search rules in
    wrote_failed _ _ _ _ _ c.from_residual.result same
    (wrote_on _ _ _ _ _ _ _ _ c.loop-line.invariant.wrote c.in_err-insert_advice_line.ensures.wrote (λ led put. put))

pub returns-clause-wrote : goal.returns-clause-wrote
returns-clause-wrote g c =
    let here = (state g.S.Store c.loop-line.tx.conn.now).now in
    let shown = (λ i. map (advice_line_change c.args.who.now (c.shipment-shipment.ensures i)) (enumerate_from 1 (c.lines-line-items.ensures i))) ∙ sym (advice_lines_are c.args.who.now c.args.advice.now) in
    wrote_as _ _ _ _ _ c.loop-line.invariant.wrote (λ led. subst (λ cs. Leads cs (state g.S.Store c.args.tx.now.conn.now).now here) shown
    (led here (left_none (advice_line_change c.args.who.now c.shipment-shipment.result.now) c.lines-line-items.result.now c.loop-line.line-index (c.loop-line.line-index + 1) here (omega (arith, c.loop-line-test.false)))))
