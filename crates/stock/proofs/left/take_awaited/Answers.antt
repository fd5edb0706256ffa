use Rattle.std.proofs.Common.{sym, List, subst, true}
use Rattle.definitions.specs.Page.{PageAdvice}
use Rattle.stock.proofs.Lefts.{open_end, open_more, open_none}
use Rattle.std.proofs.lemmas.List.{take_all}
use Rattle.stock.specs.Left.{IsLess}
use Rattle.page_rows.specs.Pages.{awaited}
use Rattle.stock.proofs.left.take_awaited.Goals as goal
use Rattle.stock.proofs.left.take_awaited.Goals.{else-is_open-via-then-is_open+else-not-take_lines, else-is_open-via-else-is_open}

pub returns-then-not-take_lines : goal.returns-then-not-take_lines
returns-then-not-take_lines c =
    open_end (λ (k : PageAdvice). k.is_open) (λ k. k.lines) c.args.rows.now c.args.advices.now c.loop-advice.advice-index c.advice-item.result _ _ _
    c.loop-advice-test.true c.advice-item.is (sym c.if-is_open.ensures) c.loop-advice.invariant (rw c.lines.ensures at c.if-not-take_lines.ensures)

pub loop-advice-preserved : goal.loop-advice-preserved
loop-advice-preserved c = elim c.else-is_open.branch [
  | else-is_open-via-then-is_open+else-not-take_lines w ↦
      rw w.left-is (open_more (λ (k : PageAdvice). k.is_open) (λ k. k.lines) c.args.rows.now c.args.advices.now c.loop-advice.advice-index c.advice-item.result _ _ _
      c.loop-advice-test.true c.advice-item.is (sym w.if-is_open.ensures) c.loop-advice.invariant (rw w.lines.ensures at w.if-not-take_lines.ensures))
  | else-is_open-via-else-is_open w ↦
      rw w.left-is (open_none (λ (k : PageAdvice). k.is_open) (λ k. k.lines) c.args.rows.now c.args.advices.now c.loop-advice.advice-index c.advice-item.result _ _
      c.loop-advice-test.true c.advice-item.is (sym w.if-is_open.ensures) c.loop-advice.invariant)
]

pub returns : goal.returns
returns c = subst (λ (ks : List PageAdvice). IsLess c.args.rows.now (awaited ks) c.args.left.now.items c.loop-advice.left.items true)
    (take_all c.loop-advice.advice-index c.args.advices.now c.loop-advice-test.false) c.loop-advice.invariant
