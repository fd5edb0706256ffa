use Rattle.std.proofs.Common.{◌++◌, List, ℕ, Vec, Global, ap, sym, ◌∙◌, arith}
use Rattle.reports.specs.Open.{advice_headings, advice_line}
use Rattle.reports.proofs.MoreLaws.{one_passes, one_fails}
use Rattle.reports.proofs.OpenLaws.{all_after}
use Rattle.reports.proofs.open_work.append_advices.Goals as goal
use Rattle.reports.proofs.open_work.append_advices.Goals.{then-is_open+in_ok-append_advice, else-is_open}

pub returns : goal.returns
returns c = c.loop-advice.invariant ∙ all_after advice_line (λ a. a.is_open) c.args.out.now.items advice_headings c.args.advices.now c.loop-advice.advice-index (omega arith)

pub loop-advice-preserved : goal.loop-advice-preserved
loop-advice-preserved c =
    let before = c.args.out.now.items ++ advice_headings in
    let advice = c.advice-item.result in
    elim c.if-is_open.branch [
      | then-is_open+in_ok-append_advice w ↦
          ap (λ (out : Vec ℕ Global). out.items) w.out-is
          ∙ (w.in_ok-append_advice.ensures
          ∙ ap (λ (text : List ℕ). text ++ advice_line advice) c.loop-advice.invariant
          ∙ one_passes advice_line (λ a. a.is_open) before c.args.advices.now c.loop-advice.advice-index advice
          c.loop-advice-test.true c.advice-item.is (sym c.is_open.ensures ∙ w.if-is_open.true))
      | else-is_open w ↦
          ap (λ (out : Vec ℕ Global). out.items) w.out-is
          ∙ (c.loop-advice.invariant
          ∙ one_fails advice_line (λ a. a.is_open) before c.args.advices.now c.loop-advice.advice-index advice
          c.loop-advice-test.true c.advice-item.is (sym c.is_open.ensures ∙ w.if-is_open.false))
    ]
