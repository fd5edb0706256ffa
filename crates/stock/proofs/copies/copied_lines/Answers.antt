use Rattle.std.proofs.Common.{◌++◌, ◌∷◌, [], take, ap, sym, ◌∙◌}
use Rattle.std.proofs.lemmas.List.{take_all, take_more}
use Rattle.definitions.specs.Means.{Line}
use Rattle.stock.proofs.copies.copied_lines.Goals as goal

pub loop-line-preserved : goal.loop-line-preserved
loop-line-preserved c =
    c.in_ok-push.ensures.items
    ∙ (λ i. c.loop-line.invariant i ++ c.in_ok-copied.ensures i ∷ [])
    ∙ ap (λ (l : Line). take c.loop-line.line-index c.args.lines.now ++ l ∷ []) c.line-item.is
    ∙ sym (take_more c.args.lines.now c.loop-line.line-index c.line-item.result c.loop-line-test.true)

pub returns : goal.returns
returns c = c.loop-line.invariant ∙ take_all c.loop-line.line-index c.args.lines.now c.loop-line-test.false
