use Rattle.std.proofs.Common.{◌++◌, ◌∷◌, [], map, take, ap, sym, ◌∙◌}
use Rattle.std.proofs.lemmas.List.{map_more, take_all}
use Rattle.definitions.specs.Means.{OrderLine}
use Rattle.definitions.specs.Page.{page_line}
use Rattle.stock.proofs.copies.known_lines.Goals as goal

pub loop-line-preserved : goal.loop-line-preserved
loop-line-preserved c =
    c.in_ok-push.ensures.items
    ∙ (λ i. c.loop-line.invariant i ++ c.in_ok-known_line.ensures i ∷ [])
    ∙ ap (λ (l : OrderLine). map page_line (take c.loop-line.line-index c.args.lines.now) ++ page_line l ∷ []) c.line-item.is
    ∙ sym (map_more page_line c.args.lines.now c.loop-line.line-index c.line-item.result c.loop-line-test.true)

pub returns : goal.returns
returns c = c.loop-line.invariant ∙ ap (map page_line) (take_all c.loop-line.line-index c.args.lines.now c.loop-line-test.false)
