use Rattle.std.proofs.Common.{◌++◌, ◌∷◌, [], map, take, ap, sym, ◌∙◌}
use Rattle.std.proofs.lemmas.List.{map_more, take_all}
use Rattle.definitions.specs.Means.{AdviceLine, Line}
use Rattle.stock.proofs.copies.advised.Goals as goal

pub loop-line-preserved : goal.loop-line-preserved
loop-line-preserved c =
    let given : AdviceLine → Line = λ l. l.line in
    c.in_ok-push.ensures.items
    ∙ (λ i. c.loop-line.invariant i ++ (c.in_ok-copied.ensures ∙ ap given c.line.view_is) i ∷ [])
    ∙ ap (λ (l : AdviceLine). map given (take c.loop-line.line-index c.args.lines.now) ++ l.line ∷ []) c.line-item.is
    ∙ sym (map_more given c.args.lines.now c.loop-line.line-index c.line-item.result c.loop-line-test.true)

pub returns : goal.returns
returns c = c.loop-line.invariant ∙ ap (map (λ (l : AdviceLine). l.line)) (take_all c.loop-line.line-index c.args.lines.now c.loop-line-test.false)
