use Rattle.std.proofs.Common.{take, ◌+◌, ◌∷◌, [], List, subst, true}
use Rattle.definitions.specs.Events.{quantity_of}
use Rattle.stock.proofs.Lefts.{less_end, less_more, line_least, line_next}
use Rattle.std.proofs.lemmas.List.{take_all}
use Rattle.definitions.specs.Means.{Line}
use Rattle.stock.specs.Left.{IsLess}
use Rattle.stock.proofs.left.take_lines.Goals as goal

pub returns-then-not-take_line : goal.returns-then-not-take_line
returns-then-not-take_line c =
    less_end c.args.rows.now (quantity_of (take c.loop-line.line-index c.args.lines.now)) (quantity_of (c.line-item.result ∷ [])) (quantity_of c.args.lines.now) _ _ _
    (line_least c.args.lines.now c.loop-line.line-index c.line-item.result c.loop-line-test.true c.line-item.is) c.loop-line.invariant c.if-not-take_line.ensures

pub loop-line-preserved : goal.loop-line-preserved
loop-line-preserved c =
    less_more c.args.rows.now (quantity_of (take c.loop-line.line-index c.args.lines.now)) (quantity_of (c.line-item.result ∷ []))
    (quantity_of (take (c.loop-line.line-index + 1) c.args.lines.now)) _ _ _
    (line_next c.args.lines.now c.loop-line.line-index c.line-item.result c.loop-line-test.true c.line-item.is) c.loop-line.invariant c.if-not-take_line.ensures

pub returns : goal.returns
returns c = subst (λ (ls : List Line). IsLess c.args.rows.now (quantity_of ls) c.args.left.now.items c.loop-line.left.items true)
    (take_all c.loop-line.line-index c.args.lines.now c.loop-line-test.false) c.loop-line.invariant
