use Rattle.stock.proofs.Leads.{touched_more}
use Rattle.std.proofs.Common.{List, subst}
use Rattle.std.proofs.lemmas.List.{take_all}
use Rattle.definitions.specs.Means.{Line}
use Rattle.stock.specs.Touched.{IsTouched}
use Rattle.stock.proofs.places.touched.Goals as goal

pub loop-line-preserved : goal.loop-line-preserved
loop-line-preserved c = touched_more c.args.lines.now c.loop-line.line-index c.line-item.result c.args.rows.now c.loop-line.touched.items _
    c.loop-line-test.true c.line-item.is c.loop-line.invariant c.in_ok-touch.ensures

pub touch-requires-clause-touched : goal.touch-requires-clause-touched
touch-requires-clause-touched c = c.loop-line.invariant.sorted

pub returns : goal.returns
returns c = subst (λ (ls : List Line). IsTouched ls c.args.rows.now c.loop-line.touched.items)
    (take_all c.loop-line.line-index c.args.lines.now c.loop-line-test.false) c.loop-line.invariant
