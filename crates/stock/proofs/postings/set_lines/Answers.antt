use Rattle.std.proofs.Common.{List, subst}
use Rattle.std.proofs.lemmas.List.{take_all}
use Rattle.definitions.specs.Means.{Line}
use Rattle.stock.proofs.Raises.{set_more, next_set}
use Rattle.page_rows.specs.Moved.{SetsOnHand}
use Rattle.stock.proofs.postings.set_lines.Goals as goal

pub set_line-requires-clause-there : goal.set_line-requires-clause-there
set_line-requires-clause-there c = next_set c.args.lines.now c.loop-line.line-index c.line-item.result c.args.rows.now.items c.loop-line.rows.items
    c.loop-line-test.true c.line-item.is c.loop-line.invariant c.requires.there

pub loop-line-preserved : goal.loop-line-preserved
loop-line-preserved c = set_more c.args.lines.now c.loop-line.line-index c.line-item.result c.args.rows.now.items c.loop-line.rows.items _
    c.loop-line-test.true c.line-item.is c.loop-line.invariant c.set_line.ensures

pub set_line-requires-clause-sorted : goal.set_line-requires-clause-sorted
set_line-requires-clause-sorted c = c.loop-line.invariant.sorted

pub returns : goal.returns
returns c = subst (λ (ls : List Line). SetsOnHand ls c.args.rows.now.items c.loop-line.rows.items)
    (take_all c.loop-line.line-index c.args.lines.now c.loop-line-test.false) c.loop-line.invariant
