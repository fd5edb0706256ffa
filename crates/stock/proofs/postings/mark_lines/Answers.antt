use Rattle.std.proofs.Common.{List, subst}
use Rattle.std.proofs.lemmas.List.{take_all}
use Rattle.definitions.specs.Means.{Line}
use Rattle.stock.proofs.Marks.{marked_more, next_named}
use Rattle.page_rows.specs.Moved.{IsMarked}
use Rattle.stock.proofs.postings.mark_lines.Goals as goal

pub mark_line-requires-clause-there : goal.mark_line-requires-clause-there
mark_line-requires-clause-there c = next_named c.args.n c.args.lines.now c.loop-line.line-index c.line-item.result c.args.rows.now.items c.loop-line.rows.items
    c.loop-line-test.true c.line-item.is c.loop-line.invariant c.requires.there

pub loop-line-preserved : goal.loop-line-preserved
loop-line-preserved c = marked_more c.args.n c.args.lines.now c.loop-line.line-index c.line-item.result c.args.rows.now.items c.loop-line.rows.items _
    c.requires.positive c.loop-line-test.true c.line-item.is c.loop-line.invariant c.mark_line.ensures

pub mark_line-requires-clause-sorted : goal.mark_line-requires-clause-sorted
mark_line-requires-clause-sorted c = c.loop-line.invariant.sorted

pub returns : goal.returns
returns c = subst (λ (ls : List Line). IsMarked c.args.n ls c.args.rows.now.items c.loop-line.rows.items)
    (take_all c.loop-line.line-index c.args.lines.now c.loop-line-test.false) c.loop-line.invariant
