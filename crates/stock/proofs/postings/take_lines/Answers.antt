use Rattle.std.proofs.Common.{List, subst}
use Rattle.std.proofs.lemmas.List.{take_all}
use Rattle.definitions.specs.Means.{Line}
use Rattle.page_rows.specs.Columns.{column_of}
use Rattle.page_rows.proofs.Sums.{taken_more, next_there}
use Rattle.page_rows.specs.Moved.{IsTaken}
use Rattle.stock.proofs.postings.take_lines.Goals as goal

pub take_line-requires-clause-there : goal.take_line-requires-clause-there
take_line-requires-clause-there c =
    next_there (column_of c.args.column) c.args.lines.now c.loop-line.line-index c.line-item.result c.args.rows.now.items c.loop-line.rows.items
    c.loop-line-test.true c.line-item.is c.loop-line.invariant c.requires.there

pub loop-line-preserved : goal.loop-line-preserved
loop-line-preserved c =
    taken_more (column_of c.args.column) c.args.lines.now c.loop-line.line-index c.line-item.result c.args.rows.now.items c.loop-line.rows.items _
    c.loop-line-test.true c.line-item.is c.loop-line.invariant c.take_line.ensures

pub take_line-requires-clause-sorted : goal.take_line-requires-clause-sorted
take_line-requires-clause-sorted c = c.loop-line.invariant.sorted

pub returns : goal.returns
returns c = subst (λ (ls : List Line). IsTaken (column_of c.args.column) ls c.args.rows.now.items c.loop-line.rows.items)
    (take_all c.loop-line.line-index c.args.lines.now c.loop-line-test.false) c.loop-line.invariant
