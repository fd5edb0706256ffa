use Rattle.std.proofs.Common.{List, subst}
use Rattle.std.proofs.lemmas.List.{take_all}
use Rattle.definitions.specs.Means.{Line}
use Rattle.page_rows.specs.Columns.{column_of}
use Rattle.page_rows.proofs.Sums.{added_more, next_fits}
use Rattle.page_rows.specs.Moved.{IsAdded}
use Rattle.stock.proofs.postings.add_lines.Goals as goal

pub add_line-requires-clause-fits : goal.add_line-requires-clause-fits
add_line-requires-clause-fits c =
    next_fits (column_of c.args.column) c.args.lines.now c.loop-line.line-index c.line-item.result c.args.rows.now.items c.loop-line.rows.items _
    c.loop-line-test.true c.line-item.is c.loop-line.invariant c.requires.fits

pub loop-line-preserved : goal.loop-line-preserved
loop-line-preserved c =
    added_more (column_of c.args.column) c.args.lines.now c.loop-line.line-index c.line-item.result c.args.rows.now.items c.loop-line.rows.items _
    c.loop-line-test.true c.line-item.is c.loop-line.invariant c.in_ok-add_line.ensures

pub add_line-requires-clause-sorted : goal.add_line-requires-clause-sorted
add_line-requires-clause-sorted c = c.loop-line.invariant.sorted

pub returns : goal.returns
returns c = subst (λ (ls : List Line). IsAdded (column_of c.args.column) ls c.args.rows.now.items c.loop-line.rows.items)
    (take_all c.loop-line.line-index c.args.lines.now c.loop-line-test.false) c.loop-line.invariant
