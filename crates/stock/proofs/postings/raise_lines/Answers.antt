use Rattle.std.proofs.Common.{List, subst}
use Rattle.std.proofs.lemmas.List.{take_all}
use Rattle.definitions.specs.Means.{Line}
use Rattle.page_rows.specs.Columns.{column_of}
use Rattle.page_rows.specs.Moved.{IsRaised}
use Rattle.stock.proofs.Raises.{raised_more, next_raised_fits, next_raised_there}
use Rattle.stock.proofs.postings.raise_lines.Goals as goal

pub raise_line-requires-clause-fits : goal.raise_line-requires-clause-fits
raise_line-requires-clause-fits c =
    next_raised_fits (column_of c.args.column) c.args.lines.now c.loop-line.line-index c.line-item.result c.args.rows.now.items c.loop-line.rows.items _
    c.loop-line-test.true c.line-item.is c.loop-line.invariant c.requires.fits

pub raise_line-requires-clause-there : goal.raise_line-requires-clause-there
raise_line-requires-clause-there c =
    next_raised_there (column_of c.args.column) c.args.lines.now c.loop-line.line-index c.line-item.result c.args.rows.now.items c.loop-line.rows.items
    c.loop-line-test.true c.line-item.is c.loop-line.invariant c.requires.there

pub loop-line-preserved : goal.loop-line-preserved
loop-line-preserved c =
    raised_more (column_of c.args.column) c.args.lines.now c.loop-line.line-index c.line-item.result c.args.rows.now.items c.loop-line.rows.items _
    c.loop-line-test.true c.line-item.is c.loop-line.invariant c.raise_line.ensures

pub raise_line-requires-clause-sorted : goal.raise_line-requires-clause-sorted
raise_line-requires-clause-sorted c = c.loop-line.invariant.sorted

pub returns : goal.returns
returns c = subst (λ (ls : List Line). IsRaised (column_of c.args.column) ls c.args.rows.now.items c.loop-line.rows.items)
    (take_all c.loop-line.line-index c.args.lines.now c.loop-line-test.false) c.loop-line.invariant
