use Rattle.std.proofs.Common.{List, subst}
use Rattle.std.proofs.lemmas.List.{take_all}
use Rattle.definitions.specs.Means.{AdviceLine}
use Rattle.stock.proofs.Dated.{dated_more, next_dated}
use Rattle.page_rows.specs.Moved.{IsDated}
use Rattle.stock.proofs.postings.date_lines.Goals as goal

pub date_line-requires-clause-there : goal.date_line-requires-clause-there
date_line-requires-clause-there c = next_dated c.args.lines.now c.loop-line.line-index c.line-item.result c.args.rows.now.items c.loop-line.rows.items
    c.loop-line-test.true c.line-item.is c.loop-line.invariant c.requires.there

pub loop-line-preserved : goal.loop-line-preserved
loop-line-preserved c = dated_more c.args.lines.now c.loop-line.line-index c.line-item.result c.args.rows.now.items c.loop-line.rows.items _
    c.loop-line-test.true c.line-item.is c.loop-line.invariant c.in_ok-date_line.ensures

pub date_line-requires-clause-sorted : goal.date_line-requires-clause-sorted
date_line-requires-clause-sorted c = c.loop-line.invariant.sorted

pub returns : goal.returns
returns c = subst (λ (ls : List AdviceLine). IsDated ls c.args.rows.now.items c.loop-line.rows.items)
    (take_all c.loop-line.line-index c.args.lines.now c.loop-line-test.false) c.loop-line.invariant
