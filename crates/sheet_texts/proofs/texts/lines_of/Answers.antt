use Rattle.std.proofs.Common.{sym, ◌∙◌}
use Rattle.sheet_texts.proofs.LineLaws.{line_more, line_none, lines_all, all_even}
use Rattle.sheet_texts.proofs.texts.lines_of.Goals as goal

pub returns-in-None-clause-uneven : goal.returns-in-None-clause-uneven
returns-in-None-clause-uneven c = line_none c.args.rows.now c.loop-row.row-index c.row-item.result c.loop-row-test.true c.row-item.is
    (sym c.in-None.is ∙ c.in_ok-line.ensures) c.loop-row.invariant.1

pub loop-row-preserved : goal.loop-row-preserved
loop-row-preserved c = line_more c.args.rows.now c.loop-row.row-index c.row-item.result c.loop-row.lines.items _ c.in-Some.line
    c.loop-row-test.true c.row-item.is (sym c.in-Some.is ∙ c.in_ok-line.ensures) c.in_ok-push-in-Some.ensures.items c.loop-row.invariant

pub returns-clause-lines : goal.returns-clause-lines
returns-clause-lines c = lines_all c.args.rows.now c.loop-row.row-index _ c.loop-row-test.false c.loop-row.invariant.0

pub returns-clause-uneven : goal.returns-clause-uneven
returns-clause-uneven c = all_even c.args.rows.now c.loop-row.row-index c.loop-row-test.false c.loop-row.invariant.1
