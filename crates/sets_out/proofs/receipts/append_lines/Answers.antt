use Rattle.segments.proofs.ExtendsLemmas.{extends_trans}
use Rattle.sets_out.specs.Documents.{received_line}
use Rattle.sets_out.proofs.AppendsLaws.{appends_more, appends_all}
use Rattle.sets_out.proofs.receipts.append_lines.Goals as goal

pub loop-line-preserved : goal.loop-line-preserved
loop-line-preserved c = record {
  told = appends_more c.args.delims received_line c.args.lines.now c.loop-line.line-index c.line-item.result _ _ _ _ _ c.loop-line-test.true c.line-item.is
      c.loop-line.invariant.told c.in_ok-count.ensures.ok;
  kept = extends_trans _ _ _ c.loop-line.invariant.kept c.in_ok-count.ensures.kept;
}

pub returns-in_err-count-clause-kept : goal.returns-in_err-count-clause-kept
returns-in_err-count-clause-kept c = extends_trans _ _ _ c.loop-line.invariant.kept c.in_err-count.ensures.kept

pub returns-clause-ok : goal.returns-clause-ok
returns-clause-ok c = appends_all c.args.delims received_line c.args.lines.now c.loop-line.line-index _ _ _ c.loop-line-test.false c.loop-line.invariant.told
