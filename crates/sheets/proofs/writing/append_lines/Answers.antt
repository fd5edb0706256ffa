use Rattle.segments.proofs.ExtendsLemmas.{extends_trans}
use Rattle.definitions.specs.Clerk.{line_of}
use Rattle.definitions.specs.Register.{line_text}
use Rattle.sheets.proofs.Told.{told_more_of, all_told_of}
use Rattle.sheets.proofs.writing.append_lines.Goals as goal

pub returns-in_err-append_line-clause-kept : goal.returns-in_err-append_line-clause-kept
returns-in_err-append_line-clause-kept c =
    extends_trans _ _ _ c.loop-line.invariant.kept c.append_line.ensures.kept

pub loop-line-preserved : goal.loop-line-preserved
loop-line-preserved c = record {
  told = told_more_of line_text line_of c.args.lines.now c.loop-line.line-index c.line-item.result _ _ _ c.loop-line-test.true c.line-item.is
      c.loop-line.invariant.told c.in_ok-append_line.ensures.ok;
  kept = extends_trans _ _ _ c.loop-line.invariant.kept c.in_ok-append_line.ensures.kept;
}

pub returns-clause-ok : goal.returns-clause-ok
returns-clause-ok c = all_told_of line_text line_of c.args.lines.now c.loop-line.line-index _ _ c.loop-line-test.false c.loop-line.invariant.told
