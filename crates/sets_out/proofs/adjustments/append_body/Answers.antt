use Rattle.segments.proofs.ExtendsLemmas.{extends_trans}
use Rattle.sets_out.proofs.AppendsLaws.{appends_then}
use Rattle.sets_out.proofs.adjustments.append_body.Goals as goal

pub returns-clause-ok : goal.returns-clause-ok
returns-clause-ok c = appends_then c.args.delims _ _ _ _ _ _ _
    (rw (c.date-date.ensures, c.as_bytes-number.ensures.value, c.format.ensures.text) at c.in_ok-first.ensures.ok) c.in_ok-others.ensures.ok

pub returns-in_err-others-clause-kept : goal.returns-in_err-others-clause-kept
returns-in_err-others-clause-kept c = extends_trans _ _ _ c.in_ok-first.ensures.kept c.in_err-others.ensures.kept

pub returns-clause-kept : goal.returns-clause-kept
returns-clause-kept c = extends_trans _ _ _ c.in_ok-first.ensures.kept c.in_ok-others.ensures.kept
