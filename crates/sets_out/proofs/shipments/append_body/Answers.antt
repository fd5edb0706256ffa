use Rattle.segments.proofs.ExtendsLemmas.{extends_trans}
use Rattle.sets_out.proofs.AppendsLaws.{appends_then}
use Rattle.sets_out.proofs.shipments.append_body.Goals as goal

pub returns-clause-ok : goal.returns-clause-ok
returns-clause-ok c = appends_then c.args.delims _ _ _ _ _ _ _ (appends_then c.args.delims _ _ _ _ _ _ _ c.in_ok-first.ensures.ok c.in_ok-lines.ensures.ok) c.in_ok-sum.ensures.ok

pub returns-in_err-lines-clause-kept : goal.returns-in_err-lines-clause-kept
returns-in_err-lines-clause-kept c = extends_trans _ _ _ c.in_ok-first.ensures.kept c.in_err-lines.ensures.kept

pub returns-in_err-sum-clause-kept : goal.returns-in_err-sum-clause-kept
returns-in_err-sum-clause-kept c = extends_trans _ _ _ (extends_trans _ _ _ c.in_ok-first.ensures.kept c.in_ok-lines.ensures.kept) c.in_err-sum.ensures.kept

pub returns-clause-kept : goal.returns-clause-kept
returns-clause-kept c = extends_trans _ _ _ (extends_trans _ _ _ c.in_ok-first.ensures.kept c.in_ok-lines.ensures.kept) c.in_ok-sum.ensures.kept
