use Rattle.segments.proofs.ExtendsLemmas.{extends_trans}
use Rattle.sets_out.proofs.AppendsLaws.{appends_then}
use Rattle.sets_out.proofs.interchanges.append_between.Goals as goal

pub returns-clause-ok : goal.returns-clause-ok
returns-clause-ok c = appends_then c.args.answer.now.delims _ _ _ _ _ _ _ c.in_ok-acknowledged.ensures.ok c.in_ok-group.ensures.ok

pub returns-in_err-group-clause-kept : goal.returns-in_err-group-clause-kept
returns-in_err-group-clause-kept c = extends_trans _ _ _ c.in_ok-acknowledged.ensures.kept c.in_err-group.ensures.kept

pub returns-clause-kept : goal.returns-clause-kept
returns-clause-kept c = extends_trans _ _ _ c.in_ok-acknowledged.ensures.kept c.in_ok-group.ensures.kept
