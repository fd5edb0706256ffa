use Rattle.sets_out.proofs.AppendsLaws.{extends_by, appends_one}
use Rattle.sets_out.proofs.writing.append_segment.Goals as goal

pub returns-clause-ok : goal.returns-clause-ok
returns-clause-ok c = appends_one c.args.delims _ _ _ c.in_ok-write_segment.ensures.ok

pub returns-clause-kept : goal.returns-clause-kept
returns-clause-kept c = extends_by _ _ _ c.in_ok-write_segment.ensures.ok
