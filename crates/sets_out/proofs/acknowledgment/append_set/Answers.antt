use Rattle.std.proofs.Common.{◌+◌, subst}
use Rattle.definitions.specs.Texts.{ToldSet, told_segments}
use Rattle.segments.proofs.ExtendsLemmas.{extends_trans}
use Rattle.sets_out.specs.Appends.{Writes}
use Rattle.sets_out.proofs.AppendsLaws.{appends_then}
use Rattle.sets_out.proofs.acknowledgment.append_set.Goals as goal

pub returns-clause-ok : goal.returns-clause-ok
returns-clause-ok c =
    let P : ToldSet → Type 0 = λ s. Writes c.args.delims c.args.out.now.items c.append_verdict.new.out.items (told_segments s) (c.in_ok-first.first + c.in_ok-others.others) in
    subst P c.set.view_is (appends_then c.args.delims _ _ _ _ _ _ _ c.in_ok-first.ensures.ok c.in_ok-others.ensures.ok)

pub returns-in_err-others-clause-kept : goal.returns-in_err-others-clause-kept
returns-in_err-others-clause-kept c = extends_trans _ _ _ c.in_ok-first.ensures.kept c.in_err-others.ensures.kept

pub returns-clause-kept : goal.returns-clause-kept
returns-clause-kept c = extends_trans _ _ _ c.in_ok-first.ensures.kept c.in_ok-others.ensures.kept
