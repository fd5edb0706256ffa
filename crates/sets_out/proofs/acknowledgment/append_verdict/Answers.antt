use Rattle.std.proofs.Common.{◌+◌, Some, subst}
use Rattle.definitions.specs.History.{Rejection}
use Rattle.definitions.specs.Texts.{ak5_segments}
use Rattle.segments.proofs.ExtendsLemmas.{extends_trans}
use Rattle.sets_out.specs.Appends.{Writes}
use Rattle.sets_out.proofs.AppendsLaws.{appends_then}
use Rattle.sets_out.proofs.acknowledgment.append_verdict.Goals as goal

pub returns-in_ok-last-in-Some-clause-ok : goal.returns-in_ok-last-in-Some-clause-ok
returns-in_ok-last-in-Some-clause-ok c =
    let P : Rejection → Type 0 = λ r. Writes c.args.delims c.args.out.now.items c.append_segment-in-Some.new.out.items (ak5_segments (Some r)) (c.in_ok-fault-in-Some.fault + c.in_ok-last-in-Some.last) in
    rw c.in-Some.is (subst P c.rejection.view_is (appends_then c.args.delims _ _ _ _ _ _ _ c.in_ok-fault-in-Some.ensures.ok
    (rw (c.as_bytes-code.ensures.value, c.format.ensures.text) at c.in_ok-last-in-Some.ensures.ok)))

pub returns-in_err-last-in-Some-clause-kept : goal.returns-in_err-last-in-Some-clause-kept
returns-in_err-last-in-Some-clause-kept c = extends_trans _ _ _ c.in_ok-fault-in-Some.ensures.kept c.in_err-last-in-Some.ensures.kept

pub returns-in_ok-last-in-Some-clause-kept : goal.returns-in_ok-last-in-Some-clause-kept
returns-in_ok-last-in-Some-clause-kept c = extends_trans _ _ _ c.in_ok-fault-in-Some.ensures.kept c.in_ok-last-in-Some.ensures.kept
