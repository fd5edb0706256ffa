use Rattle.std.proofs.Common.{◌+◌, Some, subst}
use Rattle.definitions.specs.Faults.{SetFault}
use Rattle.definitions.specs.Texts.{ak3_segments}
use Rattle.segments.proofs.ExtendsLemmas.{extends_trans}
use Rattle.sets_out.specs.Appends.{Writes}
use Rattle.sets_out.proofs.AppendsLaws.{appends_then}
use Rattle.sets_out.proofs.acknowledgment.append_fault.Goals as goal

pub returns-in_ok-others-in-Some-clause-ok : goal.returns-in_ok-others-in-Some-clause-ok
returns-in_ok-others-in-Some-clause-ok c =
    let P : SetFault → Type 0 = λ f. Writes c.args.delims c.args.out.now.items c.append_element.new.out.items (ak3_segments (Some f)) (c.in_ok-first-in-Some.first + c.in_ok-others-in-Some.others) in
    rw c.in-Some.is (subst P c.fault.view_is (appends_then c.args.delims _ _ _ _ _ _ _
    (rw (c.as_bytes-position.ensures.value, c.format.ensures.text, c.as_bytes-code.ensures.value, c.format-in-Some.ensures.text) at c.in_ok-first-in-Some.ensures.ok) c.in_ok-others-in-Some.ensures.ok))

pub returns-in_err-others-in-Some-clause-kept : goal.returns-in_err-others-in-Some-clause-kept
returns-in_err-others-in-Some-clause-kept c = extends_trans _ _ _ c.in_ok-first-in-Some.ensures.kept c.in_err-others-in-Some.ensures.kept

pub returns-in_ok-others-in-Some-clause-kept : goal.returns-in_ok-others-in-Some-clause-kept
returns-in_ok-others-in-Some-clause-kept c = extends_trans _ _ _ c.in_ok-first-in-Some.ensures.kept c.in_ok-others-in-Some.ensures.kept
