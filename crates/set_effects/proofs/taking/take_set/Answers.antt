use Rattle.std.proofs.Common.{subst, refl, Some, None, [], ◌∷◌}
use Rattle.set_effects.specs.Judging.{AreTaken}
use Rattle.std.proofs.lemmas.Result.{IfOk-weaker}
use Rattle.set_effects.specs.Judging.{CanBePut}
use Rattle.set_effects.proofs.Takes.{pieces_closed, take_passed, take_rejected, taken_rejected}
use Rattle.set_effects.proofs.taking.take_set.Goals as goal

pub judged-requires-clause-closed : goal.judged-requires-clause-closed
judged-requires-clause-closed c =
    pieces_closed c.segments.result.now c.args.set.now.set c.args.fault c.segments.ensures.elements c.segments.ensures.framed c.requires.closed c.in_default.is

pub passed-requires : goal.passed-requires
passed-requires c = subst (CanBePut c.args.page) c.in-Passed.is c.in_ok-step.ensures.fits

pub returns-in-Passed : goal.returns-in-Passed
returns-in-Passed c = IfOk-weaker c.passed.result _ _ (λ t done.
    take_passed c.args.rules c.args.set.now.delims c.args.kind c.args.page c.segments.result.now c.args.set.now.set c.args.fault c.in_ok-step.field-0 c.in-Passed.step t.page t.changes.items t.told
    c.segments.ensures.elements c.segments.ensures.same c.in_default.is c.in_ok-step.ensures.value c.in-Passed.is done.0 done.1 done.2) c.passed.ensures

pub returns-in-Rejected : goal.returns-in-Rejected
returns-in-Rejected c =
    take_rejected c.args.rules c.args.set.now.delims c.args.kind c.args.page c.segments.result.now c.args.set.now.set c.args.fault c.in_ok-step.field-0 c.in-Rejected.rejection c.rejected-in-Rejected.result.page c.rejected-in-Rejected.result.changes.items c.rejected-in-Rejected.result.told
    c.segments.ensures.elements c.segments.ensures.same c.in_default.is c.in_ok-step.ensures.value c.in-Rejected.is c.rejected-in-Rejected.ensures.page c.rejected-in-Rejected.ensures.changes c.rejected-in-Rejected.ensures.told

pub returns-in-Some : goal.returns-in-Some
returns-in-Some c =
    let all : AreTaken c.args.rules c.args.set.now.delims (Some c.args.kind) ((c.args.set.now.set, Some c.in-Some.code) ∷ []) c.args.page c.args.page [] (c.rejected.result.told ∷ []) =
    taken_rejected c.args.rules c.args.set.now.delims (Some c.args.kind) c.args.page c.args.set.now.set (Some c.in-Some.code) (record { code = c.in-Some.code; segment = None }) c.rejected.result.told
    (λ n P es part names shows. refl) c.rejected.ensures.told in
    rw (c.in-Some.is, c.rejected.ensures.page, c.rejected.ensures.changes) all
