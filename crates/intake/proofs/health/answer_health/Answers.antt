use Rattle.std.proofs.Common.{◌≡◌, false}
use Rattle.intake.specs.Fields.{head_of, seen_method}
use Rattle.intake.proofs.Looked.{by_head}
use Rattle.intake.proofs.health.answer_health.Goals as goal

pub returns-clause-served : goal.returns-clause-served
returns-clause-served g c = λ h t at.
    let e : (head_of h).is_encoded ≡ false = cc (c.is_among.ensures, at.fields, c.if-is_among.false) in
    let m : (head_of h).method ≡ seen_method c.read_method.result = cc (c.read_method.ensures, c.of.ensures, at.method) in
    by_head _ _ t (head_of h) _ _ e m (c.health_by.ensures.served t)
