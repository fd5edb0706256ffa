use Rattle.std.proofs.Common.{◌<◌, ◌≤◌, arith, ◌++◌, ◌∷◌, ◌∙◌, [], length, map, take, ap}
use Rattle.std.proofs.lemmas.List.{take_all}
use Rattle.book_tables.specs.declared.enrolled.Enrolment.{Enrolment}
use Rattle.book_tables.proofs.OnceKept.{mapped_more}
use Rattle.book_tables.proofs.enrolled.whos.Goals as goal

pub loop-enrolment-preserved : goal.loop-enrolment-preserved
loop-enrolment-preserved c =
    let all = c.args.enrolments.now in
    let i = c.loop-enrolment.enrolment-index in
    let it = c.enrolment-item.result in
    let here : i < length all = c.loop-enrolment-test.true in
    c.in_ok-push.ensures.items ∙ ap (λ ws. ws ++ c.enrolment.inside.who ∷ []) c.loop-enrolment.invariant
    ∙ ap (λ (e : Enrolment). map (λ (f : Enrolment). f.who) (take i all) ++ e.who ∷ []) (c.enrolment.view_is ∙ c.enrolment-item.is)
    ∙ mapped_more (λ (e : Enrolment). e.who) all i it here

pub returns : goal.returns
returns c =
    let past : length c.args.enrolments.now ≤ c.loop-enrolment.enrolment-index = omega (arith, c.loop-enrolment-test.false) in
    c.loop-enrolment.invariant ∙ ap (map (λ (e : Enrolment). e.who)) (take_all c.loop-enrolment.enrolment-index c.args.enrolments.now past)
