use Rattle.std.proofs.Common.{ℕ, List, Some, sym, ◌∙◌, ap}
use Rattle.definitions.specs.Words.{words_after, kind_words}
use Rattle.tables.specs.Ids.{is_known}
use Rattle.tables.specs.Languages.{found}
use Rattle.tables.specs.Rows.{is_goods, is_advised}
use Rattle.tables.specs.Stages.{rest_of}
use Rattle.tables.proofs.Unknown.{unknown_fault}
use Rattle.tables.proofs.Places.{in_place, out_of_place, found_some}
use Rattle.tables.proofs.faults.step.Goals as goal

pub returns-in_default : goal.returns-in_default
returns-in_default c = λ previous h k.
    unknown_fault c.args.rules c.args.delims.now (kind_words c.args.rules c.args.kind) c.args.progress.stage previous c.args.position c.args.segment.now.elements (sym (ap is_known c.element.ensures) ∙ c.in_default.ensures)
    ∙ ap Some (sym c.unknown_fault.ensures)

pub returns-in_default-next : goal.returns-in_default-next
returns-in_default-next c = λ previous h k.
    let id = sym c.element.ensures ∙ c.in-Some.ensures in
    out_of_place c.args.rules c.args.delims.now (kind_words c.args.rules c.args.kind) (rest_of c.args.rules c.args.progress.stage) previous c.args.position c.args.segment.now.elements
    (c.in_default-next.ensures ∙ ap (λ (t : List ℕ). found (words_after t (rest_of c.args.rules c.args.progress.stage))) (sym id))
    ∙ ap Some (sym (c.place_fault.ensures c.args.rules))

pub returns-in-Some-inner_fault : goal.returns-in-Some-inner_fault
returns-in-Some-inner_fault c = λ previous h k.
    let id = sym c.element.ensures ∙ c.in-Some.ensures in
    in_place c.args.rules c.args.delims.now (kind_words c.args.rules c.args.kind) (rest_of c.args.rules c.args.progress.stage) _ previous c.args.position c.args.segment.now.elements
    (c.in-Some-next.ensures ∙ ap (λ (t : List ℕ). found (words_after t (rest_of c.args.rules c.args.progress.stage))) (sym id))
    ∙ sym (c.in-Some-inner_fault.ensures previous h k)

pub returns-in-None : goal.returns-in-None
returns-in-None c = λ previous h k.
    let id = sym c.element.ensures ∙ c.in-Some.ensures in
    let next = c.in-Some-next.ensures ∙ ap (λ (t : List ℕ). found (words_after t (rest_of c.args.rules c.args.progress.stage))) (sym id) in (
      in_place c.args.rules c.args.delims.now (kind_words c.args.rules c.args.kind) (rest_of c.args.rules c.args.progress.stage) _ previous c.args.position c.args.segment.now.elements next ∙ sym (c.in-None.ensures previous h k),
      (found_some _ _ next).1,
      c.of.ensures.goods ∙ ap is_goods (sym id),
      c.of.ensures.advised ∙ ap is_advised (sym id),
    )
