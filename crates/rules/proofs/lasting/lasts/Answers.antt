use Rattle.std.proofs.Common.{◌≡◌, [], ◌∷◌, not, true, set, ap, sym, ◌∙◌, subst}
use Rattle.definitions.specs.Rows.{LotRow}
use Rattle.stock.specs.Moved.{IsPlace}
use Rattle.stock.specs.OfPairs.{of_pair, one}
use Rattle.stock.specs.declared.steps.Change.{Change}
use Rattle.rules.specs.Lasting.{AreMarked, HaveRows, is_replaced}
use Rattle.rules.proofs.Lasts.{row_there, marks_same, marks_more, mark_says, other_kind, other_lasts}
use Rattle.rules.proofs.lasting.lasts.Goals as goal

pub returns-in_default : goal.returns-in_default
returns-in_default c = record {
  lasts = λ later marked. other_lasts c.args.change.now c.in_default.not-Stock later;
  marks = λ later marked. marks_same c.args.rows.now c.args.change.now later c.args.marks.now.items (other_kind c.args.change.now c.in_default.not-Stock) marked;
}

nowhere : (c : goal.In_default-place_of) → ⊥
nowhere c =
    let r = c.in-Stock.row in
    let item : c.deref.result.now ≡ r.item = c.deref.ensures.value ∙ ap (λ (x : LotRow). x.item) c.row.view_is in
    let lot : c.deref-2.result.now ≡ r.lot = c.deref-2.ensures.value ∙ ap (λ (x : LotRow). x.lot) c.row.view_is in
    let none : of_pair one r.item r.lot c.args.rows.now ≡ 0 = rw (item, lot) at c.in_default-place_of.ensures in
    row_there r c.args.rows.now c.requires.sorted (subst (λ (x : Change). HaveRows c.args.rows.now (x ∷ [])) c.in-Stock.is c.requires.row) none

pub returns-in_default-place_of-clause-lasts : goal.returns-in_default-place_of-clause-lasts
returns-in_default-place_of-clause-lasts c = absurd (nowhere c)

pub returns-in_default-place_of-clause-marks : goal.returns-in_default-place_of-clause-marks
returns-in_default-place_of-clause-marks c = absurd (nowhere c)

here : (c : goal.After-marks-1) → IsPlace c.in-Stock.row.item c.in-Stock.row.lot c.args.rows.now c.in-Some.i
here c =
    let r = c.in-Stock.row in
    let item : c.deref.result.now ≡ r.item = c.deref.ensures.value ∙ ap (λ (x : LotRow). x.item) c.row.view_is in
    let lot : c.deref-2.result.now ≡ r.lot = c.deref-2.ensures.value ∙ ap (λ (x : LotRow). x.lot) c.row.view_is in
    rw (item, lot) at c.in-Some.ensures

pub returns-clause-lasts : goal.returns-clause-lasts
returns-clause-lasts c = λ later marked.
    subst (λ (x : Change). not c.index-replaced.result.now ≡ not (is_replaced x later)) (sym c.in-Stock.is)
    (mark_says c.args.rows.now c.in-Stock.row later c.args.marks.now.items c.in-Some.i c.index-replaced.result.now (here c) marked c.index-replaced.ensures)

pub returns-clause-marks : goal.returns-clause-marks
returns-clause-marks c = λ later marked.
    subst (λ (x : Change). AreMarked c.args.rows.now (x ∷ later) (set c.args.marks.now.items c.in-Some.i true)) (sym c.in-Stock.is)
    (marks_more c.args.rows.now c.in-Stock.row later c.args.marks.now.items c.in-Some.i c.requires.sorted (here c) marked)
