use Rattle.std.proofs.Common.{◌≡◌, ◌+◌, ◌<◌, ◌∷◌, ◌++◌, [], Bool, cond, false, not, ℕ, List, length, get_or, take, map, ap, sym, ◌∙◌, append-nil}
use Rattle.std.proofs.lemmas.List.{map-append, take_all}
use Rattle.std.proofs.lemmas.List.Elements.{filter_more}
use Rattle.std.specs.Prelude.{filter}
use Rattle.std.specs.List.{list_any}
use Rattle.definitions.specs.Rows.{LotRow}
use Rattle.page_rows.specs.OfPairs.{changed_rows, same_row}
use Rattle.stock.specs.declared.steps.Change.TheVariants.{Stock}
use Rattle.stock.proofs.changes.row_changes.Goals as goal
use Rattle.stock.proofs.changes.row_changes.Goals.{then-not-has_row+in_ok-copy+in_ok-push, else-not-has_row}

-- one row more, which the old ones have or not
row_next : (old rows : List LotRow) (i : ℕ) (r : LotRow) (v : Bool) → i < length rows → r ≡ get_or rows i r → list_any (same_row r) old ≡ v
    → map Stock (changed_rows old (take (i + 1) rows)) ≡ map Stock (changed_rows old (take i rows)) ++ map Stock (cond (not v) (r ∷ []) [])
row_next old rows i r v within is known =
    let new : LotRow → Bool = λ x. not (list_any (same_row x) old) in
    ap (map Stock) (filter_more new rows i r within ∙ ap (λ (x : LotRow). filter new (take i rows) ++ cond (new x) (x ∷ []) []) (sym is))
    ∙ map-append Stock (filter new (take i rows)) (cond (new r) (r ∷ []) [])
    ∙ ap (λ (w : Bool). map Stock (filter new (take i rows)) ++ map Stock (cond (not w) (r ∷ []) [])) known

pub loop-row-preserved : goal.loop-row-preserved
loop-row-preserved c =
    let next = λ (v : Bool). row_next c.args.rows.now c.args.touched.now c.loop-row.row-index c.row-item.result v c.loop-row-test.true c.row-item.is in
    elim c.if-not-has_row.branch [
      | then-not-has_row+in_ok-copy+in_ok-push w ↦ ap (λ v. v.items) w.changes-is ∙ w.in_ok-push.ensures.items
          ∙ (λ j. c.loop-row.invariant j ++ Stock (w.in_ok-copy.ensures j) ∷ []) ∙ sym (next false (sym w.if-not-has_row.ensures))
      | else-not-has_row w ↦ ap (λ v. v.items) w.changes-is ∙ c.loop-row.invariant ∙ sym (append-nil _) ∙ sym (next _ (sym w.if-not-has_row.ensures))
    ]

pub returns : goal.returns
returns c = c.loop-row.invariant
    ∙ ap (λ (rows : List LotRow). map Stock (changed_rows c.args.rows.now rows)) (take_all c.loop-row.row-index c.args.touched.now c.loop-row-test.false)
