use Rattle.std.proofs.Common.{rules, ◌≡◌, ◌≤◌, [], ◌∷◌, ◌++◌, sym, ap, subst, ◌∙◌, List, length, map, drop, true, Some, arith, ◌+◌}
use Rattle.sqlite.specs.Order.{Row, column}
use Rattle.definitions.specs.Rows.{LotRow}
use Rattle.rules.specs.Keyed.{key_before, rises_by, row_key}
use Rattle.book_statements.specs.Dated.{date_shown, dates_of}
use Rattle.book_tables.specs.Showing.{lot_shown}
use Rattle.rules.specs.Fitting.{is_fitting_row}
use Rattle.book_statements.proofs.DateLemmas.{rises_left}
use Rattle.book_tables.proofs.Fits.{has_all, small_lot}
use Rattle.book_tables.proofs.Places.{at_place, none_left, not_empty, one_longer, whole_taken}
use Rattle.book_tables.proofs.lots.lots_in.Goals as goal

pub loop-row-init : goal.loop-row-init
loop-row-init c = let none : c.new-shown.result.items ≡ [] = search rules in (ap length none, λ rs fit rise is dated. (none, dated))

pub returns-in_default-clause-shows : goal.returns-in_default-clause-shows
returns-in_default-clause-shows c rs fit rise is dated =
    let i = c.loop-row.row-index in
    let at = at_place lot_shown c.args.rows.now rs i c.row-item.result is c.loop-row-test.true c.row-item.is in
    let next = c.next_date.ensures at.row (drop (i + 1) rs) (subst (λ (ls : List LotRow). rises_by key_before row_key ls ≡ true) at.left (rises_left rs i rise)) (ap (λ (r : Row). column r 0) at.shows) (ap (λ (r : Row). column r 1) at.shows)
    ((c.loop-row.invariant.1 rs fit rise is dated).1 ∙ ap (λ (ls : List LotRow). map date_shown (dates_of ls)) at.left) in
    let some = c.in_ok-lot.ensures at.row (small_lot at.row (has_all is_fitting_row rs at.row at.there fit)) at.shows next.0 in
    let none = c.in_default.is in
    absurd (cc (some, none))

pub loop-row-preserved : goal.loop-row-preserved
loop-row-preserved c = (
  one_longer _ _ _ _ c.in_ok-push.ensures.items c.loop-row.invariant.0,
  λ rs fit rise is dated.
      let i = c.loop-row.row-index in
      let at = at_place lot_shown c.args.rows.now rs i c.row-item.result is c.loop-row-test.true c.row-item.is in
      let so_far = c.loop-row.invariant.1 rs fit rise is dated in
      let next = c.next_date.ensures at.row (drop (i + 1) rs) (subst (λ (ls : List LotRow). rises_by key_before row_key ls ≡ true) at.left (rises_left rs i rise)) (ap (λ (r : Row). column r 0) at.shows) (ap (λ (r : Row). column r 1) at.shows)
      (so_far.1 ∙ ap (λ (ls : List LotRow). map date_shown (dates_of ls)) at.left) in
      let some = c.in_ok-lot.ensures at.row (small_lot at.row (has_all is_fitting_row rs at.row at.there fit)) at.shows next.0 in
      let found = c.in-Some.is in
      let same : c.in-Some.lot ≡ at.row = cc (some, found) in
      (c.in_ok-push.ensures.items ∙ (λ j. so_far.0 j ++ same j ∷ []) ∙ sym at.more, next.1),
)

pub returns-then-not-is_empty-clause-shows : goal.returns-then-not-is_empty-clause-shows
returns-then-not-is_empty-clause-shows c rs fit rise is dated =
    let past : length c.args.rows.now ≤ c.loop-row.row-index = omega (arith, c.loop-row-test.false) in
    let none = none_left lot_shown c.args.rows.now rs c.loop-row.row-index is past in
    absurd (not_empty _ _ c.is_empty.ensures c.if-not-is_empty.true ((c.loop-row.invariant.1 rs fit rise is dated).1 ∙ ap (λ (ls : List LotRow). map date_shown (dates_of ls)) none))

pub returns-clause-shows : goal.returns-clause-shows
returns-clause-shows c rs fit rise is dated =
    let past : length c.args.rows.now ≤ c.loop-row.row-index = omega (arith, c.loop-row-test.false) in
    ap Some ((c.loop-row.invariant.1 rs fit rise is dated).0 ∙ whole_taken lot_shown c.args.rows.now rs c.loop-row.row-index is past)

pub returns-clause-all : goal.returns-clause-all
returns-clause-all c = omega (arith, c.loop-row-test.false, c.loop-row.invariant.0)
