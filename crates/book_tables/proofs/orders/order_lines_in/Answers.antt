use Rattle.std.proofs.Common.{◌≡◌, [], ◌∷◌, ◌++◌, sym, ◌∙◌, rules, ◌≤◌, length, ap, Some, arith}
use Rattle.definitions.specs.Rules.{Today}
use Rattle.book_tables.specs.Showing.{order_line_shown}
use Rattle.rules.specs.Fitting.{is_fitting_ordered}
use Rattle.book_tables.proofs.Fits.{has_all, small_ordered}
use Rattle.book_tables.proofs.Places.{at_place, one_longer, whole_taken}
use Rattle.book_tables.proofs.orders.order_lines_in.Goals as goal

pub returns-in_default-clause-shows : goal.returns-in_default-clause-shows
returns-in_default-clause-shows c rs fit is =
    let at = at_place order_line_shown c.args.rows.now rs c.loop-row.row-index c.row-item.result is c.loop-row-test.true c.row-item.is in
    let some = c.in_ok-line.ensures at.row (small_ordered at.row (has_all (is_fitting_ordered Today) rs at.row at.there fit)) at.shows in
    let none = c.in_default.is in
    absurd (cc (some, none))

pub loop-row-init : goal.loop-row-init
loop-row-init c = let none : c.new-shown.result.items ≡ [] = search rules in (ap length none, λ rs fit is. none)

pub loop-row-preserved : goal.loop-row-preserved
loop-row-preserved c = (
  one_longer _ _ _ _ c.in_ok-push.ensures.items c.loop-row.invariant.0,
  λ rs fit is.
      let at = at_place order_line_shown c.args.rows.now rs c.loop-row.row-index c.row-item.result is c.loop-row-test.true c.row-item.is in
      let some = c.in_ok-line.ensures at.row (small_ordered at.row (has_all (is_fitting_ordered Today) rs at.row at.there fit)) at.shows in
      let found = c.in-Some.is in
      let same : c.in-Some.line ≡ at.row = cc (some, found) in
      c.in_ok-push.ensures.items ∙ (λ i. c.loop-row.invariant.1 rs fit is i ++ same i ∷ []) ∙ sym at.more,
)

pub returns-clause-shows : goal.returns-clause-shows
returns-clause-shows c rs fit is =
    let past : length c.args.rows.now ≤ c.loop-row.row-index = omega (arith, c.loop-row-test.false) in
    ap Some (c.loop-row.invariant.1 rs fit is ∙ whole_taken order_line_shown c.args.rows.now rs c.loop-row.row-index is past)

pub returns-clause-all : goal.returns-clause-all
returns-clause-all c = omega (arith, c.loop-row-test.false, c.loop-row.invariant.0)
