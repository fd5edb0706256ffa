use Rattle.std.proofs.Common.{◌≡◌, [], ◌∷◌, ◌++◌, ap, sym, ◌∙◌, rules, ◌≤◌, length, take, Some, subst, arith}
use Rattle.sqlite.specs.Order.{Row, column}
use Rattle.std.specs.List.{AllByRecursion}
use Rattle.std.proofs.lemmas.List.{take_all}
use Rattle.book_tables.specs.Opened.{IsOpen, open_shown}
use Rattle.book_tables.proofs.Places.{all_more, at_place, one_longer, taken_more, whole_taken}
use Rattle.book_tables.proofs.ReadLemmas.{same_text_value}
use Rattle.book_tables.proofs.opened.names_in.Goals as goal

pub returns-in_default-clause-shows : goal.returns-in_default-clause-shows
returns-in_default-clause-shows c names is =
    let at = at_place open_shown c.args.rows.now names c.loop-row.row-index c.row-item.result is c.loop-row-test.true c.row-item.is in
    absurd (c.in_default.ensures at.row (ap (λ (r : Row). column r 0) at.shows) (ap (λ (r : Row). column r 1) at.shows))

pub loop-row-init : goal.loop-row-init
loop-row-init c = let none : c.new-shown.result.items ≡ [] = search rules in (ap length none, tt, λ names is. none)

pub loop-row-preserved : goal.loop-row-preserved
loop-row-preserved c = (
  one_longer _ _ _ _ c.in_ok-push.ensures.items c.loop-row.invariant.0,
  let i = c.loop-row.row-index in
      let more = taken_more c.args.rows.now i c.row-item.result c.loop-row-test.true c.row-item.is in
      subst (AllByRecursion IsOpen) (sym more) (all_more IsOpen (take i c.args.rows.now) c.row-item.result c.loop-row.invariant.1 (_, c.in-Some.ensures.0, c.in-Some.ensures.1)),
  λ names is.
      let at = at_place open_shown c.args.rows.now names c.loop-row.row-index c.row-item.result is c.loop-row-test.true c.row-item.is in
      let same : c.in-Some.name.now ≡ at.row = same_text_value c.in-Some.name.now at.row (sym c.in-Some.ensures.0 ∙ ap (λ (r : Row). column r 0) at.shows) in
      c.in_ok-push.ensures.items ∙ (λ i. c.loop-row.invariant.2 names is i ++ (c.in_ok-of.ensures ∙ same) i ∷ []) ∙ sym at.more,
)

pub returns-clause-shows : goal.returns-clause-shows
returns-clause-shows c names is =
    let past : length c.args.rows.now ≤ c.loop-row.row-index = omega (arith, c.loop-row-test.false) in
    ap Some (c.loop-row.invariant.2 names is ∙ whole_taken open_shown c.args.rows.now names c.loop-row.row-index is past)

pub returns-clause-all : goal.returns-clause-all
returns-clause-all c = omega (arith, c.loop-row-test.false, c.loop-row.invariant.0)

pub returns-clause-open : goal.returns-clause-open
returns-clause-open c = subst (AllByRecursion IsOpen) (take_all c.loop-row.row-index c.args.rows.now (omega (arith, c.loop-row-test.false))) c.loop-row.invariant.1
