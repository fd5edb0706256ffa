use Rattle.std.proofs.Common.{◌≡◌, [], ◌∷◌, ◌++◌, ap, sym, ◌∙◌, ℕ, Bool, true, false, length, filter, take, Vec, Global, rules, ◌≤◌, arith, subst, Some, Option}
use Rattle.std.specs.Prelude.{nat_lt, ◌==◌, IfSome}
use Rattle.std.specs.List.{AllByRecursion}
use Rattle.std.proofs.lemmas.List.{take_all}
use Rattle.sqlite.specs.Order.{column}
use Rattle.sqlite.specs.declared.types.Value.TheVariants.{Blob}
use Rattle.store.specs.declared.rows.OutRow.{OutRow as OutRowOf}
use Rattle.definitions.specs.Rows.{OutRow}
use Rattle.book_tables.specs.Showing.{out_shown, HasKindAndState, IsOut}
use Rattle.book_tables.proofs.Places.{at_place, all_more, taken_more, whole_taken, kept_more, passed_more, not_none, none_at_all}
use Rattle.book_tables.proofs.ReadLemmas.{if_there}
use Rattle.book_tables.proofs.sent.out_rows_in.Goals as goal
use Rattle.book_tables.proofs.sent.out_rows_in.Goals.{then-not-is_empty+in_ok-push, else-not-is_empty}

abbrev has_content : OutRow → Bool
has_content r = nat_lt 0 (length r.content)

pub returns-in_default-clause-shows : goal.returns-in_default-clause-shows
returns-in_default-clause-shows c rs sent is =
    let at = at_place out_shown c.args.rows.now rs c.loop-row.row-index c.row-item.result is c.loop-row-test.true c.row-item.is in
    let some = c.in_ok-sent.ensures.shows at.row (sent at.row at.there) at.shows in
    let none = c.in_default.is in
    absurd (cc (some, none))

pub loop-row-init : goal.loop-row-init
loop-row-init c = let none : c.new-shown.result.items ≡ [] = search rules in (tt, λ rs sent is. none)

pub loop-row-preserved : goal.loop-row-preserved
loop-row-preserved c = (
  let i = c.loop-row.row-index in
      let more = taken_more c.args.rows.now i c.row-item.result c.loop-row-test.true c.row-item.is in
      let told = subst (λ (o : Option OutRow). IfSome o (λ r. column c.row-item.result 2 ≡ Blob r.content)) c.in-Some.is c.in_ok-sent.ensures.text in
      let known = if_there (HasKindAndState c.row-item.result 1 3) _ _ c.in-Some.is c.in_ok-sent.ensures.known in
      subst (AllByRecursion IsOut) (sym more) (all_more IsOut (take i c.args.rows.now) c.row-item.result c.loop-row.invariant.0 ((_, told), known)),
  λ rs sent is.
      let at = at_place out_shown c.args.rows.now rs c.loop-row.row-index c.row-item.result is c.loop-row-test.true c.row-item.is in
      let some = c.in_ok-sent.ensures.shows at.row (sent at.row at.there) at.shows in
      let found = c.in-Some.is in
      let same : c.in-Some.sent ≡ at.row = cc (some, found) in
      let content : c.sent.inside.content.items ≡ at.row.content = ap (λ (r : OutRow). r.content) (c.sent.view_is ∙ same) in
      let long : c.sent.inside.content.len ≡ length at.row.content = c.sent.inside.content.ok.0 ∙ ap length content in
      let so_far = c.loop-row.invariant.1 rs sent is in
      elim c.if-not-is_empty.branch [
        | then-not-is_empty+in_ok-push w ↦
            let some : (length at.row.content == 0) ≡ false = ap (λ (n : ℕ). n == 0) (sym long) ∙ sym c.is_empty.ensures ∙ w.if-not-is_empty.true in
            ap (λ (v : Vec OutRowOf Global). v.items) w.shown-is ∙ w.in_ok-push.ensures.items
            ∙ (λ i. so_far i ++ same i ∷ [])
            ∙ sym (ap (filter has_content) at.more ∙ kept_more has_content (take c.loop-row.row-index rs) at.row (not_none (length at.row.content) some))
        | else-not-is_empty w ↦
            let none : (length at.row.content == 0) ≡ true = ap (λ (n : ℕ). n == 0) (sym long) ∙ sym c.is_empty.ensures ∙ w.if-not-is_empty.false in
            ap (λ (v : Vec OutRowOf Global). v.items) w.shown-is ∙ so_far
            ∙ sym (ap (filter has_content) at.more ∙ passed_more has_content (take c.loop-row.row-index rs) at.row (none_at_all (length at.row.content) none))
      ],
)

pub returns-clause-shows : goal.returns-clause-shows
returns-clause-shows c rs sent is =
    let past : length c.args.rows.now ≤ c.loop-row.row-index = omega (arith, c.loop-row-test.false) in
    ap Some (c.loop-row.invariant.1 rs sent is ∙ ap (filter has_content) (whole_taken out_shown c.args.rows.now rs c.loop-row.row-index is past))

pub returns-clause-all : goal.returns-clause-all
returns-clause-all c = subst (AllByRecursion IsOut) (take_all c.loop-row.row-index c.args.rows.now (omega (arith, c.loop-row-test.false))) c.loop-row.invariant.0
