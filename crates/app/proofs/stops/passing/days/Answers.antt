use Rattle.std.proofs.Common.{get_or, rules, ◌≡◌, ◌++◌, ◌∷◌, [], List, map, take, drop, true, Some, length, option_map, slice_get, sym, ap, subst, ◌∙◌, arith, Result}
use Rattle.std.specs.Prelude.{IfErr}
use Rattle.std.specs.List.{list_all}
use Rattle.std.proofs.lemmas.List.Elements.{All-push}
use Rattle.std.proofs.lemmas.Option.{slice_get-get_or, slice_get-map}
use Rattle.sqlite.specs.Tree.{Trees}
use Rattle.definitions.specs.Register.{Entry}
use Rattle.store.specs.Runs.{all_asked, can_be_given}
use Rattle.store.specs.Fault.{Fault}
use Rattle.book_statements.specs.Carrying.{LeavesCarried}
use Rattle.app.specs.Days.{AreLed, AreOpenings, Pass, day_by_day, reached}
use Rattle.book_statements.specs.Faults.{IsOpeningFault}
use Rattle.app.specs.declared.stops.answering.Answered.{Answered}
use Rattle.app.proofs.DaysLemmas.{day_at, keeps_answers, led_on, left_more, reached_more}
use Rattle.app.proofs.stops.passing.days.Goals as goal

pub day-today-requires : goal.day-today-requires
day-today-requires g c = c.loop-count.invariant.numbered

pub returns-then-is_err-clause-led : goal.returns-then-is_err-clause-led
returns-then-is_err-clause-led g c = λ clean given W L start db may.
    let same : c.reserve.new.self.items ≡ c.loop-count.told.items = c.reserve.ensures.items in
    let whole = day_by_day c.args.counts.now c.args.asked.now in
    let asked = map all_asked whole in
    let there = c.loop-count.invariant.led clean (subst (λ (days : List (Result Answered Fault)). list_all can_be_given (reached whole days) ≡ true) same given) W L start db may in
    subst (λ (days : List (Result Answered Fault)). AreLed W L asked days db) (sym same)
    (record { register = there.0; passed = there.1; kept = keeps_answers W L asked _ there.0 there.1; stands = there.2 })

pub returns-then-is_err-clause-named : goal.returns-then-is_err-clause-named
returns-then-is_err-clause-named g c =
    let same : c.reserve.new.self.items ≡ c.loop-count.told.items = c.reserve.ensures.items in
    subst AreOpenings (sym same) c.loop-count.invariant.named

pub returns-then-not-again-clause-named : goal.returns-then-not-again-clause-named
returns-then-not-again-clause-named g c =
    let days = c.loop-count.told.items in
    let today = c.day-today.result.0 in
    let pushed : c.push.new.self.items ≡ days ++ today ∷ [] = search rules in
    subst AreOpenings (sym pushed) (All-push (λ (d : Result Answered Fault). IfErr d IsOpeningFault) days today c.loop-count.invariant.named c.day-today.ensures.named)

pub returns-then-not-again-clause-led : goal.returns-then-not-again-clause-led
returns-then-not-again-clause-led g c = λ clean given W L start db may.
    let v = g.S.Store in
    let i = c.loop-count.invariant in
    let d = c.day-today.ensures in
    let days = c.loop-count.told.items in
    let today = c.day-today.result.0 in
    let cs = c.first_of.result.now in
    let whole = day_by_day c.args.counts.now c.args.asked.now in
    let asked = map all_asked whole in
    let index = c.loop-count.count-index in
    let count = get_or c.args.counts.now index 0 in
    let item = slice_get-get_or c.args.counts.now index 0 c.loop-count-test.true in
    let now : slice_get whole (length days) ≡ Some cs =
    ap (slice_get whole) i.count ∙ day_at c.args.counts.now c.args.asked.now index count item ∙ ap Some (sym (c.first_of.ensures ∙ ap (take count) i.rest)) in
    let at : slice_get asked (length days) ≡ Some (all_asked cs) = slice_get-map all_asked whole (length days) ∙ ap (option_map all_asked) now in
    let pushed : c.push.new.self.items ≡ days ++ today ∷ [] = search rules in
    let both = reached_more can_be_given whole days cs today now (subst (λ (all : List (Result Answered Fault)). list_all can_be_given (reached whole all) ≡ true) pushed given) in
    let there = led_on W L (v.recovers c.loop-count.store) (v.recovers c.day-today.result.1) asked days (all_asked cs) today
    (i.led (omega (arith, d.doubt, clean)) both.0 W L start) at (d.passes clean both.1 W) db may in
    subst (λ (all : List (Result Answered Fault)). AreLed W L asked all db) (sym pushed)
    (record { register = there.0; passed = there.1; kept = keeps_answers W L asked _ there.0 there.1; stands = there.2 })

pub loop-count-preserved : goal.loop-count-preserved
loop-count-preserved g c =
    let v = g.S.Store in
    let i = c.loop-count.invariant in
    let d = c.day-today.ensures in
    let days = c.loop-count.told.items in
    let today = c.day-today.result.0 in
    let cs = c.first_of.result.now in
    let whole = day_by_day c.args.counts.now c.args.asked.now in
    let asked = map all_asked whole in
    let index = c.loop-count.count-index in
    let count = get_or c.args.counts.now index 0 in
    let item = slice_get-get_or c.args.counts.now index 0 c.loop-count-test.true in
    let pushed : c.push.new.self.items ≡ days ++ today ∷ [] = search rules in
    record {
      rest = c.after_of-rest.ensures ∙ ap (drop count) i.rest ∙ sym (left_more c.args.counts.now c.args.asked.now index count item);
      count = search rules;
      doubt = omega (arith, i.doubt, d.doubt);
      numbered = d.again c.if-not-again.false;
      named = subst AreOpenings (sym pushed) (All-push (λ (d : Result Answered Fault). IfErr d IsOpeningFault) days today i.named d.named);
      led = λ clean given W L start.
          let now : slice_get whole (length days) ≡ Some cs =
          ap (slice_get whole) i.count ∙ day_at c.args.counts.now c.args.asked.now index count item ∙ ap Some (sym (c.first_of.ensures ∙ ap (take count) i.rest)) in
          let at : slice_get asked (length days) ≡ Some (all_asked cs) = slice_get-map all_asked whole (length days) ∙ ap (option_map all_asked) now in
          let both = reached_more can_be_given whole days cs today now (subst (λ (all : List (Result Answered Fault)). list_all can_be_given (reached whole all) ≡ true) pushed given) in
          subst (λ (all : List (Result Answered Fault)). (db : Trees) → v.recovers c.day-today.result.1 db → (M : List Entry) × Pass W L asked all M × LeavesCarried W M db) (sym pushed)
          (led_on W L (v.recovers c.loop-count.store) (v.recovers c.day-today.result.1) asked days (all_asked cs) today
          (i.led (omega (arith, d.doubt, clean)) both.0 W L start) at (d.passes clean both.1 W));
    }

pub returns-clause-led : goal.returns-clause-led
returns-clause-led g c = λ clean given W L start db may.
    let there = c.loop-count.invariant.led clean given W L start db may in
    record {
      register = there.0;
      passed = there.1;
      kept = keeps_answers W L _ _ there.0 there.1;
      stands = there.2;
    }
