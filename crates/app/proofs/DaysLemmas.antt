-- Days after one another.
use Rattle.std.proofs.Common.{◌≡◌, ℕ, zero, suc, ◌+◌, Bool, true, List, [], ◌∷◌, ◌++◌, length, take, drop, Result, Ok, Err, Some, slice_get, refl, sym, ap, subst, ◌∙◌, arith}
use Rattle.std.specs.List.{list_all}
use Rattle.std.specs.Cmp.Derive.{both_true}
use Rattle.sqlite.specs.Tree.{Trees}
use Rattle.definitions.specs.Rules.{Today}
use Rattle.definitions.specs.Header.{Who}
use Rattle.definitions.specs.Moments.{Moment}
use Rattle.definitions.specs.Register.{Command, Entry}
use Rattle.definitions.specs.Accepted.{accepted_on}
use Rattle.definitions.proofs.HistoryLaws.{accepted_on-append}
use Rattle.definitions.proofs.TextLaws.{both_parts}
use Rattle.store.specs.Fault.{Fault}
use Rattle.book_statements.specs.Carrying.{LeavesCarried}
use Rattle.app.specs.Days.{AllCarried, KeepsAnswers, Pass, Passes, PassesTo, reached, reached_on, day_by_day}
use Rattle.app.specs.Stopped.{IsAnsweredUpTo}
use Rattle.app.specs.declared.stops.answering.Answered.{Answered}
use Rattle.app.proofs.AgainLemmas.{stood_on, stored_later}

-- one day more came to what was reached before, and to what it reached
pub reached_more : {X : Type 0} (p : List X → Bool) (given : List (List X)) (days : List (Result Answered Fault)) (cs : List X) (day : Result Answered Fault) → slice_get given (length days) ≡ Some cs
    → list_all p (reached given (days ++ day ∷ [])) ≡ true → (list_all p (reached given days) ≡ true) × (p (reached_on cs day) ≡ true)
reached_more p [] [] cs day at all = absurd (cc)
reached_more p (c ∷ given) [] cs day at all =
    let is : c ≡ cs = cc in
    (refl, ap (λ xs. p (reached_on xs day)) (sym is) ∙ (both_parts (p (reached_on c day)) true all).0)
reached_more p [] (d ∷ days) cs day at all = absurd (cc)
reached_more p (c ∷ given) (d ∷ days) cs day at all =
    let both = both_parts (p (reached_on c d)) (list_all p (reached given (days ++ day ∷ []))) all in
    let rest = reached_more p given days cs day at both.1 in
    (both_true both.0 rest.0, rest.1)

-- one day more
pass_on : (W : Who) (L : List Entry) (given : List (List (Command × Moment))) (days : List (Result Answered Fault)) (N : List Entry) (cs : List (Command × Moment)) (day : Result Answered Fault) (M : List Entry)
    → Pass W L given days N → slice_get given (length days) ≡ Some cs → Passes W N cs day M → Pass W L given (days ++ day ∷ []) M
pass_on W L [] [] N cs day M pass at next = absurd (cc)
pass_on W L (c ∷ given) [] N cs day M pass at next =
    let is : c ≡ cs = cc in
    (M, subst (λ (xs : List (Command × Moment)). Passes W L xs day M) (sym is) (subst (λ (K : List Entry). Passes W K cs day M) pass next), refl)
pass_on W L [] (d ∷ days) N cs day M pass at next = absurd pass
pass_on W L (c ∷ given) (d ∷ days) N cs day M pass at next = (pass.0, pass.1, pass_on W pass.0 given days N cs day M pass.2 at next)

-- what is left after one day more stands for the register to which the days led
pub led_on : (W : Who) (L : List Entry) (was now : Trees → Type 0) (given : List (List (Command × Moment))) (days : List (Result Answered Fault)) (cs : List (Command × Moment)) (day : Result Answered Fault)
    → ((db : Trees) → was db → (M : List Entry) × Pass W L given days M × LeavesCarried W M db) → slice_get given (length days) ≡ Some cs
    → ((all : AllCarried was W) (db : Trees) → now db → PassesTo was W all cs day db) → (db : Trees) → now db → (M : List Entry) × Pass W L given (days ++ day ∷ []) M × LeavesCarried W M db
led_on W L was now given days cs day before at passes db may =
    let all : AllCarried was W = λ left found. let there = before left found in (there.0, there.2) in
    let p = passes all db may in
    let there = before p.found p.was in
    (p.register, pass_on W L given days there.0 cs day p.register there.1 at p.passes, p.stands)

-- days go on from what they began with
later_on : (W : Who) (L : List Entry) (given : List (List (Command × Moment))) (days : List (Result Answered Fault)) (M : List Entry) → Pass W L given days M → (more : List (Command × Moment)) × (M ≡ accepted_on Today W L more)
later_on W L given [] M pass = ([], pass)
later_on W L [] (day ∷ days) M pass = absurd pass
later_on W L (cs ∷ given) (Ok day ∷ days) M pass =
    let p = pass.1 in
    let rest = later_on W pass.0 given days M pass.2 in
    (take p.kept cs ++ rest.0, rest.1 ∙ ap (λ (K : List Entry). accepted_on Today W K rest.0) p.left ∙ sym (accepted_on-append Today W L (take p.kept cs) rest.0))
later_on W L (cs ∷ given) (Err fault ∷ days) M pass =
    let rest = later_on W pass.0 given days M pass.2 in
    (rest.0, rest.1 ∙ ap (λ (K : List Entry). accepted_on Today W K rest.0) pass.1.1)

-- and what was accepted on one of them is stored
pub keeps_answers : (W : Who) (L : List Entry) (given : List (List (Command × Moment))) (days : List (Result Answered Fault)) (M : List Entry) → Pass W L given days M → KeepsAnswers W given days M
keeps_answers W L given [] M pass d i cs day c t s text other at on here said = absurd (cc)
keeps_answers W L [] (day' ∷ days) M pass d i cs day c t s text other at on here said = absurd pass
keeps_answers W L (cs' ∷ given) (day' ∷ days) M pass zero i cs day c t s text other at on here said =
    let same : cs' ≡ cs = cc in
    let was : day' ≡ Ok day = cc in
    let p : IsAnsweredUpTo W L cs day pass.0 = subst (λ (xs : List (Command × Moment)). Passes W L xs (Ok day) pass.0) same (subst (λ (o : Result Answered Fault). Passes W L cs' o pass.0) was pass.1) in
    let rest = later_on W pass.0 given days M pass.2 in
    stored_later W pass.0 M c t s text rest.0 other (stood_on W L pass.0 cs day i c t text p here said) rest.1
keeps_answers W L (cs' ∷ given) (day' ∷ days) M pass (suc d) i cs day c t s text other at on here said = keeps_answers W pass.0 given days M pass.2 d i cs day c t s text other at on here said

-- Commands day by day.

-- what is left of them after days of so many each
abbrev pub left_after : {X : Type 0} → List ℕ → List X → List X
left_after [] xs = xs
left_after (n ∷ ns) xs = left_after ns (drop n xs)

pub day_at : {X : Type 0} (ns : List ℕ) (xs : List X) (i n : ℕ) → slice_get ns i ≡ Some n → slice_get (day_by_day ns xs) i ≡ Some (take n (left_after (take i ns) xs))
day_at [] xs i n at = absurd (cc)
day_at (m ∷ ns) xs zero n at = let is : m ≡ n = cc in ap (λ (k : ℕ). Some (take k xs)) is
day_at (m ∷ ns) xs (suc i) n at = day_at ns (drop m xs) i n at

left_next : {X : Type 0} (ns : List ℕ) (xs : List X) (i n : ℕ) → slice_get ns i ≡ Some n → left_after (take (suc i) ns) xs ≡ drop n (left_after (take i ns) xs)
left_next [] xs i n at = absurd (cc)
left_next (m ∷ ns) xs zero n at = let is : m ≡ n = cc in ap (λ (k : ℕ). drop k xs) is
left_next (m ∷ ns) xs (suc i) n at = left_next ns (drop m xs) i n at

pub left_more : {X : Type 0} (ns : List ℕ) (xs : List X) (i n : ℕ) → slice_get ns i ≡ Some n → left_after (take (i + 1) ns) xs ≡ drop n (left_after (take i ns) xs)
left_more ns xs i n at = let one : i + 1 ≡ suc i = omega arith in ap (λ (k : ℕ). left_after (take k ns) xs) one ∙ left_next ns xs i n at
