-- A depositor of a legal register is enrolled once, and the enrolments stand in the order of their
-- entries.
use Rattle.std.proofs.Common.{◌≡◌, ◌≤◌, ◌<◌, ℕ, ◌+◌, List, [], ◌∷◌, ◌++◌, length, map, filter, Bool, true, false, not, refl, sym, ap, ◌∙◌, inl, inr, arith, Less}
use Rattle.std.specs.Prelude.{if◌then◌else◌, ◌==◌}
use Rattle.std.specs.List.{AllByRecursion}
use Rattle.std.specs.List.Sorted.{IsPermutation, IsSortedByKey}
use Rattle.std.specs.Ordering.{nat_cmp}
use Rattle.std.proofs.lemmas.Bool.{lt-ltb, eqb-true}
use Rattle.std.proofs.lemmas.Cmp.{nat_cmp_total, on_total}
use Rattle.std.proofs.lemmas.List.Sorted.{IsPermutation-trans}
use Rattle.sqlite_trees.specs.Tree.{IsAscending}
use Rattle.sqlite_rules.specs.Lists.{Has}
use Rattle.definitions.specs.Rules.{Today}
use Rattle.definitions.specs.Header.{Who, is_partner}
use Rattle.definitions.specs.Register.{Entry, own, is_numbered}
use Rattle.definitions.specs.Accepted.{IsLegal}
use Rattle.rules.specs.Played.{CanFollow}
use Rattle.rules.proofs.Depositors.{partner_of}
use Rattle.rules.proofs.Follows.{can_follow}
use Rattle.rules.proofs.Registers.{Along, along_legal, own_more, own_with}
use Rattle.store.specs.Open.{enrolled}
use Rattle.book_tables.specs.Enrolments.{EnrolmentFacts, enrolments_after, enrolments}
use Rattle.book_tables.proofs.InOrder.{sorted_once}
use Rattle.book_tables.proofs.NextNames.{AreApart}
use Rattle.book_tables.proofs.Owned.{same_partner}

-- Who was enrolled, and where.

who_listed : (n : ℕ) (L : List Entry) → map (λ (x : EnrolmentFacts). x.who) (enrolments_after n L) ≡ enrolled L
who_listed n [] = refl
who_listed n (e ∷ L) = by (is_numbered e) (who_listed (n + 1) L)
  where
    more : List Entry
    more = filter (λ (k : Entry). not (is_numbered k)) L

    by : (b : Bool) → map (λ (x : EnrolmentFacts). x.who) (enrolments_after (n + 1) L) ≡ map (λ (k : Entry). k.who) more
        → map (λ (x : EnrolmentFacts). x.who) (if b then enrolments_after (n + 1) L else record { seq = n + 1; who = e.who } ∷ enrolments_after (n + 1) L)
        ≡ map (λ (k : Entry). k.who) (if not b then e ∷ more else more)
    by true later = later
    by false later = ap (λ (ws : List Who). e.who ∷ ws) later

less : (m n : ℕ) → m < n → nat_cmp m n ≡ Less
less m n h = rw (lt-ltb m n h) refl

abbrev IsEarlier : EnrolmentFacts → EnrolmentFacts → Type 0
IsEarlier x y = nat_cmp x.seq y.seq ≡ Less

later_than : (m n : ℕ) (L : List Entry) → m ≤ n → AllByRecursion (λ (x : EnrolmentFacts). nat_cmp m x.seq ≡ Less) (enrolments_after n L)
later_than m n [] h = tt
later_than m n (e ∷ L) h = by (is_numbered e) (later_than m (n + 1) L (omega (arith, h)))
  where
    by : (b : Bool) → AllByRecursion (λ (x : EnrolmentFacts). nat_cmp m x.seq ≡ Less) (enrolments_after (n + 1) L)
        → AllByRecursion (λ (x : EnrolmentFacts). nat_cmp m x.seq ≡ Less) (if b then enrolments_after (n + 1) L else record { seq = n + 1; who = e.who } ∷ enrolments_after (n + 1) L)
    by true later = later
    by false later = (less m (n + 1) (omega (arith, h)), later)

numbers_rise : (n : ℕ) (L : List Entry) → IsAscending IsEarlier (enrolments_after n L)
numbers_rise n [] = tt
numbers_rise n (e ∷ L) = by (is_numbered e) (numbers_rise (n + 1) L)
  where
    by : (b : Bool) → IsAscending IsEarlier (enrolments_after (n + 1) L)
        → IsAscending IsEarlier (if b then enrolments_after (n + 1) L else record { seq = n + 1; who = e.who } ∷ enrolments_after (n + 1) L)
    by true later = later
    by false later = (later_than (n + 1) (n + 1) L (omega arith), later)

-- the enrolments in the order of their entries tell who is enrolled
pub whos_in_order : (L : List Entry) (found sorted : List EnrolmentFacts) → IsPermutation (enrolments L) found → IsPermutation found sorted → IsSortedByKey (λ (x : EnrolmentFacts). x.seq) nat_cmp sorted
    → map (λ (x : EnrolmentFacts). x.who) sorted ≡ enrolled L
whos_in_order L found sorted all moved up =
    let same : sorted ≡ enrolments L = sorted_once (λ (x y : EnrolmentFacts). nat_cmp x.seq y.seq) (on_total (λ (x : EnrolmentFacts). x.seq) nat_cmp_total) (enrolments L) sorted
    (numbers_rise 0 L) (IsPermutation-trans (enrolments L) found sorted all moved) up in
    ap (map (λ (x : EnrolmentFacts). x.who)) same ∙ who_listed 0 L

-- Each once.

front_none : {X : Type 0} (xs ys : List X) → xs ++ ys ≡ [] → xs ≡ []
front_none [] ys h = refl
front_none (x ∷ xs) ys h = absurd (cc (h))

pushed_some : {X : Type 0} (xs : List X) (x : X) → xs ++ x ∷ [] ≡ [] → ⊥
pushed_some [] x h = cc (h)
pushed_some (y ∷ xs) x h = cc (h)

none_own : (M : List Entry) (b : Bool) → b ≡ false → b ≡ not (length M == 0) → M ≡ []
none_own [] b h g = refl
none_own (k ∷ M) b h g = absurd (omega (arith, eqb-true (length (k ∷ M)) 0 (told (length (k ∷ M) == 0) (sym h ∙ g))))
  where
    told : (d : Bool) → false ≡ not d → d ≡ true
    told true e = refl
    told false e = absurd (cc (e))

-- after an entry of a depositor it isn't enrolled again
never_again : (w : Who) (before : List Entry) (n : ℕ) (L : List Entry) → (own before w ≡ [] → ⊥) → Along CanFollow before L → (x : EnrolmentFacts) → Has (enrolments_after n L) x → x.who ≡ w → ⊥
never_again w before n [] some along x there same = there
never_again w before n (e ∷ L) some along x there same = by (is_numbered e) refl there (λ h. never_again w (before ++ e ∷ []) (n + 1) L still along.1 x h same)
  where
    still : own (before ++ e ∷ []) w ≡ [] → ⊥
    still none = some (front_none (own before w) _ (sym (own_more before e w) ∙ none))

    by : (b : Bool) → is_numbered e ≡ b → Has (if b then enrolments_after (n + 1) L else record { seq = n + 1; who = e.who } ∷ enrolments_after (n + 1) L) x
        → (Has (enrolments_after (n + 1) L) x → ⊥) → ⊥
    by true is h later = later h
    by false is (inl here) later =
        let mine : e.who ≡ w = sym (ap (λ (y : EnrolmentFacts). y.who) here) ∙ same in
        some (ap (own before) (sym mine) ∙ none_own (own before e.who) (is_numbered e) is along.0.numbered)
    by false is (inr h) later = later h

all_partners : (before : List Entry) (n : ℕ) (L : List Entry) → Along CanFollow before L → (x : EnrolmentFacts) → Has (enrolments_after n L) x → is_partner x.who ≡ true
all_partners before n [] along x there = absurd there
all_partners before n (e ∷ L) along x there = by (is_numbered e) there (λ h. all_partners (before ++ e ∷ []) (n + 1) L along.1 x h)
  where
    by : (b : Bool) → Has (if b then enrolments_after (n + 1) L else record { seq = n + 1; who = e.who } ∷ enrolments_after (n + 1) L) x
        → (Has (enrolments_after (n + 1) L) x → is_partner x.who ≡ true) → is_partner x.who ≡ true
    by true h later = later h
    by false (inl here) later = ap (λ (y : EnrolmentFacts). is_partner y.who) here ∙ partner_of e along.0.good
    by false (inr h) later = later h

apart_along : (before : List Entry) (n : ℕ) (L : List Entry) → Along CanFollow before L → AreApart (enrolments_after n L)
apart_along before n [] along = tt
apart_along before n (e ∷ L) along = by (is_numbered e) (apart_along (before ++ e ∷ []) (n + 1) L along.1)
  where
    here : own (before ++ e ∷ []) e.who ≡ [] → ⊥
    here none = pushed_some (own before e.who) e (sym (own_with before e) ∙ none)

    by : (b : Bool) → AreApart (enrolments_after (n + 1) L) → AreApart (if b then enrolments_after (n + 1) L else record { seq = n + 1; who = e.who } ∷ enrolments_after (n + 1) L)
    by true later = later
    by false later = (
      λ y there same. never_again e.who (before ++ e ∷ []) (n + 1) L here along.1 y there
          (same_partner y.who e.who (all_partners (before ++ e ∷ []) (n + 1) L along.1 y there) (partner_of e along.0.good) same),
      later,
    )

follows : (W : Who) (L : List Entry) → IsLegal Today W L → Along CanFollow [] L
follows W L legal = along_legal Today W CanFollow L (λ q K c t given now a. can_follow q W K c t given now a) legal

pub enrolled_apart : (W : Who) (L : List Entry) → IsLegal Today W L → AreApart (enrolments L)
enrolled_apart W L legal = apart_along [] 0 L (follows W L legal)

pub enrolled_partner : (W : Who) (L : List Entry) → IsLegal Today W L → (x : EnrolmentFacts) → Has (enrolments L) x → is_partner x.who ≡ true
enrolled_partner W L legal = all_partners [] 0 L (follows W L legal)
