-- Enrolments whose depositors' texts differ are gone through by these texts: with the first one
-- taken, those are left whose texts come after its own.
use Rattle.std.proofs.Common.{◌≡◌, ℕ, List, [], ◌∷◌, ◌++◌, filter, Bool, true, false, not, cond, refl, sym, ap, subst, subst₂, ◌∙◌, inl, inr, arith, append-nil, None, Some}
use Rattle.std.specs.Prelude.{if◌then◌else◌, nat_lt, ◌==◌}
use Rattle.std.specs.Ordering.{is_lt, ordering_reverse, ordering_then, nat_cmp}
use Rattle.std.specs.Cmp.Lexicographic.{slice_cmp}
use Rattle.std.specs.List.Sorted.{IsPermutation}
use Rattle.std.specs.declared.cmp.Ordering.{Ordering}
use Rattle.std.specs.declared.cmp.Ordering.TheVariants.{Less, Equal, Greater}
use Rattle.std.proofs.lemmas.Bool.{both_ways, le-ltb}
use Rattle.std.proofs.lemmas.Cmp.{nat_cmp_total}
use Rattle.std.proofs.lemmas.List.Sorted.{IsPermutation-refl, IsPermutation-cons, IsPermutation-trans, IsPermutation-middle, IsPermutation-pop_more}
use Rattle.sqlite_rules.specs.Lists.{Has}
use Rattle.sqlite_rules.proofs.ListLemmas.{has_filtered, has_kept}
use Rattle.definitions.specs.Bytes.{comes_before}
use Rattle.definitions.specs.Header.{who_text}
use Rattle.rules.proofs.Texts.{texts_never, texts_through, texts_total}
use Rattle.book_tables.specs.Enrolments.{EnrolmentFacts, from_text, IsFirstFrom, next_text}

-- The text that comes next.

none_before : (t : List ℕ) → comes_before t [] ≡ false
none_before [] = refl
none_before (b ∷ t) = refl

not_first : (p q : Bool) (o : Ordering) → p ≡ false → is_lt o ≡ false → is_lt (ordering_then (cond p Less (cond q Equal Greater)) o) ≡ false
not_first true q o h g = absurd (let e : ◌≡◌ {A = Bool} true false = h in cc)
not_first false true o h g = g
not_first false false o h g = refl

other_way : (o p q : Ordering) → is_lt p ≡ not (is_lt q) → is_lt (ordering_then (ordering_reverse o) p) ≡ not (is_lt (ordering_then o q))
other_way Less p q h = refl
other_way Equal p q h = h
other_way Greater p q h = refl

-- a text doesn't come before the next one after another exactly where it comes after that one
after_next : (a b : List ℕ) → comes_before b (a ++ 0 ∷ []) ≡ not (comes_before a b)
after_next [] [] = refl
after_next [] (y ∷ b) = not_first (nat_lt y 0) (y == 0) (slice_cmp nat_cmp b []) (le-ltb y 0 (omega arith)) (none_before b)
after_next (x ∷ a) [] = refl
after_next (x ∷ a) (y ∷ b) =
    ap (λ (o : Ordering). is_lt (ordering_then o (slice_cmp nat_cmp b (a ++ 0 ∷ [])))) (nat_cmp_total.antisymm y x)
    ∙ other_way (nat_cmp x y) (slice_cmp nat_cmp b (a ++ 0 ∷ [])) (slice_cmp nat_cmp a b) (after_next a b)

-- Enrolments by their names.

abbrev pub name : EnrolmentFacts → List ℕ
name e = who_text e.who

abbrev is_from : List ℕ → EnrolmentFacts → Bool
is_from t e = not (comes_before (name e) t)

-- no two have one name
abbrev pub AreApart : List EnrolmentFacts → Type 0
AreApart [] = Unit {0}
AreApart (x ∷ xs) = ((y : EnrolmentFacts) → Has xs y → name y ≡ name x → ⊥) × AreApart xs

-- all are from the empty text on
from_nothing : (es : List EnrolmentFacts) → from_text [] es ≡ es
from_nothing [] = refl
from_nothing (e ∷ es) =
    ap (λ (b : Bool). if not b then e ∷ from_text [] es else from_text [] es) (none_before (name e)) ∙ ap (λ (xs : List EnrolmentFacts). e ∷ xs) (from_nothing es)

filter_alike : {X : Type 0} (p q : X → Bool) (xs : List X) → ((x : X) → Has xs x → p x ≡ q x) → filter p xs ≡ filter q xs
filter_alike p q [] h = refl
filter_alike {X} p q (x ∷ xs) h =
    ap (λ (b : Bool). if b then x ∷ filter p xs else filter p xs) (h x (inl refl))
    ∙ ap (λ (ys : List X). if q x then x ∷ ys else ys) (filter_alike p q xs (λ y there. h y (inr there)))

same_permutation : {X : Type 0} (xs ys : List X) → xs ≡ ys → IsPermutation xs ys
same_permutation xs ys is = subst (IsPermutation xs) is (IsPermutation-refl xs)

module _ (t : List ℕ) (e : EnrolmentFacts) (from : comes_before (name e) t ≡ false) where
  -- it comes not before any from the text on
  abbrev IsLeast : EnrolmentFacts → Type 0
  IsLeast y = comes_before (name y) t ≡ false → comes_before (name y) (name e) ≡ false

  past : (y : EnrolmentFacts) (d : Bool) → comes_before (name e) (name y) ≡ d → is_from (next_text e.who) y ≡ d
  past y d h = ap not (after_next (name e) (name y)) ∙ ap (λ (b : Bool). not (not b)) h ∙ twice d
    where
      twice : (b : Bool) → not (not b) ≡ b
      twice true = refl
      twice false = refl

  -- what has another name is left where it was there
  left_same : (y : EnrolmentFacts) → IsLeast y → (name y ≡ name e → ⊥) → is_from t y ≡ is_from (next_text e.who) y
  left_same y least other = by (comes_before (name y) t) (comes_before (name e) (name y)) refl refl
    where
      by : (b d : Bool) → comes_before (name y) t ≡ b → comes_before (name e) (name y) ≡ d → is_from t y ≡ is_from (next_text e.who) y
      by true true p q = absurd (both_ways (comes_before (name e) t) from (texts_through (name e) (name y) t q p))
      by true false p q = ap not p ∙ sym (past y false q)
      by false true p q = ap not p ∙ sym (past y true q)
      by false false p q = absurd (other (texts_total (name y) (name e) (least p) q))

  taken : (es : List EnrolmentFacts) → AreApart es → Has es e → ((y : EnrolmentFacts) → Has es y → IsLeast y) → IsPermutation (from_text t es) (e ∷ from_text (next_text e.who) es)
  taken [] apart there least = absurd there
  taken (x ∷ xs) apart (inl same) least =
      let names : name e ≡ name x = ap name same in
      let here : is_from t x ≡ true = ap not (subst (λ (n : List ℕ). comes_before n t ≡ false) names from) in
      let gone : is_from (next_text e.who) x ≡ false = past x false (subst (λ (n : List ℕ). comes_before (name e) n ≡ false) names (texts_never (name e))) in
      let rest : from_text t xs ≡ from_text (next_text e.who) xs =
      filter_alike (is_from t) (is_from (next_text e.who)) xs (λ y there. left_same y (least y (inr there)) (λ one. apart.0 y there (one ∙ names))) in
      same_permutation (from_text t (x ∷ xs)) (e ∷ from_text (next_text e.who) (x ∷ xs))
      (ap (λ (b : Bool). if b then x ∷ from_text t xs else from_text t xs) here
      ∙ (λ i. sym same i ∷ rest i)
      ∙ ap (λ (b : Bool). e ∷ (if b then x ∷ from_text (next_text e.who) xs else from_text (next_text e.who) xs)) (sym gone))
  taken (x ∷ xs) apart (inr there) least =
      let later = taken xs apart.1 there (λ y h. least y (inr h)) in
      subst (λ (b : Bool). IsPermutation (from_text t (x ∷ xs)) (e ∷ (if b then x ∷ from_text (next_text e.who) xs else from_text (next_text e.who) xs)))
      (left_same x (least x (inl refl)) (λ one. apart.0 e there (sym one))) (by (is_from t x) later)
    where
      by : (b : Bool) → IsPermutation (from_text t xs) (e ∷ from_text (next_text e.who) xs)
          → IsPermutation (if b then x ∷ from_text t xs else from_text t xs) (e ∷ (if b then x ∷ from_text (next_text e.who) xs else from_text (next_text e.who) xs))
      by true later =
          IsPermutation-trans (x ∷ from_text t xs) (x ∷ e ∷ from_text (next_text e.who) xs) (e ∷ x ∷ from_text (next_text e.who) xs)
          (IsPermutation-cons x (from_text t xs) (e ∷ from_text (next_text e.who) xs) later) (IsPermutation-middle (x ∷ []) e (from_text (next_text e.who) xs))
      by false later = later

-- With the first from a text on taken, those are left from the text on that comes next after its
-- own
first_taken : (t : List ℕ) (e : EnrolmentFacts) (es : List EnrolmentFacts) → AreApart es → IsFirstFrom t es (Some e) → IsPermutation (from_text t es) (e ∷ from_text (next_text e.who) es)
first_taken t e es apart first =
    let it = has_filtered (is_from t) es e first.0 in
    taken t e (is_false (comes_before (name e) t) it.1) es apart it.0 (λ y there from. first.1 y (has_kept (is_from t) es y there (ap not from)))
  where
    is_false : (b : Bool) → not b ≡ true → b ≡ false
    is_false true h = absurd (cc (h))
    is_false false h = refl

-- Going through all: those that were found, and those that are left.

pub all_left : (es found : List EnrolmentFacts) (t : List ℕ) → found ≡ [] → t ≡ [] → IsPermutation es (found ++ from_text t es)
all_left es found t none nothing = same_permutation es (found ++ from_text t es) (sym ((λ i. none i ++ from_text (nothing i) es) ∙ from_nothing es))

pub one_more : (es found more : List EnrolmentFacts) (t next : List ℕ) (e : EnrolmentFacts) → AreApart es → IsFirstFrom t es (Some e) → more ≡ found ++ e ∷ [] → next ≡ next_text e.who
    → IsPermutation es (found ++ from_text t es) → IsPermutation es (more ++ from_text next es)
one_more es found more t next e apart first added text all =
    subst₂ (λ (xs : List EnrolmentFacts) (u : List ℕ). IsPermutation es (xs ++ from_text u es)) (sym added) (sym text)
    (IsPermutation-pop_more es found (from_text t es) (from_text (next_text e.who) es) e all (first_taken t e es apart first))

pub none_left : (es found : List EnrolmentFacts) (t : List ℕ) → IsFirstFrom t es None → IsPermutation es (found ++ from_text t es) → IsPermutation es found
none_left es found t none all = subst (IsPermutation es) (ap (λ (xs : List EnrolmentFacts). found ++ xs) none ∙ append-nil found) all
