-- What a search by halves finds in a list that rises.
use Rattle.std.proofs.Common.{◌≡◌, ℕ, ◌<◌, ◌≤◌, Bool, true, false, List, length, get_or, refl, ap, sym, ◌∙◌, subst, inl, inr, arith, Result, Ok, Err, Ordering}
use Rattle.std.proofs.lemmas.Bool.{cases_Bool, cases_lt, both_ways, lt-ltb}
use Rattle.std.proofs.lemmas.Cmp.{nat_list_cmp_total, ranked}
use Rattle.std.specs.Prelude.{MatchResult, nat_lt}
use Rattle.std.specs.List.{HoldsAt}
use Rattle.std.specs.List.Sorted.{IsBinarySearchResult, IsSearchInRange, IsPartitionPoint, IsNonDecreasingBy}
use Rattle.std.specs.Ordering.{is_lt, nat_cmp, ordering_index, ordering_reverse}
use Rattle.std.specs.declared.cmp.Ordering.TheVariants.{Less, Equal, Greater}
use Rattle.definitions.specs.Bytes.{comes_before}
use Rattle.page_rows.specs.Keyed.{put_by, rises_by, text_order, IsRank}
use Rattle.page_rows.proofs.Orders.{IsStrict}
use Rattle.page_rows.proofs.Texts.{texts_total}
use Rattle.page_rows.proofs.Keys.{IsTest, at_set, none_apart, rank_below, rank_insert, rank_none, rises_at}
use Rattle.stock.specs.Searching.{FoundAt, put_at}

-- the order tells how an element's key stands to this one
pub record Compares {X K : Type 0} (less : K → K → Bool) (key : X → K) (k : K) (ord : X → Ordering) : Type 0 where
  pub below : (x : X) → ord x ≡ Less → less (key x) k ≡ true
  pub same : (x : X) → ord x ≡ Equal → key x ≡ k
  pub above : (x : X) → ord x ≡ Greater → less k (key x) ≡ true

module _ {X K : Type 0} (less : K → K → Bool) (strict : IsStrict less) (key : X → K) where
  not_before : (j k : K) → less k j ≡ true → less j k ≡ false
  not_before j k h = elim (cases_Bool (less j k)) [
    | inl e ↦ absurd (both_ways (less j j) (strict.never j) (strict.through j k j e h))
    | inr e ↦ e
  ]

  module _ (k : K) (ord : X → Ordering) (tells : Compares less key k ord) where
    -- of two of which the first has the lower key, the first isn't told to stand higher
    in_turn : (x y : X) (o p : Ordering) → ord x ≡ o → ord y ≡ p → less (key x) (key y) ≡ true → ordering_index o ≤ ordering_index p
    in_turn x y Less p e f lt = omega arith
    in_turn x y Equal Less e f lt =
        absurd (both_ways (less k k) (strict.never k) (strict.through k (key y) k (subst (λ (j : K). less j (key y) ≡ true) (tells.same x e) lt) (tells.below y f)))
    in_turn x y Equal Equal e f lt = omega arith
    in_turn x y Equal Greater e f lt = omega arith
    in_turn x y Greater Less e f lt =
        absurd (both_ways (less k k) (strict.never k) (strict.through k (key y) k (strict.through k (key x) (key y) (tells.above x e) lt) (tells.below y f)))
    in_turn x y Greater Equal e f lt =
        absurd (both_ways (less k k) (strict.never k) (subst (λ (j : K). less k j ≡ true) (tells.same y f) (strict.through k (key x) (key y) (tells.above x e) lt)))
    in_turn x y Greater Greater e f lt = omega arith

    rising : (xs : List X) → rises_by less key xs ≡ true → IsNonDecreasingBy (λ y. ordering_index (ord y)) xs
    rising xs rises i j d le within = elim (cases_lt i j) [
      | inl lt ↦ in_turn (get_or xs i d) (get_or xs j d) _ _ refl refl (rises_at less strict key xs i j d rises lt within)
      | inr ge ↦ let e : i ≡ j = omega arith in let f : ordering_index (ord (get_or xs i d)) ≡ ordering_index (ord (get_or xs j d)) = ap (λ (n : ℕ). ordering_index (ord (get_or xs n d))) e in omega (arith, f)
    ]

    -- one that has the key is at its rank
    here : (xs : List X) (i : ℕ) → rises_by less key xs ≡ true → i < length xs → HoldsAt (λ y. ord y ≡ Equal) xs i → IsRank less key xs k i
    here xs i rises within equal = record {
      bound = omega arith;
      below = λ j d lt. subst (λ (n : K). less (key (get_or xs j d)) n ≡ true) (tells.same _ (equal d)) (rises_at less strict key xs j i d rises lt within);
      above = λ j d le inside. elim (cases_lt i j) [
        | inl lt ↦ not_before (key (get_or xs j d)) k (subst (λ (n : K). less n (key (get_or xs j d)) ≡ true) (tells.same _ (equal d)) (rises_at less strict key xs i j d rises lt inside))
        | inr ge ↦ let e : i ≡ j = omega arith in subst (λ (n : K). less n k ≡ false) (sym (tells.same _ (equal d)) ∙ ap (λ (m : ℕ). key (get_or xs m d)) e) (strict.never k)
      ];
    }

    between : (xs : List X) (i : ℕ) → i ≤ length xs → IsPartitionPoint (λ y. ord y ≡ Less) (λ y. ord y ≡ Greater) xs i → IsRank less key xs k i
    between xs i bound point = record {
      bound = bound;
      below = λ j d lt. tells.below _ (point.0 j d (omega arith) lt);
      above = λ j d le within. not_before (key (get_or xs j d)) k (tells.above _ (point.1 j d le within));
    }

    apart : (is : X → Bool) → IsTest key k is → (x : X) → ord x ≡ Greater → is x ≡ false
    apart is test x e = elim (cases_Bool (is x)) [
      | inl f ↦ absurd (both_ways (less k k) (strict.never k) (subst (λ (j : K). less k j ≡ true) (test.says x f) (tells.above x e)))
      | inr f ↦ f
    ]

    pub searched : (is : X → Bool) → IsTest key k is → (xs : List X) → rises_by less key xs ≡ true → (r : Result ℕ ℕ) → IsSearchInRange r (length xs) → IsBinarySearchResult ord xs r
        → FoundAt less key is k xs r
    searched is test xs rises (Ok i) within equal = record {
      within = within;
      first = rank_below less strict key xs k is i test (here xs i rises within equal);
      here = λ d. test.said _ (tells.same _ (equal d));
    }
    searched is test xs rises (Err i) bound point =
        let parted = point (rising xs rises) in
        let rank = between xs i bound parted in
        (rank_none less strict key xs k is i test rises rank (λ d within. apart is test _ (parted.1 i d (omega arith) within)), rank)

  pub found_within : (k : K) (xs : List X) (is : X → Bool) (r : Result ℕ ℕ) → FoundAt less key is k xs r → MatchResult r (λ i. i < length xs) (λ i. i ≤ length xs)
  found_within k xs is (Ok i) at = at.within
  found_within k xs is (Err i) found = found.1.bound

  -- what is put where its own key was searched is put by its key
  pub put_found : (x : X) (xs : List X) (is : X → Bool) → IsTest key (key x) is → rises_by less key xs ≡ true → (r : Result ℕ ℕ) → FoundAt less key is (key x) xs r
      → put_at r x xs ≡ put_by less key x xs
  put_found x xs is test rises (Ok i) at = at_set less strict key xs i x rises at.within (test.says (get_or xs i x) (at.here x))
  put_found x xs is test rises (Err i) found = rank_insert less strict key xs i x found.1 (λ d within e. none_apart less strict key (key x) is test xs i d found.0 within e)

-- What `cmp` tells of texts and of numbers.

pub texts_told : {X : Type 0} (key : X → List ℕ) (s : List ℕ) → Compares comes_before key s (λ x. text_order (key x) s)
texts_told key s = record {
  below = λ x e. ap is_lt e;
  same = λ x e. texts_total (key x) s (ap is_lt e) (ap is_lt (nat_list_cmp_total.antisymm s (key x) ∙ ap ordering_reverse e));
  above = λ x e. ap is_lt (nat_list_cmp_total.antisymm s (key x) ∙ ap ordering_reverse e);
}

pub numbers_told : {X : Type 0} (key : X → ℕ) (n : ℕ) → Compares nat_lt key n (λ x. nat_cmp (key x) n)
numbers_told key n = record {
  below = λ x e. lt-ltb (key x) n (ranked (key x) n Less (sym e));
  same = λ x e. ranked (key x) n Equal (sym e);
  above = λ x e. lt-ltb n (key x) (ranked (key x) n Greater (sym e));
}
