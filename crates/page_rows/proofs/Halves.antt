-- What lines that ascend give a pair, found by halves.
use Rattle.std.proofs.Common.{◌≡◌, ℕ, ◌<◌, Bool, true, false, List, [], ◌∷◌, length, get_or, refl, ap, ◌∙◌, inl, inr}
use Rattle.std.specs.Cmp.Derive.{both_true}
use Rattle.std.specs.List.{list_all}
use Rattle.std.specs.Prelude.{bytes_eq, filter, find}
use Rattle.std.proofs.lemmas.Bool.{cases_Bool, and_parts}
use Rattle.std.proofs.lemmas.Slice.Eq.{bytes_eq-Decides}
use Rattle.definitions.specs.Clerk.{is_ascending}
use Rattle.definitions.specs.Events.{is_pair, pair_before, quantity_of}
use Rattle.definitions.specs.Lists.{placed, in_order}
use Rattle.definitions.specs.Means.{Line}
use Rattle.page_rows.specs.Keyed.{Pair, key_before, rises_by, IsRank}
use Rattle.page_rows.specs.Pairs.{pair_key}
use Rattle.page_rows.proofs.Orders.{Has, Rises}
use Rattle.page_rows.proofs.Keys.{IsTest, was, sum_found, rank_at, rank_none}
use Rattle.page_rows.proofs.KeyLemmas.{pairs_strict}
use Rattle.page_rows.proofs.Finds.{find_at}
use Rattle.page_rows.proofs.Sums.{quantity_as}
use Rattle.page_rows.proofs.LotLemmas.{filter_has}
use Rattle.page_rows.proofs.Rising.{ascending_rises}

-- What rises.

all_from : {X : Type 0} (p : X → Bool) (xs : List X) → ((z : X) → Has z xs → p z ≡ true) → list_all p xs ≡ true
all_from p [] h = refl
all_from p (x ∷ xs) h = both_true (h x (inl refl)) (all_from p xs (λ z has. h z (inr has)))

pub rises_as : {X K : Type 0} (less : K → K → Bool) (key : X → K) (xs : List X) → Rises (λ x y. less (key x) (key y)) xs → rises_by less key xs ≡ true
rises_as less key [] h = refl
rises_as less key (x ∷ xs) h = both_true (all_from (λ y. less (key x) (key y)) xs h.0) (rises_as less key xs h.1)

filter_rises : {X : Type 0} (less : X → X → Bool) (p : X → Bool) (xs : List X) → Rises less xs → Rises less (filter p xs)
filter_rises less p [] h = tt
filter_rises less p (x ∷ xs) h = elim (cases_Bool (p x)) [
  | inl e ↦ rw e ((λ z has. h.0 z (filter_has p z xs has).0), filter_rises less p xs h.1)
  | inr e ↦ rw e (filter_rises less p xs h.1)
]

rising_itself : {X : Type 0} (less : X → X → Bool) (xs : List X) → Rises less xs → in_order less xs ≡ xs
rising_itself less [] h = refl
rising_itself {X} less (x ∷ xs) h = ap (placed less x) (rising_itself less xs h.1) ∙ first xs h.0
  where
    first : (ys : List X) → ((z : X) → Has z ys → less x z ≡ true) → placed less x ys ≡ x ∷ ys
    first [] g = refl
    first (y ∷ ys) g = rw (g y (inl refl)) refl

-- of lines that ascend, those that pass a test are in order
pub ascending_filter : (p : Line → Bool) (ls : List Line) → is_ascending ls ≡ true → in_order pair_before (filter p ls) ≡ filter p ls
ascending_filter p ls h = rising_itself pair_before (filter p ls) (filter_rises pair_before p ls (ascending_rises ls h))

-- What lines that ascend give a pair.

pub ascending_by : (ls : List Line) → is_ascending ls ≡ true → rises_by key_before pair_key ls ≡ true
ascending_by ls h = rises_as key_before pair_key ls (ascending_rises ls h)

line_test : (a b : List ℕ) → IsTest pair_key (a, b) (is_pair a b)
line_test a b = record {
  says = λ x h. let p = and_parts (bytes_eq x.item a) (bytes_eq x.lot b) h in
      let item = (bytes_eq-Decides x.item a).0 p.0 in
      let lot = (bytes_eq-Decides x.lot b).0 p.1 in
      (λ i. (item i, lot i));
  said = λ x e. rw ((bytes_eq-Decides x.item a).1 (ap (λ (p : Pair). p.0) e), (bytes_eq-Decides x.lot b).1 (ap (λ (p : Pair). p.1) e)) refl;
}

quantity_found : (ls : List Line) (a b : List ℕ) → is_ascending ls ≡ true → quantity_of ls a b ≡ was (λ l. l.quantity) (find (is_pair a b) ls)
quantity_found ls a b h = quantity_as ls a b ∙ sum_found key_before pairs_strict pair_key (λ l. l.quantity) (a, b) (is_pair a b) (line_test a b) ls (ascending_by ls h)

pub quantity_at : (ls : List Line) (a b : List ℕ) (i : ℕ) (l : Line) → is_ascending ls ≡ true → IsRank key_before pair_key ls (a, b) i → i < length ls → l ≡ get_or ls i l → is_pair a b l ≡ true
    → quantity_of ls a b ≡ l.quantity
quantity_at ls a b i l h rank within is here =
    quantity_found ls a b h
    ∙ ap (was (λ (k : Line). k.quantity)) (find_at (is_pair a b) ls i l (rank_at key_before pairs_strict pair_key ls (a, b) (is_pair a b) i l (line_test a b) rank within is here) is)

pub quantity_nowhere : (ls : List Line) (a b : List ℕ) (i : ℕ) → is_ascending ls ≡ true → IsRank key_before pair_key ls (a, b) i → ((d : Line) → i < length ls → is_pair a b (get_or ls i d) ≡ false)
    → quantity_of ls a b ≡ 0
quantity_nowhere ls a b i h rank apart =
    quantity_found ls a b h
    ∙ ap (was (λ (k : Line). k.quantity)) (rank_none key_before pairs_strict pair_key ls (a, b) (is_pair a b) i (line_test a b) (ascending_by ls h) rank apart)
