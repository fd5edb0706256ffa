-- What stands once where it stood often is still one of the list.
use Rattle.std.proofs.Common.{◌≡◌, ◌∙◌, ◌==◌, ◌||◌, ◌+◌, ◌<◌, ◌++◌, ℕ, Bool, true, false, cond, List, [], ◌∷◌, length, take, get_or, map, refl, sym, ap}
use Rattle.std.specs.Prelude.{bytes_eq}
use Rattle.std.specs.List.{dedup, dedup_from, list_any}
use Rattle.std.specs.List.Sorted.{IsPermutation}
use Rattle.std.proofs.lemmas.List.{map-append, take_more}
use Rattle.std.proofs.lemmas.List.Sorted.{list_any-IsPermutation}
use Rattle.std.proofs.lemmas.Slice.Eq.{bytes_eq-Decides}
use Rattle.definitions.specs.Bytes.{is_one_of}
use Rattle.definitions.specs.Need.{is_number_of}
use Rattle.rules.specs.Parts.{Named}
use Rattle.book_tables.specs.Needed.{with_numbers, with_texts}
use Rattle.book_tables.specs.declared.needed.Sought.{Sought}
use Rattle.book_tables.specs.declared.needed.Sought.TheVariants.{Advice, Order, Lots}

or_twice : (a b c : Bool) → a ≡ b → (b || c) ≡ (b || (a || c))
or_twice a true c h = refl
or_twice a false c h = ap (λ (x : Bool). x || c) (sym h)

-- a test that answers alike of what is the same finds as much where what is the same as the one
-- before is left out
found_either : {X : Type 0} (same : X → X → Bool) (p : X → Bool) (k x : X) (xs : List X) → (b : Bool) → (b ≡ true → p x ≡ p k)
    → list_any p (dedup_from same k xs) ≡ (p k || list_any p xs) → list_any p (dedup_from same x xs) ≡ (p x || list_any p xs)
    → list_any p (cond b (dedup_from same k xs) (k ∷ dedup_from same x xs)) ≡ (p k || (p x || list_any p xs))
found_either same p k x xs true alike first second = first ∙ or_twice (p x) (p k) (list_any p xs) (alike refl)
found_either same p k x xs false alike first second = ap (λ (b : Bool). p k || b) second

found_from : {X : Type 0} (same : X → X → Bool) (p : X → Bool) → ((x y : X) → same x y ≡ true → p x ≡ p y) → (k : X) (xs : List X) → list_any p (dedup_from same k xs) ≡ (p k || list_any p xs)
found_from same p alike k [] = refl
found_from same p alike k (x ∷ xs) = found_either same p k x xs (same x k) (alike x k) (found_from same p alike k xs) (found_from same p alike x xs)

found_once : {X : Type 0} (same : X → X → Bool) (p : X → Bool) → ((x y : X) → same x y ≡ true → p x ≡ p y) → (xs : List X) → list_any p (dedup same xs) ≡ list_any p xs
found_once same p alike [] = refl
found_once same p alike (x ∷ xs) = found_from same p alike x xs

-- put in order besides
pub sorted_once : {X : Type 0} (same : X → X → Bool) (p : X → Bool) → ((x y : X) → same x y ≡ true → p x ≡ p y)
    → (xs ys zs : List X) → IsPermutation xs ys → zs ≡ dedup same ys → list_any p zs ≡ list_any p xs
sorted_once same p alike xs ys zs moved is = ap (list_any p) is ∙ found_once same p alike ys ∙ sym (list_any-IsPermutation p xs ys moved)

pub any_mapped : {X Y : Type 0} (f : X → Y) (p : Y → Bool) (xs : List X) → list_any p (map f xs) ≡ list_any (λ x. p (f x)) xs
any_mapped f p [] = refl
any_mapped f p (x ∷ xs) = ap (λ (b : Bool). p (f x) || b) (any_mapped f p xs)

-- the front of the list, and the next
pub mapped_more : {X Y : Type 0} (f : X → Y) (xs : List X) (i : ℕ) (d : X) → i < length xs → map f (take i xs) ++ f (get_or xs i d) ∷ [] ≡ map f (take (i + 1) xs)
mapped_more f xs i d h = sym (ap (map f) (take_more xs i d h) ∙ map-append f (take i xs) (get_or xs i d ∷ []))

pub same_text : (t s u : List ℕ) → bytes_eq s u ≡ true → bytes_eq t s ≡ bytes_eq t u
same_text t s u e = ap (bytes_eq t) ((bytes_eq-Decides s u).0 e)

pub number_any : (ms : List ℕ) (n : ℕ) → is_number_of ms n ≡ list_any (λ m. m == n) ms
number_any [] n = refl
number_any (m ∷ ms) n = ap (λ (b : Bool). (m == n) || b) (number_any ms n)

-- What is named is a matter of which texts and numbers are among those that are sought, not of how
-- often.

pub same_texts : (sought : Sought) (ss us : List (List ℕ)) (n : Named) → ((t : List ℕ) → is_one_of ss t ≡ is_one_of us t) → with_texts sought ss n ≡ with_texts sought us n
same_texts Advice ss us n same = λ i. record n { shipments = λ t. n.shipments t || same t i }
same_texts Order ss us n same = λ i. record n { orders = λ t. n.orders t || same t i }
same_texts Lots ss us n same = λ i. record n { items = λ t. n.items t || same t i }

pub same_numbers : (ms ks : List ℕ) (n : Named) → ((j : ℕ) → is_number_of ms j ≡ is_number_of ks j) → with_numbers ms n ≡ with_numbers ks n
same_numbers ms ks n same = λ i. record n { documents = λ j. n.documents j || same j i }
