-- A pick of all that is reserved for an open order is taken.
use Rattle.std.proofs.Common.{◌≡◌, ℕ, ◌+◌, ◌≤◌, Bool, true, false, cond, ◌&&◌, ◌||◌, List, [], ◌∷◌, ◌++◌, filter, flat_map, refl, ap, ◌∙◌, arith, leb-true, le-leb, le-ltb, Some}
use Rattle.std.specs.Prelude.{nat_le, nat_lt, bytes_eq, sum_by}
use Rattle.std.specs.List.{list_all, list_any}
use Rattle.std.specs.Cmp.Derive.{both_true}
use Rattle.std.proofs.lemmas.List.Sums.{sum_by-cons}
use Rattle.definitions.specs.Lists.{placed, in_order}
use Rattle.definitions.specs.Means.{Line, OrderLine}
use Rattle.definitions.specs.Events.{Event, Picked, is_pair, pair_before, quantity_of, Reserved, order_under, is_order_open}
use Rattle.definitions.proofs.TextLaws.{both_parts, same_text}
use Rattle.reports.specs.PickSheets.{IsTaken, reserved_of, reserved_pairs}

-- Lists of which each element passes.

all_filtered : {X : Type 0} (p q : X → Bool) (xs : List X) → list_all p xs ≡ true → list_all p (filter q xs) ≡ true
all_filtered p q [] h = refl
all_filtered p q (x ∷ xs) h =
    let k = both_parts (p x) (list_all p xs) h in by_test (q x) refl k.0 (all_filtered p q xs k.1)
  where
    by_test : (t : Bool) → q x ≡ t → p x ≡ true → list_all p (filter q xs) ≡ true → list_all p (filter q (x ∷ xs)) ≡ true
    by_test true e first rest = rw e (both_true first rest)
    by_test false e first rest = rw e rest

module _ {X : Type 0} (less : X → X → Bool) (p : X → Bool) where
  all_placed : (x : X) (ys : List X) → p x ≡ true → list_all p ys ≡ true → list_all p (placed less x ys) ≡ true
  all_placed x [] h k = both_true h refl
  all_placed x (y ∷ ys) h k =
      let q = both_parts (p y) (list_all p ys) k in by_tests (less x y) (less y x) refl refl q.0 (all_placed x ys h q.1)
    where
      by_tests : (s t : Bool) → less x y ≡ s → less y x ≡ t → p y ≡ true → list_all p (placed less x ys) ≡ true → list_all p (placed less x (y ∷ ys)) ≡ true
      by_tests true t e f first rest = rw e (both_true h k)
      by_tests false true e f first rest = rw (e, f) (both_true first rest)
      by_tests false false e f first rest = rw (e, f) k

  all_in_order : (xs : List X) → list_all p xs ≡ true → list_all p (in_order less xs) ≡ true
  all_in_order [] h = refl
  all_in_order (x ∷ xs) h = let q = both_parts (p x) (list_all p xs) h in all_placed x (in_order less xs) q.0 (all_in_order xs q.1)

all_joined : {X : Type 0} (p : X → Bool) (xs ys : List X) → list_all p xs ≡ true → list_all p ys ≡ true → list_all p (xs ++ ys) ≡ true
all_joined p [] ys h k = k
all_joined p (x ∷ xs) ys h k = let q = both_parts (p x) (list_all p xs) h in both_true q.0 (all_joined p xs ys q.1 k)

all_of_each : {X Y : Type 0} (p : Y → Bool) (f : X → List Y) → ((x : X) → list_all p (f x) ≡ true) → (xs : List X) → list_all p (flat_map f xs) ≡ true
all_of_each p f each [] = refl
all_of_each p f each (x ∷ xs) = all_joined p (f x) (flat_map f xs) (each x) (all_of_each p f each xs)

-- Quantities.

-- a line is no more than lines give its pair
abbrev is_in : List Line → Line → Bool
is_in lines l = nat_le l.quantity (quantity_of lines l.item l.lot)

-- one line more gives its pair more
more : (k : Line) (ls : List Line) (item lot : List ℕ) → is_pair item lot k ≡ true → quantity_of (k ∷ ls) item lot ≡ k.quantity + quantity_of ls item lot
more k ls item lot is =
    ap (λ t. sum_by (λ l. l.quantity) (cond t (k ∷ filter (is_pair item lot) ls) (filter (is_pair item lot) ls))) is
    ∙ sum_by-cons (λ (l : Line). l.quantity) k (filter (is_pair item lot) ls)

grows : (k : Line) (ls : List Line) (item lot : List ℕ) → quantity_of ls item lot ≤ quantity_of (k ∷ ls) item lot
grows k ls item lot = by_test (is_pair item lot k) refl
  where
    by_test : (t : Bool) → is_pair item lot k ≡ t → quantity_of ls item lot ≤ quantity_of (k ∷ ls) item lot
    by_test true e = omega (arith, more k ls item lot e)
    by_test false e =
        let same : quantity_of (k ∷ ls) item lot ≡ quantity_of ls item lot =
        ap (λ t. sum_by (λ l. l.quantity) (cond t (k ∷ filter (is_pair item lot) ls) (filter (is_pair item lot) ls))) e in
        omega (arith, same)

own : (k : Line) (ls : List Line) → k.quantity ≤ quantity_of (k ∷ ls) k.item k.lot
own k ls = omega (arith, more k ls k.item k.lot (both_true (same_text k.item) (same_text k.lot)))

-- each of the lines that are among others is no more than those give its pair
among : (others ls : List Line) → ((item lot : List ℕ) → quantity_of ls item lot ≤ quantity_of others item lot) → list_all (is_in others) ls ≡ true
among others [] h = refl
among others (k ∷ ls) h = both_true
    (le-leb k.quantity (quantity_of others k.item k.lot) (omega (arith, own k ls, h k.item k.lot)))
    (among others ls (λ item lot. omega (arith, grows k ls item lot, h item lot)))

all_reserved : (r : Reserved) → list_all (is_in r.shares) (in_order pair_before (reserved_pairs r)) ≡ true
all_reserved r =
    let shares = among r.shares r.shares (λ item lot. omega arith) in
    let each : (l : OrderLine) → list_all (is_in r.shares) (reserved_of r.shares l) ≡ true =
    λ l. all_in_order pair_before (is_in r.shares) (filter (λ k. bytes_eq k.item l.item && nat_lt 0 k.quantity) r.shares)
    (all_filtered (is_in r.shares) (λ k. bytes_eq k.item l.item && nat_lt 0 k.quantity) r.shares shares) in
    all_in_order pair_before (is_in r.shares) (reserved_pairs r) (all_of_each (is_in r.shares) (reserved_of r.shares) each r.order.lines)

none_exceeds : (lines ls : List Line) → list_all (is_in lines) ls ≡ true → list_any (λ l. nat_lt (quantity_of lines l.item l.lot) l.quantity) ls ≡ false
none_exceeds lines [] h = refl
none_exceeds lines (l ∷ ls) h =
    let q = both_parts (is_in lines l) (list_all (is_in lines) ls) h in
    let most = le-ltb (quantity_of lines l.item l.lot) l.quantity (leb-true l.quantity (quantity_of lines l.item l.lot) q.0) in
    λ i. most i || none_exceeds lines ls q.1 i

-- Picks.

pub pick_taken : (es : List Event) (number : List ℕ) (r : Reserved) → order_under number es ≡ Some r → is_order_open number es ≡ true → IsTaken es number (in_order pair_before (reserved_pairs r))
pick_taken es number r there is_open = λ n.
    let sheet = in_order pair_before (reserved_pairs r) in
    let none = none_exceeds r.shares sheet (all_reserved r) in
    (Picked n r.order r.shares sheet, rw (there, is_open, none) refl)
