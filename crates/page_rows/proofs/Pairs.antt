-- Pairs by item and lot are in a strict order, and what a sheet's lines give them.
use Rattle.std.proofs.Common.{◌≡◌, ℕ, ◌+◌, ◌≤◌, Bool, true, false, ◌&&◌, ◌||◌, cond, List, [], ◌∷◌, ◌⊎◌, refl, ap, sym, ◌∙◌, inl, inr, arith, length}
use Rattle.std.proofs.lemmas.Bool.{cases_Bool, both_ways, or_cases, and_parts, leb-true}
use Rattle.std.proofs.lemmas.List.Sums.{sum_by-cons}
use Rattle.std.proofs.lemmas.Slice.Eq.{bytes_eq-Decides}
use Rattle.std.specs.Prelude.{bytes_eq, count_by, nat_le}
use Rattle.std.specs.List.{list_all}
use Rattle.definitions.specs.Rules.{Today}
use Rattle.definitions.specs.Bytes.{comes_before, is_identifier}
use Rattle.definitions.specs.Limits.{most_recounted, most_lines, most_item, most_lot}
use Rattle.definitions.specs.Means.{Line}
use Rattle.definitions.specs.Events.{is_pair, quantity_of, pair_before}
use Rattle.definitions.specs.Clerk.{is_ascending, is_sheet, is_sheet_line}
use Rattle.definitions.specs.declared.sheet_kind.SheetKind.TheVariants.{Recount as RecountSheet}
use Rattle.page_rows.proofs.Texts.{texts_never, texts_through, texts_total}
use Rattle.page_rows.proofs.OfPairLemmas.{pair_is}
use Rattle.page_rows.proofs.Sums.{share, quantity_as}

-- Pairs.

before_says : (k l : Line) → pair_before k l ≡ true → (comes_before k.item l.item ≡ true) ⊎ ((k.item ≡ l.item) × (comes_before k.lot l.lot ≡ true))
before_says k l h = elim (or_cases (comes_before k.item l.item) (bytes_eq k.item l.item && comes_before k.lot l.lot) h) [
  | inl a ↦ inl a
  | inr b ↦ let p = and_parts (bytes_eq k.item l.item) (comes_before k.lot l.lot) b in inr ((bytes_eq-Decides k.item l.item).0 p.0, p.1)
]

before_item : (k l : Line) → comes_before k.item l.item ≡ true → pair_before k l ≡ true
before_item k l h = rw h refl

pub before_lot : (k l : Line) → k.item ≡ l.item → pair_before k l ≡ comes_before k.lot l.lot
before_lot k l e = rw (ap (comes_before k.item) (sym e) ∙ texts_never k.item, (bytes_eq-Decides k.item l.item).1 e) refl

pub pair_through : (k l m : Line) → pair_before k l ≡ true → pair_before l m ≡ true → pair_before k m ≡ true
pair_through k l m h g = elim (before_says k l h) [
  | inl a ↦ elim (before_says l m g) [
    | inl b ↦ before_item k m (texts_through k.item l.item m.item a b)
    | inr b ↦ before_item k m (ap (comes_before k.item) (sym b.0) ∙ a)
  ]
  | inr a ↦ elim (before_says l m g) [
    | inl b ↦ before_item k m (ap (λ (x : List ℕ). comes_before x m.item) a.0 ∙ b)
    | inr b ↦ before_lot k m (a.0 ∙ b.0) ∙ texts_through k.lot l.lot m.lot a.1 b.1
  ]
]

-- lines of one pair are in no order
pub pair_never : (a b : List ℕ) (k l : Line) → is_pair a b k ≡ true → is_pair a b l ≡ true → pair_before k l ≡ false
pair_never a b k l h g =
    let p = pair_is a b k h in let q = pair_is a b l g in
    before_lot k l (p.0 ∙ sym q.0) ∙ ap (λ (x : List ℕ). comes_before x l.lot) (p.1 ∙ sym q.1) ∙ texts_never l.lot

-- and lines in no order are of one pair
pub pair_total : (k l : Line) → pair_before k l ≡ false → pair_before l k ≡ false → (k.item ≡ l.item) × (k.lot ≡ l.lot)
pair_total k l h g =
    let item : k.item ≡ l.item = texts_total k.item l.item (first (comes_before k.item l.item) _ h) (first (comes_before l.item k.item) _ g) in
    (item, texts_total k.lot l.lot (sym (before_lot k l item) ∙ h) (sym (before_lot l k (sym item)) ∙ g))
  where
    first : (v w : Bool) → (v || w) ≡ false → v ≡ false
    first true w h = h
    first false w h = refl

-- Lines in ascending order.

pub ascending_tail : (k : Line) (ls : List Line) → is_ascending (k ∷ ls) ≡ true → is_ascending ls ≡ true
ascending_tail k [] h = refl
ascending_tail k (l ∷ ls) h = (and_parts (pair_before k l) (is_ascending (l ∷ ls)) h).1

pub ascending_skip : (k l : Line) (ls : List Line) → is_ascending (k ∷ l ∷ ls) ≡ true → is_ascending (k ∷ ls) ≡ true
ascending_skip k l [] h = refl
ascending_skip k l (m ∷ ls) h =
    let p = and_parts (pair_before k l) (is_ascending (l ∷ m ∷ ls)) h in
    let q = and_parts (pair_before l m) (is_ascending (m ∷ ls)) p.1 in
    rw (pair_through k l m p.0 q.0, q.1) refl

pub count_yes : {X : Type 0} (p : X → Bool) (x : X) (xs : List X) → p x ≡ true → count_by p (x ∷ xs) ≡ 1 + count_by p xs
count_yes {X} p x xs e = omega (arith, sum_by-cons (λ (y : X). cond (p y) 1 0) x xs, ap (λ (v : Bool). cond {A = ℕ} v 1 0) e)

pub count_no : {X : Type 0} (p : X → Bool) (x : X) (xs : List X) → p x ≡ false → count_by p (x ∷ xs) ≡ count_by p xs
count_no {X} p x xs e = omega (arith, sum_by-cons (λ (y : X). cond (p y) 1 0) x xs, ap (λ (v : Bool). cond {A = ℕ} v 1 0) e)

none_further : (a b : List ℕ) (k : Line) (ls : List Line) → is_pair a b k ≡ true → is_ascending (k ∷ ls) ≡ true → count_by (is_pair a b) ls ≡ 0
none_further a b k [] e h = refl
none_further a b k (l ∷ ls) e h = elim (cases_Bool (is_pair a b l)) [
  | inl f ↦ absurd (both_ways (pair_before k l) (pair_never a b k l e f) (and_parts (pair_before k l) (is_ascending (l ∷ ls)) h).0)
  | inr f ↦ count_no (is_pair a b) l ls f ∙ none_further a b k ls e (ascending_skip k l ls h)
]

-- they name each pair once
pub ascending_once : (a b : List ℕ) (ls : List Line) → is_ascending ls ≡ true → count_by (is_pair a b) ls ≤ 1
ascending_once a b [] h = omega arith
ascending_once a b (k ∷ ls) h = elim (cases_Bool (is_pair a b k)) [
  | inl e ↦ omega (arith, count_yes (is_pair a b) k ls e, none_further a b k ls e h)
  | inr e ↦ omega (arith, count_no (is_pair a b) k ls e, ascending_once a b ls (ascending_tail k ls h))
]

-- What lines give that name each pair once.

pub quantity_yes : (a b : List ℕ) (k : Line) (ls : List Line) → is_pair a b k ≡ true → quantity_of (k ∷ ls) a b ≡ k.quantity + quantity_of ls a b
quantity_yes a b k ls e = omega (arith, quantity_as (k ∷ ls) a b, quantity_as ls a b, sum_by-cons (share a b) k ls, ap (λ (v : Bool). cond v k.quantity 0) e)

pub quantity_no : (a b : List ℕ) (k : Line) (ls : List Line) → is_pair a b k ≡ false → quantity_of (k ∷ ls) a b ≡ quantity_of ls a b
quantity_no a b k ls e = omega (arith, quantity_as (k ∷ ls) a b, quantity_as ls a b, sum_by-cons (share a b) k ls, ap (λ (v : Bool). cond v k.quantity 0) e)

pub quantity_none : (a b : List ℕ) (ls : List Line) → count_by (is_pair a b) ls ≡ 0 → quantity_of ls a b ≡ 0
quantity_none a b [] h = refl
quantity_none a b (k ∷ ls) h = elim (cases_Bool (is_pair a b k)) [
  | inl e ↦ absurd (omega (arith, count_yes (is_pair a b) k ls e))
  | inr e ↦ quantity_no a b k ls e ∙ quantity_none a b ls (sym (count_no (is_pair a b) k ls e) ∙ h)
]

little_each : (a b : List ℕ) (ls : List Line) → list_all (is_sheet_line Today RecountSheet) ls ≡ true → count_by (is_pair a b) ls ≤ 1 → quantity_of ls a b ≤ most_recounted
little_each a b [] h few = omega arith
little_each a b (k ∷ ls) h few =
    let p = and_parts (is_sheet_line Today RecountSheet k) (list_all (is_sheet_line Today RecountSheet) ls) h in
    let s = and_parts (is_identifier 1 most_item k.item && is_identifier 1 most_lot k.lot && nat_le 0 k.quantity) (nat_le k.quantity most_recounted) p.0 in
    elim (cases_Bool (is_pair a b k)) [
      | inl e ↦
          let none : count_by (is_pair a b) ls ≡ 0 = omega (arith, count_yes (is_pair a b) k ls e) in
          omega (arith, quantity_yes a b k ls e, quantity_none a b ls none, leb-true k.quantity most_recounted s.1)
      | inr e ↦ omega (arith, quantity_no a b k ls e, little_each a b ls p.1 (omega (arith, count_no (is_pair a b) k ls e)))
    ]

-- what is known of a sheet
pub record IsSheet (ls : List Line) : Type 0 where
  pub little : (a b : List ℕ) → quantity_of ls a b ≤ most_recounted
  pub once : (a b : List ℕ) → count_by (is_pair a b) ls ≤ 1

pub sheet_facts : (ls : List Line) → is_sheet Today RecountSheet ls ≡ true → IsSheet ls
sheet_facts ls h =
    let p = and_parts (nat_le (length ls) (most_lines Today) && list_all (is_sheet_line Today RecountSheet) ls) (is_ascending ls) h in
    let q = and_parts (nat_le (length ls) (most_lines Today)) (list_all (is_sheet_line Today RecountSheet) ls) p.0 in
    record {
      little = λ a b. little_each a b ls q.1 (ascending_once a b ls p.1);
      once = λ a b. ascending_once a b ls p.1;
    }
