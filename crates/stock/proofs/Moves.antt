-- What came and went by movements.
use Rattle.std.proofs.Common.{◌≡◌, ℕ, ◌+◌, ◌*◌, ◌<◌, ◌≤◌, Bool, true, false, ◌&&◌, cond, List, [], ◌∷◌, ◌++◌, map, length, get_or, take, refl, ap, sym, ◌∙◌, arith, inl, inr}
use Rattle.std.proofs.lemmas.Bool.{cases_Bool}
use Rattle.std.proofs.lemmas.List.{append-nil}
use Rattle.std.proofs.lemmas.List.Sums.{sum_by-cons, sum_by-append, sum_by-le, sum_by_more_le, sum_by-le-sum_by}
use Rattle.std.proofs.lemmas.List.Elements.{filter-append}
use Rattle.std.proofs.lemmas.Grind.{flat_map-append}
use Rattle.std.specs.Prelude.{sum_by, filter, flat_map, bytes_eq}
use Rattle.definitions.specs.Rules.{Today}
use Rattle.definitions.specs.Means.{Line, AdviceLine, Advice, advised, OrderLine}
use Rattle.definitions.specs.Limits.{most_lines, most_quantity}
use Rattle.definitions.specs.Events.{Event, is_pair, quantity_of}
use Rattle.definitions.specs.Movements.{Column, column_eq, Movement, comes, goes, moves, came_to, went_from}
use Rattle.page_rows.specs.OfPairs.{given}
use Rattle.sets_in.specs.Limits.{HasFewLines, HasFewOrderLines}
use Rattle.page_rows.proofs.Sums.{share, quantity_as}

pub sum_by-filter : {X : Type 0} (f : X → ℕ) (p : X → Bool) (xs : List X) → sum_by f (filter p xs) ≡ sum_by (λ x. cond (p x) (f x) 0) xs
sum_by-filter f p [] = refl
sum_by-filter f p (x ∷ xs) = elim (cases_Bool (p x)) [
  | inl e ↦ omega (
    arith,
    sum_by-cons (λ x. cond (p x) (f x) 0) x xs,
    sum_by-filter f p xs,
    ap (λ (v : Bool). cond v (f x) 0) e,
    ap (λ (v : Bool). sum_by f (cond v (x ∷ filter p xs) (filter p xs))) e,
    sum_by-cons f x (filter p xs),
  )
  | inr e ↦ omega (
    arith,
    sum_by-cons (λ x. cond (p x) (f x) 0) x xs,
    sum_by-filter f p xs,
    ap (λ (v : Bool). cond v (f x) 0) e,
    ap (λ (v : Bool). sum_by f (cond v (x ∷ filter p xs) (filter p xs))) e,
  )
]

pub sum_by-map : {X Y : Type 0} (f : Y → ℕ) (g : X → Y) (xs : List X) → sum_by f (map g xs) ≡ sum_by (λ x. f (g x)) xs
sum_by-map f g [] = refl
sum_by-map f g (x ∷ xs) = omega (arith, sum_by-cons f (g x) (map g xs), sum_by-cons (λ x. f (g x)) x xs, sum_by-map f g xs)

pub sum_by-none : {X : Type 0} (xs : List X) → sum_by (λ (x : X). 0) xs ≡ 0
sum_by-none [] = refl
sum_by-none {X} (x ∷ xs) = omega (arith, sum_by-cons (λ (x : X). 0) x xs, sum_by-none xs)

abbrev pub is_on : Column → List ℕ → List ℕ → Movement → Bool
is_on c a b m = column_eq m.column c && bytes_eq m.item a && bytes_eq m.lot b

abbrev pub came_of : List Movement → Column → List ℕ → List ℕ → ℕ
came_of ms c a b = sum_by (λ m. m.came) (filter (is_on c a b) ms)

abbrev pub went_of : List Movement → Column → List ℕ → List ℕ → ℕ
went_of ms c a b = sum_by (λ m. m.went) (filter (is_on c a b) ms)

pub came_append : (xs ys : List Movement) (c : Column) (a b : List ℕ) → came_of (xs ++ ys) c a b ≡ came_of xs c a b + came_of ys c a b
came_append xs ys c a b = ap (sum_by (λ (m : Movement). m.came)) (filter-append (is_on c a b) xs ys) ∙ sum_by-append (λ (m : Movement). m.came) (filter (is_on c a b) xs) (filter (is_on c a b) ys)

pub went_append : (xs ys : List Movement) (c : Column) (a b : List ℕ) → went_of (xs ++ ys) c a b ≡ went_of xs c a b + went_of ys c a b
went_append xs ys c a b = ap (sum_by (λ (m : Movement). m.went)) (filter-append (is_on c a b) xs ys) ∙ sum_by-append (λ (m : Movement). m.went) (filter (is_on c a b) xs) (filter (is_on c a b) ys)

-- one event more
pub came_push : (es : List Event) (e : Event) (c : Column) (a b : List ℕ) → came_to (es ++ e ∷ []) c a b ≡ came_to es c a b + came_of (moves e) c a b
came_push es e c a b = ap (λ (ms : List Movement). came_of ms c a b) (flat_map-append moves es (e ∷ [])) ∙ came_append (flat_map moves es) (flat_map moves (e ∷ [])) c a b
    ∙ ap (λ (ms : List Movement). came_to es c a b + came_of ms c a b) (append-nil (moves e))

pub went_push : (es : List Event) (e : Event) (c : Column) (a b : List ℕ) → went_from (es ++ e ∷ []) c a b ≡ went_from es c a b + went_of (moves e) c a b
went_push es e c a b = ap (λ (ms : List Movement). went_of ms c a b) (flat_map-append moves es (e ∷ [])) ∙ went_append (flat_map moves es) (flat_map moves (e ∷ [])) c a b
    ∙ ap (λ (ms : List Movement). went_from es c a b + went_of ms c a b) (append-nil (moves e))

-- what is given in a column
given_as : (k : Column) (lines : List Line) (c : Column) (a b : List ℕ)
    → sum_by (λ (l : Line). cond (column_eq k c && bytes_eq l.item a && bytes_eq l.lot b) l.quantity 0) lines ≡ given k lines c a b
given_as k lines c a b = elim (column_eq k c) as (λ v. sum_by (λ (l : Line). cond (v && bytes_eq l.item a && bytes_eq l.lot b) l.quantity 0) lines ≡ cond v (quantity_of lines a b) 0)
    [ true ↦ sym (quantity_as lines a b) | false ↦ sum_by-none lines ]

zero_as : {X : Type 0} (p : X → Bool) (xs : List X) → sum_by (λ x. cond (p x) 0 0) xs ≡ 0
zero_as p [] = refl
zero_as p (x ∷ xs) = omega (arith, sum_by-cons (λ x. cond (p x) 0 0) x xs, zero_as p xs, both (p x))
  where
    both : (v : Bool) → cond {A = ℕ} v 0 0 ≡ 0
    both true = refl
    both false = refl

pub came_comes : (k : Column) (lines : List Line) (c : Column) (a b : List ℕ) → came_of (map (comes k) lines) c a b ≡ given k lines c a b
came_comes k lines c a b = sum_by-filter (λ m. m.came) (is_on c a b) (map (comes k) lines) ∙ sum_by-map (λ m. cond (is_on c a b m) m.came 0) (comes k) lines ∙ given_as k lines c a b

pub went_comes : (k : Column) (lines : List Line) (c : Column) (a b : List ℕ) → went_of (map (comes k) lines) c a b ≡ 0
went_comes k lines c a b = sum_by-filter (λ m. m.went) (is_on c a b) (map (comes k) lines) ∙ sum_by-map (λ m. cond (is_on c a b m) m.went 0) (comes k) lines ∙ zero_as (λ l. is_on c a b (comes k l)) lines

pub came_goes : (k : Column) (lines : List Line) (c : Column) (a b : List ℕ) → came_of (map (goes k) lines) c a b ≡ 0
came_goes k lines c a b = sum_by-filter (λ m. m.came) (is_on c a b) (map (goes k) lines) ∙ sum_by-map (λ m. cond (is_on c a b m) m.came 0) (goes k) lines ∙ zero_as (λ l. is_on c a b (goes k l)) lines

pub went_goes : (k : Column) (lines : List Line) (c : Column) (a b : List ℕ) → went_of (map (goes k) lines) c a b ≡ given k lines c a b
went_goes k lines c a b = sum_by-filter (λ m. m.went) (is_on c a b) (map (goes k) lines) ∙ sum_by-map (λ m. cond (is_on c a b m) m.went 0) (goes k) lines ∙ given_as k lines c a b

-- Bounds.

pub quantity_le : (lines : List Line) (a b : List ℕ) → quantity_of lines a b ≤ sum_by (λ l. l.quantity) lines
quantity_le lines a b = omega (arith, quantity_as lines a b, sum_by-le-sum_by (share a b) (λ (l : Line). l.quantity) lines (λ l. at_most (is_pair a b l) l.quantity))
  where
    at_most : (v : Bool) (n : ℕ) → cond v n 0 ≤ n
    at_most true n = omega arith
    at_most false n = omega arith

pub given_le : (k : Column) (lines : List Line) (c : Column) (a b : List ℕ) → given k lines c a b ≤ sum_by (λ l. l.quantity) lines
given_le k lines c a b = elim (cases_Bool (column_eq k c)) [ inl e ↦ rw e (quantity_le lines a b) | inr e ↦ rw e (omega arith) ]

-- an advice brings little
pub advised_le : (a : Advice) → HasFewLines a.lines → sum_by (λ l. l.quantity) (advised a) ≤ most_lines Today * (most_quantity Today)
advised_le a few = omega (arith, sum_by-map (λ (l : Line). l.quantity) (λ (l : AdviceLine). l.line) a.lines, sum_by-le (λ (l : AdviceLine). l.line.quantity) (most_quantity Today) a.lines few.small, few.few)

pub total_fits : (lines : List AdviceLine) (i : ℕ) (l : AdviceLine) → HasFewLines lines → i < length lines → l ≡ get_or lines i l
    → sum_by (λ x. x.line.quantity) (take i lines) + l.line.quantity ≤ most_lines Today * (most_quantity Today)
total_fits lines i l few within is = omega (
  arith,
  sum_by_more_le (λ (x : AdviceLine). x.line.quantity) lines i l within,
  ap (λ (x : AdviceLine). x.line.quantity) is,
  sum_by-le (λ (l : AdviceLine). l.line.quantity) (most_quantity Today) lines few.small,
  few.few,
)

pub order_fits : (lines : List OrderLine) (i : ℕ) (l : OrderLine) → HasFewOrderLines lines → i < length lines → l ≡ get_or lines i l
    → sum_by (λ x. x.quantity) (take i lines) + l.quantity ≤ most_lines Today * (most_quantity Today)
order_fits lines i l few within is = omega (
  arith,
  sum_by_more_le (λ (x : OrderLine). x.quantity) lines i l within,
  ap (λ (x : OrderLine). x.quantity) is,
  sum_by-le (λ (l : OrderLine). l.quantity) (most_quantity Today) lines few.small,
  few.few,
)
