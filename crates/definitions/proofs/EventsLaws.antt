-- What one event more changes: searches and sums over the events before it go on from what they
-- were.
use Rattle.std.proofs.Common.{◌≡◌, ℕ, ◌+◌, Bool, List, [], ◌∷◌, ◌++◌, refl, sym, ◌∙◌, ap, Some, None, Option}
use Rattle.std.specs.Prelude.{flat_map, filter, sum_by, ◌&&◌, bytes_eq}
use Rattle.std.proofs.lemmas.List.Sums.{sum_by-append}
use Rattle.std.proofs.lemmas.List.Elements.{filter-append}
use Rattle.std.proofs.lemmas.Grind.{flat_map-append}
use Rattle.definitions.specs.Lists.{or_else, first_found}
use Rattle.definitions.specs.Events.{Event, date_naming, expiry}
use Rattle.definitions.specs.Movements.{Column, Movement, column_eq, moves, moves_on, came_to}

or_else_assoc : {X : Type 0} (a b c : Option X) → or_else (or_else a b) c ≡ or_else a (or_else b c)
or_else_assoc (Some x) b c = refl
or_else_assoc None b c = refl

-- what is found first in two lists in a row
pub first_found-append : {X Y : Type 0} (f : X → Option Y) (xs ys : List X) → first_found f (xs ++ ys) ≡ or_else (first_found f xs) (first_found f ys)
first_found-append f [] ys = refl
first_found-append f (x ∷ xs) ys = ap (or_else (f x)) (first_found-append f xs ys) ∙ sym (or_else_assoc (f x) (first_found f xs) (first_found f ys))

-- the movements on a pair of two lists of events in a row
pub moves_on-append : (es fs : List Event) (c : Column) (item lot : List ℕ)
    → moves_on (es ++ fs) c item lot ≡ moves_on es c item lot ++ moves_on fs c item lot
moves_on-append es fs c item lot =
    let p : Movement → Bool = λ m. column_eq m.column c && bytes_eq m.item item && bytes_eq m.lot lot in
    ap (filter p) (flat_map-append moves es fs) ∙ filter-append p (flat_map moves es) (flat_map moves fs)

-- what came and what went of two lists of events in a row is what came and went of each
pub came_to-append : (es fs : List Event) (c : Column) (item lot : List ℕ)
    → came_to (es ++ fs) c item lot ≡ came_to es c item lot + came_to fs c item lot
came_to-append es fs c item lot =
    ap (sum_by (λ (m : Movement). m.came)) (moves_on-append es fs c item lot)
    ∙ sum_by-append (λ (m : Movement). m.came) (moves_on es c item lot) (moves_on fs c item lot)

-- the date that a pair was given first stays
pub expiry-append : (es fs : List Event) (item lot : List ℕ) → expiry (es ++ fs) item lot ≡ or_else (expiry es item lot) (expiry fs item lot)
expiry-append es fs item lot = first_found-append (date_naming item lot) es fs
