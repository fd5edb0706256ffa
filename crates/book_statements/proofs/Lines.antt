-- The lines of advices and orders, and what is reserved, as changes.
use Rattle.std.proofs.Common.{◌≡◌, ℕ, List, [], ◌∷◌, map, codes, refl, ap}
use Rattle.std.specs.List.{enumerate_from}
use Rattle.definitions.specs.Means.{Line}
use Rattle.definitions.specs.Page.{PageAdvice, PageLine, PageOrder}
use Rattle.definitions.specs.Tables.{Text, Number, text_or_null, advice_line_cells, order_line_cells, reservation_cells}
use Rattle.definitions.specs.Changes.{Change, Puts}
use Rattle.book_statements.specs.Leading.{puts_of}

map_twice : {X Y Z : Type 0} (f : Y → Z) (g : X → Y) (xs : List X) → map f (map g xs) ≡ map (λ x. f (g x)) xs
map_twice f g [] = refl
map_twice f g (x ∷ xs) = ap (λ ys. f (g x) ∷ ys) (map_twice f g xs)

abbrev pub advice_line_change : List ℕ → List ℕ → ℕ × Line → Change
advice_line_change who shipment p = Puts (codes "advice_line") (Text who ∷ Text shipment ∷ Number p.0 ∷ Text p.1.item ∷ Text p.1.lot ∷ Number p.1.quantity ∷ [])

pub advice_lines_are : (who : List ℕ) (a : PageAdvice) → puts_of (codes "advice_line") who (advice_line_cells a) ≡ map (advice_line_change who a.shipment) (enumerate_from 1 a.lines)
advice_lines_are who a = map_twice _ _ (enumerate_from 1 a.lines)

abbrev pub order_line_change : List ℕ → List ℕ → ℕ × PageLine → Change
order_line_change who order p = Puts (codes "order_line") (Text who ∷ Text order ∷ Number p.0 ∷ Text p.1.item ∷ text_or_null p.1.pin ∷ Number p.1.quantity ∷ [])

pub order_lines_are : (who : List ℕ) (o : PageOrder) → puts_of (codes "order_line") who (order_line_cells o) ≡ map (order_line_change who o.number) (enumerate_from 1 o.lines)
order_lines_are who o = map_twice _ _ (enumerate_from 1 o.lines)

abbrev pub reservation_change : List ℕ → List ℕ → Line → Change
reservation_change who order l = Puts (codes "reservation") (Text who ∷ Text order ∷ Text l.item ∷ Text l.lot ∷ Number l.quantity ∷ [])

pub reservations_are : (who : List ℕ) (o : PageOrder) → puts_of (codes "reservation") who (reservation_cells o) ≡ map (reservation_change who o.number) o.reserved
reservations_are who o = map_twice _ _ o.reserved
