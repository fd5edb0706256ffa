-- What the page gives a line is what the events give it.
use Rattle.std.proofs.Common.{◌≡◌, ℕ, List, [], ◌∷◌, ◌++◌, map, refl, ap, ◌∙◌, arith}
use Rattle.std.specs.Prelude.{zip, filter, flat_map}
use Rattle.definitions.specs.Means.{Line, OrderLine, Order}
use Rattle.definitions.specs.Lists.{in_order}
use Rattle.definitions.specs.Events.{Event}
use Rattle.definitions.specs.Movements.{Column, OnHand, Reservation, balance, free}
use Rattle.definitions.specs.declared.rules.Rules.{Rules}
use Rattle.definitions.specs.Allotment.{Ranked, ranks_before, allot, lots_of, lots_for, may_have, line_shares, order_shares}
use Rattle.page_rows.specs.OfPairs.{of_pair, amount, IsDistinct}
use Rattle.page_rows.specs.Pages.{PageFacts}
use Rattle.stock.specs.Shows.{Shows}
use Rattle.page_rows.specs.Lots.{ranks_of, free_in, shares_in, all_shares_in}
use Rattle.stock.proofs.ShownLots.{lots_shown}
use Rattle.page_rows.proofs.Shares.{map_same}

balance_shown : (p : PageFacts) (es : List Event) → Shows p es → (c : Column) (i l : List ℕ) → of_pair (amount c) i l p.rows ≡ balance es c i l
balance_shown p es shows c i l = omega (arith, shows.amounts c i l)

free_shown : (p : PageFacts) (es : List Event) → Shows p es → (i l : List ℕ) → free_in p.rows i l ≡ free es i l
free_shown p es shows i l = omega (arith, balance_shown p es shows OnHand i l, balance_shown p es shows Reservation i l)

lots_of_shown : (r : Rules) (p : PageFacts) (es : List Event) (item : List ℕ) → Shows p es → IsDistinct p.rows → map (λ k. k.lot) (in_order (ranks_before r) (ranks_of item p.rows)) ≡ lots_of r es item
lots_of_shown r p es item shows distinct = ap (map (λ (k : Ranked). k.lot)) (lots_shown r p es item shows distinct)

pub shares_shown : (r : Rules) (p : PageFacts) (es : List Event) (l : OrderLine) → Shows p es → IsDistinct p.rows → shares_in r p.rows l ≡ line_shares r es l
shares_shown r p es l shows distinct =
    ap (λ (lots : List (List ℕ)). made (filter (may_have l.pin) lots) (map (free_in p.rows l.item) (filter (may_have l.pin) lots))) (lots_of_shown r p es l.item shows distinct)
    ∙ ap (made (lots_for r es l)) (map_same (free_in p.rows l.item) (free es l.item) (lots_for r es l) (free_shown p es shows l.item))
  where
    made : List (List ℕ) → List ℕ → List Line
    made lots frees = map (λ q. record { item = l.item; lot = q.0; quantity = q.1 }) (zip lots (allot frees l.quantity))

flat_map_same : {X Y : Type 0} (f g : X → List Y) (xs : List X) → ((x : X) → f x ≡ g x) → flat_map f xs ≡ flat_map g xs
flat_map_same f g [] h = refl
flat_map_same {X} {Y} f g (x ∷ xs) h = ap (λ (ys : List Y). ys ++ flat_map f xs) (h x) ∙ ap (λ (ys : List Y). g x ++ ys) (flat_map_same f g xs h)

pub all_shares_shown : (r : Rules) (p : PageFacts) (es : List Event) (o : Order) → Shows p es → IsDistinct p.rows → all_shares_in r p.rows o.lines ≡ order_shares r es o
all_shares_shown r p es o shows distinct = flat_map_same (shares_in r p.rows) (line_shares r es) o.lines (λ l. shares_shown r p es l shows distinct)
