-- The layouts' own bodies are those of what is handed over.
use Rattle.std.proofs.Common.{◌≡◌, ℕ, ◌+◌, ◌-◌, Bool, true, false, not, List, [], ◌∷◌, ◌++◌, map, refl, sym, ◌∙◌, ap}
use Rattle.std.specs.Prelude.{◌==◌, if◌then◌else◌, codes, decimal, filter, flat_map}
use Rattle.std.specs.List.{enumerate_from}
use Rattle.std.proofs.lemmas.List.Folds.{flat_map-map}
use Rattle.std.proofs.lemmas.Simd.{map-map}
use Rattle.definitions.specs.Cut.{Segment}
use Rattle.definitions.specs.Lists.{in_order}
use Rattle.definitions.specs.Moments.{Moment, date8}
use Rattle.definitions.specs.Means.{Line, Advice, advised, OrderLine, Order}
use Rattle.definitions.specs.Events.{pair_before, quantity_of}
use Rattle.definitions.specs.Texts.{body_944, body_945, body_947, line_945, total_of, goods}
use Rattle.sets_out.specs.Documents.{PickedLot, shipped_lot, shipped_line, received_line, changed_line, adjusted_line, receipt_body, receipt_for, shipment_body, shipment_for, shipped_for, lots_for, adjustment_body, adjusted_for}

pub body_944-for : (t : Moment) (n : ℕ) (a : Advice) (sheet : List Line) → body_944 t n a sheet ≡ receipt_body t n (receipt_for a sheet)
body_944-for t n a sheet =
    let counted : Line → Line = λ l. record { item = l.item; lot = l.lot; quantity = quantity_of sheet l.item l.lot } in
    let body : List Segment → List Segment = λ ls. (codes "W17" ∷ codes "F" ∷ date8 t ∷ decimal n ∷ a.order ∷ a.shipment ∷ []) ∷ (ls
    ++ (codes "W14" ∷ decimal (total_of sheet) ∷ decimal (total_of (advised a)) ∷ []) ∷ []) in
    ap body (sym (flat_map-map received_line counted (in_order pair_before (advised a ++ sheet))))

line_945-for : (sheet : List Line) (place : ℕ) (l : OrderLine) → line_945 sheet place l ≡ shipped_line place (shipped_for sheet l)
line_945-for sheet place l =
    let picked : Line → PickedLot = λ k. record { lot = k.lot; quantity = k.quantity } in
    let s = shipped_for sheet l in
    let line : List Segment → List Segment = λ ls. (codes "LX" ∷ decimal place ∷ []) ∷ (codes "W12" ∷ (if s.shipped == s.ordered then codes "CC" else codes "CP") ∷ decimal s.ordered ∷ decimal s.shipped
    ∷ decimal (s.ordered - s.shipped) ∷ goods s.item) ∷ ls in
    ap line (sym (map-map shipped_lot picked (lots_for sheet l)))

lines_945-for : (sheet : List Line) (place : ℕ) (ls : List OrderLine)
    → flat_map (λ p. line_945 sheet p.0 p.1) (enumerate_from place ls) ≡ flat_map (λ p. shipped_line p.0 p.1) (enumerate_from place (map (shipped_for sheet) ls))
lines_945-for sheet place [] = refl
lines_945-for sheet place (l ∷ ls) =
    ap (λ (x : List Segment). x ++ flat_map (λ p. line_945 sheet p.0 p.1) (enumerate_from (place + 1) ls)) (line_945-for sheet place l)
    ∙ ap (λ (x : List Segment). shipped_line place (shipped_for sheet l) ++ x) (lines_945-for sheet (place + 1) ls)

pub body_945-for : (t : Moment) (n : ℕ) (o : Order) (sheet : List Line) → body_945 t n o sheet ≡ shipment_body t n (shipment_for o sheet)
body_945-for t n o sheet =
    let body : List Segment → List Segment = λ ls. (codes "W06" ∷ codes "F" ∷ o.number ∷ date8 t ∷ decimal n ∷ []) ∷ (ls ++ (codes "W03" ∷ decimal (total_of sheet) ∷ []) ∷ []) in
    ap body (lines_945-for sheet 1 o.lines)

lines_947-for : (before : List Line) (ls : List Line)
    → flat_map (λ (l : Line). adjusted_line (adjusted_for before l)) (filter (λ (l : Line). not (l.quantity == quantity_of before l.item l.lot)) ls)
    ≡ flat_map changed_line (map (adjusted_for before) ls)
lines_947-for before [] = refl
lines_947-for before (l ∷ ls) = by_test (l.quantity == quantity_of before l.item l.lot) refl (lines_947-for before ls)
  where
    told : Line → List Segment
    told k = adjusted_line (adjusted_for before k)

    differs : Line → Bool
    differs k = not (k.quantity == quantity_of before k.item k.lot)

    by_test : (same : Bool) → (l.quantity == quantity_of before l.item l.lot) ≡ same
        → flat_map told (filter differs ls) ≡ flat_map changed_line (map (adjusted_for before) ls)
        → flat_map told (filter differs (l ∷ ls)) ≡ flat_map changed_line (map (adjusted_for before) (l ∷ ls))
    by_test true e ih = rw (e) ih
    by_test false e ih = rw (e, ih) refl

pub body_947-for : (t : Moment) (n : ℕ) (before sheet : List Line) → body_947 t n before sheet ≡ adjustment_body t n (map (adjusted_for before) sheet)
body_947-for t n before sheet =
    let body : List Segment → List Segment = λ ls. (codes "W15" ∷ date8 t ∷ decimal n ∷ []) ∷ ls in
    ap body (lines_947-for before sheet)
