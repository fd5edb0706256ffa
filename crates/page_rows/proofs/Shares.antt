-- What rows give a line, lot by lot.
use Rattle.std.proofs.Common.{◌≡◌, Bool, true, false, cond, ℕ, ◌+◌, ◌-◌, ◌<◌, List, [], ◌∷◌, ◌++◌, map, length, get_or, drop, refl, ap, sym, ◌∙◌, arith, add-one, append_assoc, Option, min}
use Rattle.std.proofs.Math.Seq.{drop-cons}
use Rattle.std.specs.Prelude.{zip, filter}
use Rattle.definitions.specs.Means.{Line}
use Rattle.definitions.specs.Rows.{LotRow}
use Rattle.definitions.specs.Allotment.{Ranked, allot, shares_after, may_have}
use Rattle.page_rows.specs.Lots.{free_in, shares_left}

pub map_same : {X Y : Type 0} (f g : X → Y) (xs : List X) → ((x : X) → f x ≡ g x) → map f xs ≡ map g xs
map_same f g [] h = refl
map_same {X} {Y} f g (x ∷ xs) h = ap (λ (y : Y). y ∷ map f xs) (h x) ∙ ap (λ (ys : List Y). g x ∷ ys) (map_same f g xs h)

-- what was handed out before counts for less wanted
allot_less : (e : ℕ) (fs : List ℕ) (w : ℕ) → shares_after e fs w ≡ allot fs (w - e)
allot_less e [] w = refl
allot_less e (f ∷ fs) w =
    ap (λ (n : ℕ). min f n ∷ shares_after (e + f) fs w) (omega arith)
    ∙ ap (λ (xs : List ℕ). min f (w - e - 0) ∷ xs) (allot_less (e + f) fs w ∙ ap (allot fs) (omega arith) ∙ sym (allot_less (0 + f) fs (w - e)))

pub allot_step : (f : ℕ) (fs : List ℕ) (w : ℕ) → allot (f ∷ fs) w ≡ min f w ∷ allot fs (w - min w f)
allot_step f fs w = ap (λ (n : ℕ). min f n ∷ shares_after (0 + f) fs w) (omega arith)
    ∙ ap (λ (xs : List ℕ). min f w ∷ xs) (allot_less (0 + f) fs w ∙ ap (allot fs) (omega arith))

pub shares_step : (rows : List LotRow) (item : List ℕ) (pin : Option (List ℕ)) (x : List ℕ) (xs : List (List ℕ)) (left : ℕ) → may_have pin x ≡ true
    → shares_left rows item pin (x ∷ xs) left ≡ record { item = item; lot = x; quantity = min left (free_in rows item x) } ∷ shares_left rows item pin xs (left - min left (free_in rows item x))
shares_step rows item pin x xs left h =
    ap (λ (v : Bool). made (cond v (x ∷ filter (may_have pin) xs) (filter (may_have pin) xs))) h
    ∙ ap (λ (fs : List ℕ). map line (zip (x ∷ filter (may_have pin) xs) fs)) (allot_step (free_in rows item x) (map (free_in rows item) (filter (may_have pin) xs)) left)
    ∙ ap (λ (n : ℕ). line (x, n) ∷ shares_left rows item pin xs (left - min left (free_in rows item x))) (omega arith)
  where
    line : List ℕ × ℕ → Line
    line p = record { item = item; lot = p.0; quantity = p.1 }

    made : List (List ℕ) → List Line
    made mine = map line (zip mine (allot (map (free_in rows item) mine) left))

pub shares_skip : (rows : List LotRow) (item : List ℕ) (pin : Option (List ℕ)) (x : List ℕ) (xs : List (List ℕ)) (left : ℕ) → may_have pin x ≡ false
    → shares_left rows item pin (x ∷ xs) left ≡ shares_left rows item pin xs left
shares_skip rows item pin x xs left h = ap (λ (v : Bool). made (cond v (x ∷ filter (may_have pin) xs) (filter (may_have pin) xs))) h
  where
    made : List (List ℕ) → List Line
    made mine = map (λ p. record { item = item; lot = p.0; quantity = p.1 }) (zip mine (allot (map (free_in rows item) mine) left))

rest_is : (lots : List Ranked) (i : ℕ) (r : Ranked) → i < length lots → r ≡ get_or lots i r
    → map (λ (x : Ranked). x.lot) (drop i lots) ≡ r.lot ∷ map (λ (x : Ranked). x.lot) (drop (i + 1) lots)
rest_is lots i r within is = ap (map (λ (x : Ranked). x.lot)) (drop-cons lots i r within ∙ ap (λ (n : ℕ). get_or lots i r ∷ drop n lots) (sym (add-one i)))
    ∙ ap (λ (x : Ranked). x.lot ∷ map (λ (x : Ranked). x.lot) (drop (i + 1) lots)) (sym is)

pub shares_more : (rows : List LotRow) (item : List ℕ) (pin : Option (List ℕ)) (lots : List Ranked) (i : ℕ) (r : Ranked) (left : ℕ) (whole sofar : List Line)
    → i < length lots → r ≡ get_or lots i r → whole ≡ sofar ++ shares_left rows item pin (map (λ r. r.lot) (drop i lots)) left → may_have pin r.lot ≡ true
    → whole ≡ (sofar ++ record { item = item; lot = r.lot; quantity = min left (free_in rows item r.lot) } ∷ [])
    ++ shares_left rows item pin (map (λ r. r.lot) (drop (i + 1) lots)) (left - min left (free_in rows item r.lot))
shares_more rows item pin lots i r left whole sofar within is inv h =
    let xs = map (λ (x : Ranked). x.lot) (drop (i + 1) lots) in
    inv ∙ ap (λ (ls : List (List ℕ)). sofar ++ shares_left rows item pin ls left) (rest_is lots i r within is)
    ∙ ap (λ (ls : List Line). sofar ++ ls) (shares_step rows item pin r.lot xs left h)
    ∙ sym (append_assoc sofar (record { item = item; lot = r.lot; quantity = min left (free_in rows item r.lot) } ∷ []) (shares_left rows item pin xs (left - min left (free_in rows item r.lot))))

pub shares_none : (rows : List LotRow) (item : List ℕ) (pin : Option (List ℕ)) (lots : List Ranked) (i : ℕ) (r : Ranked) (left : ℕ) (whole sofar : List Line)
    → i < length lots → r ≡ get_or lots i r → whole ≡ sofar ++ shares_left rows item pin (map (λ r. r.lot) (drop i lots)) left → may_have pin r.lot ≡ false
    → whole ≡ sofar ++ shares_left rows item pin (map (λ r. r.lot) (drop (i + 1) lots)) left
shares_none rows item pin lots i r left whole sofar within is inv h =
    inv ∙ ap (λ (ls : List (List ℕ)). sofar ++ shares_left rows item pin ls left) (rest_is lots i r within is)
    ∙ ap (λ (ls : List Line). sofar ++ ls) (shares_skip rows item pin r.lot (map (λ (x : Ranked). x.lot) (drop (i + 1) lots)) left h)
