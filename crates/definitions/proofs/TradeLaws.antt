-- A trade fault is the one at the least position: the candidates stand in the order of their
-- positions.
use Rattle.std.proofs.Common.{◌≡◌, ℕ, ◌+◌, ◌≤◌, Bool, true, false, not, cond, ◌&&◌, List, [], ◌∷◌, ◌++◌, refl, sym, ap, ◌∙◌, subst, arith, leb-true, leb-false, is_some, Option, Some, None, option_map, unwrap_or, codes, sum_by}
use Rattle.std.specs.Prelude.{nat_le, ◌==◌, find}
use Rattle.std.specs.List.{list_any, list_all}
use Rattle.definitions.specs.Lists.{first_present}
use Rattle.definitions.specs.Faults.{SetFault}
use Rattle.definitions.specs.Means.{AdviceLine, Advice, OrderLine, Order, advised}
use Rattle.definitions.specs.Events.{Event, trade_fault, fault_where, repeated, repeated_pair, repeated_item, same_advice_pair, same_order_item, wrong_advice_total, wrong_order_total, advice_under, order_under, advice_fault, order_fault, expiry, is_redated, redated_pair, sooner}
use Rattle.definitions.proofs.TextLaws.{both_parts}

-- what is found repeated is one of the list
repeated_is : {X : Type 0} (same : X → X → Bool) (p : X → Bool) (before xs : List X) (x : X) → list_all p xs ≡ true → repeated same before xs ≡ Some x → p x ≡ true
repeated_is same p before [] x h e = absurd (cc)
repeated_is same p before (y ∷ ys) x h e =
    let q = both_parts (p y) (list_all p ys) h in by_test (list_any (same y) before) q.0 (repeated_is same p (before ++ y ∷ []) ys x q.1) e
  where
    by_test : (b : Bool) → p y ≡ true → (repeated same (before ++ y ∷ []) ys ≡ Some x → p x ≡ true)
        → cond b (Some y) (repeated same (before ++ y ∷ []) ys) ≡ Some x → p x ≡ true
    by_test true k ih f = ap p (sym (ap (λ o. unwrap_or o y) f)) ∙ k
    by_test false k ih f = ih f

-- the positions of a faultless 943: each line stands after the W06 and before the W03
abbrev pub is_line_at : ℕ → ℕ → Bool
is_line_at total position = nat_le 2 position && nat_le (position + 1) total

abbrev pub are_advice_lines : Advice → Bool
are_advice_lines a = list_all (λ l. is_line_at a.total_position l.position) a.lines

abbrev pub are_order_lines : Order → Bool
are_order_lines o = list_all (λ l. is_line_at o.total_position l.position) o.lines

-- a fault whose position lies within these
abbrev IsAt : ℕ → ℕ → Option SetFault → Type 0
IsAt low high None = Unit {0}
IsAt low high (Some f) = (low ≤ f.position) × (f.position ≤ high)

-- the fault isn't after another, if that is there
abbrev pub IsBefore : SetFault → Option SetFault → Type 0
IsBefore f None = Unit {0}
IsBefore f (Some g) = f.position ≤ g.position

before : (x : SetFault) (low high : ℕ) (o : Option SetFault) → x.position ≤ low → IsAt low high o → IsBefore x o
before x low high None h k = tt
before x low high (Some g) h k = omega (arith, h, k.0)

least_of : (total : ℕ) (a b c : Option SetFault) → 2 ≤ total → IsAt 2 2 a → IsAt 2 total b → IsAt total total c → (f : SetFault) → first_present (a ∷ b ∷ c ∷ []) ≡ Some f
    → IsBefore f a × IsBefore f b × IsBefore f c
least_of total (Some x) b c t p q r f h =
    let same : x ≡ f = ap (λ o. unwrap_or o x) h in
    subst (λ y. IsBefore y (Some x) × IsBefore y b × IsBefore y c) same (omega arith, before x 2 total b p.1 q, before x total total c (omega (arith, p.1, t)) r)
least_of total None (Some y) c t p q r f h =
    let same : y ≡ f = ap (λ o. unwrap_or o y) h in
    subst (λ x. IsBefore x None × IsBefore x (Some y) × IsBefore x c) same (tt, omega arith, before y total total c q.1 r)
least_of total None None (Some z) t p q r f h =
    let same : z ≡ f = ap (λ o. unwrap_or o z) h in
    subst (λ x. IsBefore x None × IsBefore x None × IsBefore x (Some z)) same (tt, tt, omega arith)
least_of total None None None t p q r f h = absurd (cc)

where_at : (b : Bool) (id : List ℕ) (n place : ℕ) → IsAt n n (fault_where b (trade_fault id n place))
where_at true id n place = (omega arith, omega arith)
where_at false id n place = tt

pair_at : (a : Advice) → are_advice_lines a ≡ true → IsAt 2 a.total_position (repeated_pair a)
pair_at a h = by_found (repeated same_advice_pair [] a.lines) refl
  where
    by_found : (o : Option AdviceLine) → repeated same_advice_pair [] a.lines ≡ o
        → IsAt 2 a.total_position (option_map (λ (l : AdviceLine). trade_fault (codes "N9") (l.position + 1) 2) o)
    by_found None e = tt
    by_found (Some l) e =
        let at = repeated_is same_advice_pair (λ (l : AdviceLine). is_line_at a.total_position l.position) [] a.lines l h e in
        let p = both_parts (nat_le 2 l.position) (nat_le (l.position + 1) a.total_position) at in
        (omega (arith, leb-true 2 l.position p.0), leb-true (l.position + 1) a.total_position p.1)

-- what is found is one of the list
found_is : {X : Type 0} (q p : X → Bool) (xs : List X) (x : X) → list_all p xs ≡ true → find q xs ≡ Some x → p x ≡ true
found_is q p [] x h e = absurd (cc)
found_is q p (y ∷ ys) x h e =
    let k = both_parts (p y) (list_all p ys) h in by_test (q y) k.0 (found_is q p ys x k.1) e
  where
    by_test : (b : Bool) → p y ≡ true → (find q ys ≡ Some x → p x ≡ true) → cond b (Some y) (find q ys) ≡ Some x → p x ≡ true
    by_test true k ih f = ap p (sym (ap (λ o. unwrap_or o y) f)) ∙ k
    by_test false k ih f = ih f

date_at : (known : List ℕ → List ℕ → Option (List ℕ)) (a : Advice) → are_advice_lines a ≡ true → IsAt 2 a.total_position (redated_pair known a)
date_at known a h = by_found (find (is_redated known) a.lines) refl
  where
    by_found : (o : Option AdviceLine) → find (is_redated known) a.lines ≡ o
        → IsAt 2 a.total_position (option_map (λ (l : AdviceLine). trade_fault (codes "N9") (l.position + 1) 4) o)
    by_found None e = tt
    by_found (Some l) e =
        let at = found_is (is_redated known) (λ (l : AdviceLine). is_line_at a.total_position l.position) a.lines l h e in
        let p = both_parts (nat_le 2 l.position) (nat_le (l.position + 1) a.total_position) at in
        (omega (arith, leb-true 2 l.position p.0), leb-true (l.position + 1) a.total_position p.1)

sooner_at : (low high : ℕ) (f g : Option SetFault) → IsAt low high f → IsAt low high g → IsAt low high (sooner f g)
sooner_at low high None g p q = q
sooner_at low high (Some f) None p q = p
sooner_at low high (Some f) (Some g) p q = by_test (nat_le f.position g.position) refl
  where
    by_test : (b : Bool) → nat_le f.position g.position ≡ b → IsAt low high (sooner (Some f) (Some g))
    by_test true e = subst (IsAt low high) (sym (ap (λ b. cond b (Some f) (Some g)) e)) p
    by_test false e = subst (IsAt low high) (sym (ap (λ b. cond b (Some f) (Some g)) e)) q

-- what isn't after the sooner of two isn't after either
sooner_is : (x : SetFault) (f g : Option SetFault) → IsBefore x (sooner f g) → IsBefore x f × IsBefore x g
sooner_is x None g h = (tt, h)
sooner_is x (Some f) None h = (h, tt)
sooner_is x (Some f) (Some g) h = by_test (nat_le f.position g.position) refl
  where
    by_test : (b : Bool) → nat_le f.position g.position ≡ b → IsBefore x (Some f) × IsBefore x (Some g)
    by_test true e =
        let k : x.position ≤ f.position = subst (IsBefore x) (ap (λ b. cond b (Some f) (Some g)) e) h in
        (k, omega (arith, k, leb-true f.position g.position e))
    by_test false e =
        let k : x.position ≤ g.position = subst (IsBefore x) (ap (λ b. cond b (Some f) (Some g)) e) h in
        (omega (arith, k, leb-false f.position g.position e), k)

item_at : (o : Order) → are_order_lines o ≡ true → IsAt 2 o.total_position (repeated_item o)
item_at o h = by_found (repeated same_order_item [] o.lines) refl
  where
    by_found : (found : Option OrderLine) → repeated same_order_item [] o.lines ≡ found
        → IsAt 2 o.total_position (option_map (λ (l : OrderLine). trade_fault (codes "W01") l.position 5) found)
    by_found None e = tt
    by_found (Some l) e =
        let at = repeated_is same_order_item (λ (l : OrderLine). is_line_at o.total_position l.position) [] o.lines l h e in
        let p = both_parts (nat_le 2 l.position) (nat_le (l.position + 1) o.total_position) at in
        (leb-true 2 l.position p.0, omega (arith, leb-true (l.position + 1) o.total_position p.1))

-- the trade fault of an advice stands at the least position of the four that there may be
pub advice_fault-least : (es : List Event) (a : Advice) (f : SetFault) → are_advice_lines a ≡ true → 2 ≤ a.total_position → advice_fault es a ≡ Some f
    → IsBefore f (fault_where (is_some (advice_under a.shipment es)) (trade_fault (codes "W06") 2 4))
    × IsBefore f (repeated_pair a)
    × IsBefore f (redated_pair (expiry es) a)
    × IsBefore f (wrong_advice_total a)
advice_fault-least es a f h t e =
    let p = least_of a.total_position _ _ _ t
    (where_at (is_some (advice_under a.shipment es)) (codes "W06") 2 4)
    (sooner_at 2 a.total_position (repeated_pair a) (redated_pair (expiry es) a) (pair_at a h) (date_at (expiry es) a h))
    (where_at (not (sum_by (λ l. l.quantity) (advised a) == a.total)) (codes "W03") a.total_position 1)
    f e in
    let q = sooner_is f (repeated_pair a) (redated_pair (expiry es) a) p.1 in
    (p.0, q.0, q.1, p.2)

-- and that of an order
pub order_fault-least : (es : List Event) (o : Order) (f : SetFault) → are_order_lines o ≡ true → 2 ≤ o.total_position → order_fault es o ≡ Some f
    → IsBefore f (fault_where (is_some (order_under o.number es)) (trade_fault (codes "W05") 2 2))
    × IsBefore f (repeated_item o)
    × IsBefore f (wrong_order_total o)
order_fault-least es o f h t e = least_of o.total_position _ _ _ t
    (where_at (is_some (order_under o.number es)) (codes "W05") 2 2)
    (item_at o h)
    (where_at (not (sum_by (λ l. l.quantity) o.lines == o.total)) (codes "W76") o.total_position 1)
    f e
