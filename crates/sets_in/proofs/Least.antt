-- The lines of a set stand after its head and before its total, so its trade fault is at the least
-- position.
use Rattle.std.proofs.Common.{◌≡◌, ℕ, ◌+◌, ◌*◌, ◌≤◌, true, List, [], ◌∷◌, length, refl, sym, subst, arith, le-leb, length-append, Some, None, Option}
use Rattle.std.specs.Prelude.{flat_map}
use Rattle.std.specs.List.{list_all}
use Rattle.std.specs.Cmp.Derive.{both_true}
use Rattle.definitions.specs.Cut.{Segment}
use Rattle.definitions.specs.Faults.{SetFault}
use Rattle.definitions.specs.Means.{AdviceLine, Advice, OrderLine, Order}
use Rattle.definitions.specs.Events.{Event, advice_fault, order_fault}
use Rattle.definitions.proofs.TradeLaws.{is_line_at, are_advice_lines, are_order_lines, IsBefore, advice_fault-least, order_fault-least}
use Rattle.sets_in.specs.Said as advised
use Rattle.sets_in.specs.SaidOrder as ordered
use Rattle.sets_in.specs.TradeFaults.{faults_of_advice, faults_of_order, IsLeastOf}

at_line : (total position : ℕ) → 2 ≤ position → position + 1 ≤ total → is_line_at total position ≡ true
at_line total position low high = both_true (le-leb 2 position low) (le-leb (position + 1) total high)

advice_lines : (total n : ℕ) (gs : List (Segment × Segment)) → 2 ≤ n → n + 2 * length gs ≤ total → list_all (λ (l : AdviceLine). is_line_at total l.position) (advised.lines_at n gs) ≡ true
advice_lines total n [] low high = refl
advice_lines total n (g ∷ gs) low high = both_true (at_line total n low (omega arith)) (advice_lines total (n + 2) gs (omega arith) (omega arith))

order_lines : (total n : ℕ) (gs : List (ordered.OrderedGoods Segment)) → 2 ≤ n → n + length (flat_map ordered.in_goods gs) ≤ total
    → list_all (λ (l : OrderLine). is_line_at total l.position) (ordered.lines_at n gs) ≡ true
order_lines total n [] low high = refl
order_lines total n (g ∷ gs) low high =
    let parts = length-append (ordered.in_goods g) (flat_map ordered.in_goods gs) in
    both_true (at_line total (n + 1) (omega arith) (omega (arith, parts))) (order_lines total (n + length (ordered.in_goods g)) gs (omega arith) (omega (arith, parts)))

-- one fault more that may be there
and_of : (f : SetFault) (o : Option SetFault) (os : List (Option SetFault)) → IsBefore f o → IsLeastOf f os → IsLeastOf f (o ∷ os)
and_of f None os h k = k
and_of f (Some g) os h k = (h, k)

three : (f : SetFault) (a b c : Option SetFault) → IsBefore f a × IsBefore f b × IsBefore f c → IsLeastOf f (a ∷ b ∷ c ∷ [])
three f a b c h = and_of f a (b ∷ c ∷ []) h.0 (and_of f b (c ∷ []) h.1 (and_of f c [] h.2 tt))

four : (f : SetFault) (a b c d : Option SetFault) → IsBefore f a × IsBefore f b × IsBefore f c × IsBefore f d → IsLeastOf f (a ∷ b ∷ c ∷ d ∷ [])
four f a b c d h = and_of f a (b ∷ c ∷ d ∷ []) h.0 (three f b c d (h.1, h.2, h.3))

pub least_of_advice : (es : List Event) (ss : List Segment) (a : Advice) (f : SetFault) → advised.SaysAdvice ss a → advice_fault es a ≡ Some f → IsLeastOf f (faults_of_advice es a)
least_of_advice es ss a f (t, parts, is, e) h =
    let n = length t.header + 3 in
    let lines : are_advice_lines (advised.meaning t) ≡ true = advice_lines (n + 2 * length t.goods) n t.goods (omega arith) (omega arith) in
    let total : 2 ≤ (advised.meaning t).total_position = omega arith in
    let same = sym e in
    four f _ _ _ _ (advice_fault-least es a f (subst (λ (x : Advice). are_advice_lines x ≡ true) same lines) (subst (λ (x : Advice). 2 ≤ x.total_position) same total) h)

pub least_of_order : (es : List Event) (ss : List Segment) (o : Order) (f : SetFault) → ordered.SaysOrder ss o → order_fault es o ≡ Some f → IsLeastOf f (faults_of_order es o)
least_of_order es ss o f (t, parts, is, e) h =
    let n = length (flat_map ordered.in_party t.parties) + length t.header + 3 in
    let lines : are_order_lines (ordered.meaning t) ≡ true = order_lines (n + length (flat_map ordered.in_goods t.goods)) n t.goods (omega arith) (omega arith) in
    let total : 2 ≤ (ordered.meaning t).total_position = omega arith in
    let same = sym e in
    three f _ _ _ (order_fault-least es o f (subst (λ (x : Order). are_order_lines x ≡ true) same lines) (subst (λ (x : Order). 2 ≤ x.total_position) same total) h)
