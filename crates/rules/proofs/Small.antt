-- Sets without fault by rules, and so the events of any entries under them, are small: their lines
-- are few, and their quantities too.
use Rattle.std.proofs.Common.{◌≡◌, ℕ, ◌+◌, ◌-◌, ◌≤◌, min, suc, Bool, true, false, ◌&&◌, cond, List, [], ◌∷◌, ◌++◌, map, length, Option, Some, None, Ok, Err, refl, sym, ap, ◌∙◌, subst, arith, le-leb, leb-true}
use Rattle.std.specs.Prelude.{Result, codes, nat_le, zip, filter, flat_map, slice_get, unwrap_or}
use Rattle.std.specs.Cmp.Derive.{both_true}
use Rattle.std.specs.List.{list_all, enumerate_from}
use Rattle.std.proofs.lemmas.List.{length-map}
use Rattle.std.proofs.lemmas.List.Folds.{list_all-append, list_all-map}
use Rattle.definitions.specs.declared.rules.Rules.{Rules}
use Rattle.definitions.specs.declared.rules.Rules.TheVariants.{One, Two}
use Rattle.definitions.specs.Rules.{may_follow}
use Rattle.definitions.specs.Bytes.{Delims, value}
use Rattle.definitions.specs.Limits.{most_lines, most_quantity}
use Rattle.definitions.specs.Cut.{Segment, element, has_id, places_of}
use Rattle.definitions.specs.Elements.{quantity_digits}
use Rattle.definitions.specs.Words.{kind_words, words_940, words_943}
use Rattle.definitions.specs.declared.set_kind.SetKind.{SetKind}
use Rattle.definitions.specs.declared.set_kind.SetKind.TheVariants.{ShippingOrder, ShipmentAdvice, FunctionalAcknowledgment}
use Rattle.definitions.specs.Faults.{SetFault, set_fault, fault_from}
use Rattle.definitions.specs.Means.{AdviceLine, OrderLine, Order, segment_at, advice_line, advice_of, order_line, order_of}
use Rattle.definitions.specs.Events.{Event, Enrolment, Advised, Ordered, Acknowledged, Counted, Picked, Recounted, advice_fault, order_fault}
use Rattle.definitions.specs.Movements.{free}
use Rattle.definitions.specs.Allotment.{shares_after, line_shares, order_shares, lots_for}
use Rattle.definitions.specs.History.{unless, traded, judged}
use Rattle.definitions.proofs.FaultsLaws.{set_fault-from}
use Rattle.definitions.proofs.TextLaws.{both_parts}
use Rattle.sets_in.specs.Amounts.{IsAmount, HaveAmounts}
use Rattle.sets_in.specs.Places.{places_from}
use Rattle.sets_in.proofs.Values.{amount_bound}
use Rattle.sets_in.proofs.Sound.{goods_amounts, ordered_amounts, amount_at}
use Rattle.sets_in.proofs.Most.{few_goods}
use Rattle.rules.specs.Fitting.{is_fitting_line}
use Rattle.set_effects.proofs.Judges.{judged_sound, judged_faulty}

abbrev pub is_small : Rules → ℕ → Bool
is_small r n = nat_le n (most_quantity r)

abbrev pub is_small_event : Rules → Event → Bool
is_small_event r (Advised a) =
    nat_le (length a.lines) (most_lines r) && list_all (λ (l : AdviceLine). is_small r l.line.quantity) a.lines
is_small_event r (Ordered o shares) =
    list_all (λ (l : OrderLine). is_small r l.quantity) o.lines && list_all (is_fitting_line r) shares
is_small_event r e = true

pub all_so : {X : Type 0} (p q : X → Bool) (xs : List X) → ((x : X) → p x ≡ true → q x ≡ true) → list_all p xs ≡ true
    → list_all q xs ≡ true
all_so p q [] so h = refl
all_so p q (x ∷ xs) so h = let k = both_parts (p x) (list_all p xs) h in both_true (so x k.0) (all_so p q xs so k.1)

-- What is small by earlier rules is small by later ones.

later_quantity : (q r : Rules) → may_follow q r ≡ true → most_quantity q ≤ most_quantity r
later_quantity One One follows = omega arith
later_quantity One Two follows = omega arith
later_quantity Two Two follows = omega arith
later_quantity Two One follows = absurd (cc (follows))

later_lines : (q r : Rules) → may_follow q r ≡ true → most_lines q ≤ most_lines r
later_lines One One follows = omega arith
later_lines One Two follows = omega arith
later_lines Two Two follows = omega arith
later_lines Two One follows = absurd (cc (follows))

within_later : (m n k : ℕ) → m ≤ n → nat_le k m ≡ true → nat_le k n ≡ true
within_later m n k le h = le-leb k n (omega (arith, le, leb-true k m h))

pub event_later : (q r : Rules) → may_follow q r ≡ true → (e : Event) → is_small_event q e ≡ true
    → is_small_event r e ≡ true
event_later q r follows (Advised a) small =
    let quantities = list_all (λ (l : AdviceLine). is_small q l.line.quantity) a.lines in
    let k = both_parts (nat_le (length a.lines) (most_lines q)) quantities small in
    both_true (within_later (most_lines q) (most_lines r) (length a.lines) (later_lines q r follows) k.0)
    (all_so (λ (l : AdviceLine). is_small q l.line.quantity) (λ (l : AdviceLine). is_small r l.line.quantity) a.lines
    (λ l h. within_later (most_quantity q) (most_quantity r) l.line.quantity (later_quantity q r follows) h) k.1)
event_later q r follows (Ordered o shares) small =
    let k = both_parts (list_all (λ (l : OrderLine). is_small q l.quantity) o.lines) (list_all (is_fitting_line q) shares) small in
    both_true
    (all_so (λ (l : OrderLine). is_small q l.quantity) (λ (l : OrderLine). is_small r l.quantity) o.lines
    (λ l h. within_later (most_quantity q) (most_quantity r) l.quantity (later_quantity q r follows) h) k.0)
    (all_so (is_fitting_line q) (is_fitting_line r) shares
    (λ l h. within_later (most_quantity q) (most_quantity r) l.quantity (later_quantity q r follows) h) k.1)
event_later q r follows Enrolment small = refl
event_later q r follows (Acknowledged n a) small = refl
event_later q r follows (Counted n a sheet) small = refl
event_later q r follows (Picked n o shares sheet) small = refl
event_later q r follows (Recounted n before sheet) small = refl

pub all_two : {X : Type 0} (p : X → Bool) (xs ys : List X) → list_all p xs ≡ true → list_all p ys ≡ true
    → list_all p (xs ++ ys) ≡ true
all_two p xs ys a b = list_all-append p xs ys ∙ both_true a b

-- Quantities at places.

-- the segments with the id, each with its place
abbrev placed_with : List ℕ → ℕ → List Segment → List (ℕ × Segment)
placed_with id n ss = filter (λ (q : ℕ × Segment). has_id id q.1) (enumerate_from n ss)

-- what holds at each segment with the id holds at its place
at_places : (id : List ℕ) (p : ℕ → Bool) (n : ℕ) (ss : List Segment)
    → ((i : ℕ) → has_id id (unwrap_or (slice_get ss i) []) ≡ true → p (n + i) ≡ true)
    → list_all p (places_from id n ss) ≡ true
at_places id p n [] h = refl
at_places id p n (s ∷ ss) h =
    let at : n + 0 ≡ n = omega arith in
    by (has_id id s) (λ e. ap p (sym at) ∙ h 0 e) (at_places id p (n + 1) ss (λ i e. later i (h (suc i) e)))
  where
    later : (i : ℕ) → p (n + suc i) ≡ true → p (n + 1 + i) ≡ true
    later i k = let same : n + 1 + i ≡ n + suc i = omega arith in ap p same ∙ k

    by : (b : Bool) → (b ≡ true → p n ≡ true) → list_all p (places_from id (n + 1) ss) ≡ true
        → (let rest = placed_with id (n + 1) ss in
        list_all p (map (λ (q : ℕ × Segment). q.0) (cond b ((n, s) ∷ rest) rest)) ≡ true)
    by true here there = both_true (here refl) there
    by false here there = there

amount_small : (r : Rules) (text : List ℕ) → IsAmount (quantity_digits r) text → is_small r (value text) ≡ true
amount_small One text a =
    le-leb (value text) (most_quantity One) (omega (arith, amount_bound (quantity_digits One) text a))
amount_small Two text a =
    le-leb (value text) (most_quantity Two) (omega (arith, amount_bound (quantity_digits Two) text a))

pub small_at : (r : Rules) (id : List ℕ) (ss : List Segment) → HaveAmounts id 1 (quantity_digits r) ss
    → list_all (λ (n : ℕ). is_small r (value (element (segment_at ss n) 1))) (places_of id ss) ≡ true
small_at r id ss amounts = at_places id (λ (n : ℕ). is_small r (value (element (segment_at ss n) 1))) 1 ss
    (λ i e.
    let same : 1 + i - 1 ≡ i = omega arith in
    ap (λ (k : ℕ). is_small r (value (element (unwrap_or (slice_get ss k) []) 1))) same
    ∙ amount_small r (element (unwrap_or (slice_get ss i) []) 1) (amount_at id 1 (quantity_digits r) ss i amounts e))

-- Sets without fault.

few_lines : (r : Rules) (f : ℕ → AdviceLine) (places : List ℕ) → length places ≤ most_lines r
    → nat_le (length (map f places)) (most_lines r) ≡ true
few_lines r f places few = le-leb (length (map f places)) (most_lines r) (omega (arith, length-map places f, few))

unfaulted : (r : Rules) (d : Delims) (kind : SetKind) (ss : List Segment) → set_fault r d (kind_words r kind) ss ≡ None
    → fault_from r d (kind_words r kind) (kind_words r kind) [] 1 ss ≡ None
unfaulted r d kind ss none = sym (set_fault-from r d (kind_words r kind) ss) ∙ none

pub advice_small : (r : Rules) (d : Delims) (ss : List Segment) → set_fault r d (kind_words r ShipmentAdvice) ss ≡ None
    → is_small_event r (Advised (advice_of ss)) ≡ true
advice_small r d ss none =
    let passes = unfaulted r d ShipmentAdvice ss none in
    let quantities = small_at r (codes "W04") ss (goods_amounts r d (words_943 r) ss passes) in
    both_true (few_lines r (advice_line ss) (places_of (codes "W04") ss) (few_goods r d ss passes))
    (list_all-map (λ (l : AdviceLine). is_small r l.line.quantity) (advice_line ss) (places_of (codes "W04") ss)
    ∙ quantities)

ordered_small : (r : Rules) (d : Delims) (ss : List Segment) → set_fault r d (kind_words r ShippingOrder) ss ≡ None
    → list_all (λ (l : OrderLine). is_small r l.quantity) (order_of ss).lines ≡ true
ordered_small r d ss none =
    let passes = unfaulted r d ShippingOrder ss none in
    list_all-map (λ (l : OrderLine). is_small r l.quantity) (order_line ss) (places_of (codes "W01") ss)
    ∙ small_at r (codes "W01") ss (ordered_amounts r d (words_940 r) ss passes)

-- Shares are at most what is wanted.

shares_small : (r : Rules) (earlier : ℕ) (fs : List ℕ) (w : ℕ) → w ≤ most_quantity r
    → list_all (is_small r) (shares_after earlier fs w) ≡ true
shares_small r earlier [] w le = refl
shares_small r earlier (f ∷ fs) w le =
    both_true (le-leb (min f (w - earlier)) (most_quantity r) (omega (arith, le))) (shares_small r (earlier + f) fs w le)

made_small : (r : Rules) (item : List ℕ) (lots : List (List ℕ)) (qs : List ℕ) → list_all (is_small r) qs ≡ true
    → list_all (is_fitting_line r) (map (λ p. record { item = item; lot = p.0; quantity = p.1 }) (zip lots qs)) ≡ true
made_small r item [] qs small = refl
made_small r item (lot ∷ lots) [] small = refl
made_small r item (lot ∷ lots) (q ∷ qs) small =
    let p = both_parts (is_small r q) (list_all (is_small r) qs) small in both_true p.0 (made_small r item lots qs p.1)

given_small : (r : Rules) (es : List Event) (ls : List OrderLine) → list_all (λ (l : OrderLine). is_small r l.quantity) ls ≡ true
    → list_all (is_fitting_line r) (flat_map (line_shares r es) ls) ≡ true
given_small r es [] small = refl
given_small r es (l ∷ ls) small =
    let p = both_parts (is_small r l.quantity) (list_all (λ (l : OrderLine). is_small r l.quantity) ls) small in
    let lots = lots_for r es l in
    all_two (is_fitting_line r) (line_shares r es l) (flat_map (line_shares r es) ls)
    (made_small r l.item lots (shares_after 0 (map (free es l.item) lots) l.quantity)
    (shares_small r 0 (map (free es l.item) lots) l.quantity (leb-true l.quantity (most_quantity r) p.0)))
    (given_small r es ls p.1)

order_small : (r : Rules) (es : List Event) (o : Order) → list_all (λ (l : OrderLine). is_small r l.quantity) o.lines ≡ true
    → is_small_event r (Ordered o (order_shares r es o)) ≡ true
order_small r es o small = both_true small (given_small r es o.lines small)

-- an outcome whose event, if it is one, is small
abbrev pub IsSmall : {X : Type 0} → Rules → Result Event X → Type 0
IsSmall r (Ok e) = is_small_event r e ≡ true
IsSmall r (Err x) = Unit {0}

unless_small : (r : Rules) (e : Event) (o : Option SetFault) → is_small_event r e ≡ true → IsSmall r (unless o e)
unless_small r e None small = small
unless_small r e (Some f) small = tt

traded_small : (r : Rules) (d : Delims) (es : List Event) (n : ℕ) (kind : SetKind) (ss : List Segment)
    → set_fault r d (kind_words r kind) ss ≡ None → IsSmall r (traded r es n kind ss)
traded_small r d es n ShipmentAdvice ss none =
    unless_small r (Advised (advice_of ss)) (advice_fault es (advice_of ss)) (advice_small r d ss none)
traded_small r d es n ShippingOrder ss none =
    let o = order_of ss in
    unless_small r (Ordered o (order_shares r es o)) (order_fault es o) (order_small r es o (ordered_small r d ss none))
traded_small r d es n FunctionalAcknowledgment ss none = refl

-- the event of a set is small
pub judged_small : (r : Rules) (d : Delims) (es : List Event) (n : ℕ) (kind : SetKind) (ss : List Segment)
    → IsSmall r (judged r d es n kind ss)
judged_small r d es n kind ss = by (set_fault r d (kind_words r kind) ss) refl
  where
    by : (o : Option SetFault) → set_fault r d (kind_words r kind) ss ≡ o → IsSmall r (judged r d es n kind ss)
    by None e = subst (IsSmall r) (sym (judged_sound r d es n kind ss e)) (traded_small r d es n kind ss e)
    by (Some f) e = subst (IsSmall r) (sym (judged_faulty r d es n kind ss f e)) tt
