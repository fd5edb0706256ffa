-- What a set brings of a pair: one line of it at most, since an advice that passes names no pair
-- twice.
use Rattle.std.proofs.Common.{◌≡◌, ℕ, ◌*◌, ◌≤◌, Bool, true, false, ◌||◌, cond, List, [], ◌∷◌, ◌++◌, map, Option, Some, None, Ok, Err, length, is_some, refl, sym, ◌∙◌, subst, arith, inl, inr}
use Rattle.std.proofs.lemmas.Bool.{cases_Bool, both_ways, leb-true}
use Rattle.std.proofs.lemmas.List.Folds.{list_any-append}
use Rattle.std.specs.Prelude.{Result, nat_le}
use Rattle.std.specs.List.{list_all, list_any}
use Rattle.definitions.specs.declared.rules.Rules.{Rules}
use Rattle.definitions.specs.declared.rules.Rules.TheVariants.{One, Two}
use Rattle.definitions.specs.Rules.{may_follow}
use Rattle.definitions.specs.Bytes.{Delims}
use Rattle.definitions.specs.Limits.{most_lines, most_quantity}
use Rattle.definitions.specs.Lists.{or_else}
use Rattle.definitions.specs.Cut.{Segment}
use Rattle.definitions.specs.Words.{kind_words}
use Rattle.definitions.specs.declared.set_kind.SetKind.{SetKind}
use Rattle.definitions.specs.declared.set_kind.SetKind.TheVariants.{ShippingOrder, ShipmentAdvice, FunctionalAcknowledgment}
use Rattle.definitions.specs.Faults.{SetFault, set_fault}
use Rattle.definitions.specs.Means.{Line, AdviceLine, Advice, advised, advice_of, order_of, acknowledgment_of}
use Rattle.definitions.specs.Events.{Event, Enrolment, Advised, Ordered, Acknowledged, Counted, Picked, Recounted, is_pair, quantity_of, repeated, same_advice_pair, repeated_pair, redated_pair, sooner, wrong_advice_total, expiry, advice_under, advice_fault_where, advice_fault, order_fault}
use Rattle.definitions.specs.Allotment.{order_shares}
use Rattle.definitions.specs.Movements.{Expected, OnHand, Reservation, Shipped, comes, goes, came_to}
use Rattle.definitions.specs.History.{unless, traded, judged}
use Rattle.definitions.proofs.TextLaws.{both_parts}
use Rattle.stock.proofs.Events.{or_else_left}
use Rattle.stock.proofs.Finds.{map_none}
use Rattle.stock.proofs.OfPairLemmas.{pair_is}
use Rattle.stock.proofs.Sums.{given_here}
use Rattle.stock.proofs.Moves.{came_append, came_push, came_comes, came_goes}
use Rattle.stock.proofs.Pairs.{quantity_yes, quantity_no}
use Rattle.set_effects.proofs.Judges.{judged_sound, judged_faulty}
use Rattle.rules.proofs.Small.{is_small, is_small_event, event_later, advice_small}

-- Lines of which none is of a pair that stood before.

abbrev is_of : List ℕ → List ℕ → AdviceLine → Bool
is_of a b l = is_pair a b l.line

abbrev lines_of : List AdviceLine → List Line
lines_of ls = map (λ (l : AdviceLine). l.line) ls

-- a line of the pair is like the lines of the pair
like_of : (a b : List ℕ) (x : AdviceLine) (before : List AdviceLine) → is_of a b x ≡ true
    → list_any (same_advice_pair x) before ≡ list_any (is_of a b) before
like_of a b x before e =
    let p = pair_is a b x.line e in λ j. list_any (λ (l : AdviceLine). is_pair (p.0 j) (p.1 j) l.line) before

unlike : (x : AdviceLine) (before xs : List AdviceLine) (v : Bool)
    → cond v (Some x) (repeated same_advice_pair (before ++ x ∷ []) xs) ≡ None
    → (v ≡ false) × (repeated same_advice_pair (before ++ x ∷ []) xs ≡ None)
unlike x before xs true h = absurd (cc (h))
unlike x before xs false h = (refl, h)

or_left : (p q : Bool) → p ≡ true → (p || q) ≡ true
or_left p q h = rw h refl

or_right : (p q : Bool) → q ≡ true → (p || q) ≡ true
or_right true q h = refl
or_right false q h = h

none_again : (a b : List ℕ) (before xs : List AdviceLine) → repeated same_advice_pair before xs ≡ None
    → list_any (is_of a b) before ≡ true → quantity_of (lines_of xs) a b ≡ 0
none_again a b before [] h there = refl
none_again a b before (x ∷ xs) h there =
    let u = unlike x before xs (list_any (same_advice_pair x) before) h in
    elim (cases_Bool (is_of a b x)) [
      | inl e ↦ absurd (both_ways (list_any (same_advice_pair x) before) u.0 (like_of a b x before e ∙ there))
      | inr e ↦
          quantity_no a b x.line (lines_of xs) e
          ∙ none_again a b (before ++ x ∷ []) xs u.1
          (list_any-append (is_of a b) before (x ∷ [])
          ∙ or_left (list_any (is_of a b) before) (list_any (is_of a b) (x ∷ [])) there)
    ]

-- they give a pair no more than one of them may have
one_line : (a b : List ℕ) (most : ℕ) (before xs : List AdviceLine) → repeated same_advice_pair before xs ≡ None
    → list_all (λ (l : AdviceLine). nat_le l.line.quantity most) xs ≡ true → quantity_of (lines_of xs) a b ≤ most
one_line a b most before [] h small = omega arith
one_line a b most before (x ∷ xs) h small =
    let u = unlike x before xs (list_any (same_advice_pair x) before) h in
    let k = both_parts (nat_le x.line.quantity most) (list_all (λ (l : AdviceLine). nat_le l.line.quantity most) xs) small in
    elim (cases_Bool (is_of a b x)) [
      | inl e ↦
          let there = list_any-append (is_of a b) before (x ∷ [])
          ∙ or_right (list_any (is_of a b) before) (list_any (is_of a b) (x ∷ [])) (or_left (is_of a b x) false e) in
          omega (
            arith,
            quantity_yes a b x.line (lines_of xs) e,
            none_again a b (before ++ x ∷ []) xs u.1 there,
            leb-true x.line.quantity most k.0,
          )
      | inr e ↦ omega (arith, quantity_no a b x.line (lines_of xs) e, one_line a b most (before ++ x ∷ []) xs u.1 k.1)
    ]

-- An advice without a fault names no pair twice.

sooner_none : (f g : Option SetFault) → sooner f g ≡ None → f ≡ None
sooner_none None g h = refl
sooner_none (Some f) None h = absurd (cc (h))
sooner_none (Some f) (Some g) h = by (nat_le f.position g.position) h
  where
    by : (v : Bool) → cond v (Some f) (Some g) ≡ None → Some f ≡ None
    by true e = e
    by false e = absurd (cc (e))

pairs_where : (is_known : Bool) (known : List ℕ → List ℕ → Option (List ℕ)) (a : Advice)
    → advice_fault_where is_known known a ≡ None → repeated same_advice_pair [] a.lines ≡ None
pairs_where true known a h = absurd (cc (h))
pairs_where false known a h =
    let of_pair = or_else_left (sooner (repeated_pair a) (redated_pair known a)) (or_else (wrong_advice_total a) None) h in
    map_none _ (repeated same_advice_pair [] a.lines) (sooner_none (repeated_pair a) (redated_pair known a) of_pair)

-- What events bring.

-- to no pair more is expected by them than so many lines may have
abbrev pub Bring : ℕ → List Event → Type 0
Bring n es = (a b : List ℕ) → came_to es Expected a b ≤ most_quantity Two * n

-- an outcome whose event, if it is one, brings at most one line
abbrev pub BringsOne : {X : Type 0} → Result Event X → Type 0
BringsOne (Ok e) = Bring 1 (e ∷ [])
BringsOne (Err x) = Unit {0}

advised_one : (a : Advice) → is_small_event Two (Advised a) ≡ true → repeated same_advice_pair [] a.lines ≡ None
    → Bring 1 (Advised a ∷ [])
advised_one a small once =
    let few = nat_le (length a.lines) (most_lines Two) in
    let k = both_parts few (list_all (λ (l : AdviceLine). is_small Two l.line.quantity) a.lines) small in
    λ i l. omega (
      arith,
      came_push [] (Advised a) Expected i l,
      came_comes Expected (advised a) Expected i l,
      given_here Expected (advised a) i l,
      one_line i l (most_quantity Two) [] a.lines once k.1,
    )

-- an event other than an advice brings nothing
pub nothing_comes : (e : Event) → ((a : Advice) → e ≡ Advised a → ⊥) → (i l : List ℕ) → came_to (e ∷ []) Expected i l ≡ 0
nothing_comes Enrolment other i l = refl
nothing_comes (Advised a) other i l = absurd (other a refl)
nothing_comes (Ordered o shares) other i l =
    omega (arith, came_push [] (Ordered o shares) Expected i l, came_comes Reservation shares Expected i l)
nothing_comes (Acknowledged n a) other i l = refl
nothing_comes (Counted n a sheet) other i l = omega (
  arith,
  came_push [] (Counted n a sheet) Expected i l,
  came_append (map (goes Expected) (advised a)) (map (comes OnHand) sheet) Expected i l,
  came_goes Expected (advised a) Expected i l,
  came_comes OnHand sheet Expected i l,
)
nothing_comes (Picked n o shares sheet) other i l = omega (
  arith,
  came_push [] (Picked n o shares sheet) Expected i l,
  came_append (map (goes OnHand) sheet ++ map (comes Shipped) sheet) (map (goes Reservation) shares) Expected i l,
  came_append (map (goes OnHand) sheet) (map (comes Shipped) sheet) Expected i l,
  came_goes OnHand sheet Expected i l,
  came_comes Shipped sheet Expected i l,
  came_goes Reservation shares Expected i l,
)
nothing_comes (Recounted n before sheet) other i l = omega (
  arith,
  came_push [] (Recounted n before sheet) Expected i l,
  came_append (map (goes OnHand) before) (map (comes OnHand) sheet) Expected i l,
  came_goes OnHand before Expected i l,
  came_comes OnHand sheet Expected i l,
)

other_one : (e : Event) → ((a : Advice) → e ≡ Advised a → ⊥) → Bring 1 (e ∷ [])
other_one e other = λ i l. omega (arith, nothing_comes e other i l)

pub follows_two : (q : Rules) → may_follow q Two ≡ true
follows_two One = refl
follows_two Two = refl

unless_one : (e : Event) (o : Option SetFault) → Bring 1 (e ∷ []) → BringsOne (unless o e)
unless_one e None one = one
unless_one e (Some f) one = tt

traded_one : (q : Rules) (d : Delims) (es : List Event) (n : ℕ) (kind : SetKind) (ss : List Segment)
    → set_fault q d (kind_words q kind) ss ≡ None → BringsOne (traded q es n kind ss)
traded_one q d es n ShipmentAdvice ss none = by (advice_fault es (advice_of ss)) refl
  where
    small : is_small_event Two (Advised (advice_of ss)) ≡ true
    small = event_later q Two (follows_two q) (Advised (advice_of ss)) (advice_small q d ss none)

    by : (o : Option SetFault) → advice_fault es (advice_of ss) ≡ o → BringsOne (unless o (Advised (advice_of ss)))
    by None e =
        let a = advice_of ss in
        advised_one a small (pairs_where (is_some (advice_under a.shipment es)) (expiry es) a e)
    by (Some f) e = tt
traded_one q d es n ShippingOrder ss none =
    let o = order_of ss in
    let event = Ordered o (order_shares q es o) in
    unless_one event (order_fault es o) (other_one event (λ a is. absurd (cc (is))))
traded_one q d es n FunctionalAcknowledgment ss none =
    other_one (Acknowledged n (acknowledgment_of ss)) (λ a is. absurd (cc (is)))

-- a set brings a pair one line at most
pub judged_one : (q : Rules) (d : Delims) (es : List Event) (n : ℕ) (kind : SetKind) (ss : List Segment)
    → BringsOne (judged q d es n kind ss)
judged_one q d es n kind ss = by (set_fault q d (kind_words q kind) ss) refl
  where
    by : (o : Option SetFault) → set_fault q d (kind_words q kind) ss ≡ o → BringsOne (judged q d es n kind ss)
    by None e = subst BringsOne (sym (judged_sound q d es n kind ss e)) (traded_one q d es n kind ss e)
    by (Some f) e = subst BringsOne (sym (judged_faulty q d es n kind ss f e)) tt
