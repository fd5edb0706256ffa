-- Rules 1 are what they are by themselves.
use Rattle.std.proofs.Common.{◌≡◌, ℕ, ◌+◌, Bool, true, false, List, [], ◌∷◌, map, codes, flat_map, refl, ap, sym, ◌∙◌, Some, None, Option, is_none}
use Rattle.std.specs.List.{list_all}
use Rattle.std.specs.Prelude.{find, option_map, is_some}
use Rattle.definitions.specs.declared.rules.Rules.TheVariants.{One}
use Rattle.definitions.specs.Lists.{first_present, in_order, placed}
use Rattle.definitions.specs.Faults.{SetFault}
use Rattle.definitions.specs.Means.{Advice, AdviceLine}
use Rattle.definitions.specs.Events.{Event, expiry, since, advice_fault, advice_under, fault_where, trade_fault, repeated_pair, wrong_advice_total, is_other_date, is_redated, redated_pair, sooner}
use Rattle.definitions.specs.Allotment.{Ranked, counted_before, lots_named, lots_of, ranked_lots}
use Rattle.definitions.specs.First.{since_before, lots_since, undated_fault}
use Rattle.definitions.proofs.TextLaws.{both_parts}

-- what is put in order and then looked at in part is put in order by that part, where the order
-- looks at no more
module _ {X Y : Type 0} (part : X → Y) (above : X → X → Bool) (before : Y → Y → Bool) (same : (a b : X) → above a b ≡ before (part a) (part b)) where
  placed_part : (x : X) (ys : List X) → map part (placed above x ys) ≡ placed before (part x) (map part ys)
  placed_part x [] = refl
  placed_part x (y ∷ ys) = by_tests (above x y) (above y x) refl refl (placed_part x ys)
    where
      by_tests : (s t : Bool) → above x y ≡ s → above y x ≡ t → map part (placed above x ys) ≡ placed before (part x) (map part ys)
          → map part (placed above x (y ∷ ys)) ≡ placed before (part x) (map part (y ∷ ys))
      by_tests true t e f more = let g : before (part x) (part y) ≡ true = sym (same x y) ∙ e in rw (e, g) refl
      by_tests false true e f more =
          let g : before (part x) (part y) ≡ false = sym (same x y) ∙ e in
          let h : before (part y) (part x) ≡ true = sym (same y x) ∙ f in
          rw (e, g, f, h) (ap (λ zs. part y ∷ zs) more)
      by_tests false false e f more =
          let g : before (part x) (part y) ≡ false = sym (same x y) ∙ e in
          let h : before (part y) (part x) ≡ false = sym (same y x) ∙ f in
          rw (e, g, f, h) refl

  pub in_order_part : (xs : List X) → map part (in_order above xs) ≡ in_order before (map part xs)
  in_order_part [] = refl
  in_order_part (x ∷ xs) = placed_part x (in_order above xs) ∙ ap (placed before (part x)) (in_order_part xs)

abbrev counted : Ranked → ℕ × List ℕ
counted k = (k.since, k.lot)

pub lots-first : (es : List Event) (item : List ℕ) → lots_of One es item ≡ lots_since es item
lots-first es item =
    let named = flat_map (lots_named item) es in
    sym (looked (ranked_lots One es item))
    ∙ ap (map (λ (c : ℕ × List ℕ). c.1)) (in_order_part counted counted_before since_before (λ a b. refl) (map (λ lot. record { expiry = expiry es item lot; since = since es item lot; lot = lot }) named)
    ∙ ap (in_order since_before) (each named))
  where
    looked : (ks : List Ranked) → map (λ (c : ℕ × List ℕ). c.1) (map counted ks) ≡ map (λ (k : Ranked). k.lot) ks
    looked [] = refl
    looked (k ∷ ks) = ap (λ ls. k.lot ∷ ls) (looked ks)

    each : (ls : List (List ℕ)) → map counted (map (λ lot. record { expiry = expiry es item lot; since = since es item lot; lot = lot }) ls) ≡ map (λ lot. (since es item lot, lot)) ls
    each [] = refl
    each (l ∷ ls) = ap (λ cs. (since es item l, l) ∷ cs) (each ls)

-- a line without an expiry has no other one than its pair
none_redated : (known : List ℕ → List ℕ → Option (List ℕ)) (ls : List AdviceLine) → list_all (λ (l : AdviceLine). is_none l.expiry) ls ≡ true → find (is_redated known) ls ≡ None
none_redated known [] h = refl
none_redated known (l ∷ ls) h =
    let p = both_parts (is_none l.expiry) (list_all (λ (l : AdviceLine). is_none l.expiry) ls) h in
    let same : is_redated known l ≡ false = by_date (known l.line.item l.line.lot) l.expiry p.0 in
    rw same (none_redated known ls p.1)
  where
    by_date : (k date : Option (List ℕ)) → is_none date ≡ true → is_other_date k date ≡ false
    by_date None date e = refl
    by_date (Some k) None e = refl
    by_date (Some k) (Some date) e = absurd (cc)

sooner_none : (o : Option SetFault) → sooner o None ≡ o
sooner_none None = refl
sooner_none (Some f) = refl

pub fault-first : (es : List Event) (a : Advice) → list_all (λ (l : AdviceLine). is_none l.expiry) a.lines ≡ true → advice_fault es a ≡ undated_fault es a
fault-first es a h =
    let none : redated_pair (expiry es) a ≡ None = ap (option_map (λ (l : AdviceLine). trade_fault _ (l.position + 1) 4)) (none_redated (expiry es) a.lines h) in
    ap (λ (o : Option SetFault). first_present
    (fault_where (is_some (advice_under a.shipment es)) (trade_fault (codes "W06") 2 4) ∷ o ∷ wrong_advice_total a ∷ []))
    (ap (sooner (repeated_pair a)) none ∙ sooner_none (repeated_pair a))
