-- What the segments of a set without a fault have: numbers where their rows say so.
use Rattle.std.proofs.Common.{◌≡◌, ℕ, suc, ◌+◌, ◌≤◌, Bool, true, false, not, List, [], ◌∷◌, length, refl, sym, ◌∙◌, ap, Some, None, Option, option_map, arith, get_or, add-zero, zero}
use Rattle.std.proofs.lemmas.List.{get_or-drop}
use Rattle.std.proofs.lemmas.Option.{unwrap_or-slice_get}
use Rattle.std.specs.Prelude.{find}
use Rattle.std.specs.Prelude.{codes, if◌then◌else◌, unwrap_or, slice_get, drop, nat_lt, ◌==◌, ◌&&◌, option_and_then}
use Rattle.std.specs.List.{list_all, AllByRecursion}
use Rattle.std.proofs.lemmas.Slice.Eq.{bytes_eq-Decides}
use borrow.Author.Tests.{ltb-false}
use Rattle.definitions.specs.declared.rules.Rules.{Rules}
use Rattle.definitions.specs.Bytes.{Delims, is_digit}
use Rattle.definitions.specs.Lists.{or_else}
use Rattle.definitions.specs.Cut.{Segment, element, id_of, has_id, segment_with}
use Rattle.definitions.specs.Elements.{ElementRow, Kind, Quantity, Digits, Alphanumeric, element_fault, least_element_fault, faulty_element, must, goods_rows, quantity_digits, advice_total_digits, order_total_digits, ElementFault, takes}
use Rattle.definitions.specs.Words.{Words, has_word, words_after}
use Rattle.definitions.specs.Faults.{SetFault, fault_at, fault_from, inner_fault, place_fault, rows_after}
use Rattle.sets_in.specs.Amounts.{IsAmount, HasAmount, HaveAmounts}

-- no element of the segment is faulty, after some other
abbrev IsGood : Rules → Delims → Segment → Type 0
IsGood r d s = (after : List ℕ) × (option_and_then (λ rows. faulty_element d rows s) (rows_after r after (id_of s)) ≡ None)

abbrev told_inner : Segment → ℕ → ElementFault → SetFault
told_inner s position f = record { id = id_of s; position = position; code = 8; element = Some f }

no_inner : (r : Rules) (d : Delims) (after : List ℕ) (position : ℕ) (s : Segment) → inner_fault r d after position s ≡ None
    → option_and_then (λ rows. faulty_element d rows s) (rows_after r after (id_of s)) ≡ None
no_inner r d after position s h = by_fault (option_and_then (λ rows. faulty_element d rows s) (rows_after r after (id_of s))) h
  where
    by_fault : (o : Option ElementFault) → option_map (told_inner s position) o ≡ None → o ≡ None
    by_fault None e = refl
    by_fault (Some f) e = absurd (cc)

in_place : (r : Rules) (d : Delims) (words rest : Words) (after : List ℕ) (position : ℕ) (s : Segment) → fault_at r d words rest after position s ≡ None
    → (has_word (words_after (id_of s) rest) ≡ true) × (inner_fault r d after position s ≡ None)
in_place r d words rest after position s h = by_test (has_word (words_after (id_of s) rest)) refl h
  where
    by_test : (b : Bool) → has_word (words_after (id_of s) rest) ≡ b
        → (if b then inner_fault r d after position s else Some (place_fault r words rest position (id_of s))) ≡ None
        → (has_word (words_after (id_of s) rest) ≡ true) × (inner_fault r d after position s ≡ None)
    by_test true t e = (t, e)
    by_test false t e = absurd (cc)

pub both_none : {X : Type 0} (a b : Option X) → or_else a b ≡ None → (a ≡ None) × (b ≡ None)
both_none None b h = (refl, h)
both_none (Some x) b h = absurd (cc)

-- each segment is in its place and good
pub from_parts : (r : Rules) (d : Delims) (words rest : Words) (after : List ℕ) (position : ℕ) (s : Segment) (ss : List Segment) → fault_from r d words rest after position (s ∷ ss) ≡ None
    → (has_word (words_after (id_of s) rest) ≡ true) × (inner_fault r d after position s ≡ None) × (fault_from r d words (words_after (id_of s) rest) (id_of s) (position + 1) ss ≡ None)
from_parts r d words rest after position s ss h =
    let p = both_none (fault_at r d words rest after position s) (fault_from r d words (words_after (id_of s) rest) (id_of s) (position + 1) ss) h in
    let q = in_place r d words rest after position s p.0 in (q.0, q.1, p.1)

all_good : (r : Rules) (d : Delims) (words rest : Words) (after : List ℕ) (position : ℕ) (ss : List Segment) → fault_from r d words rest after position ss ≡ None → AllByRecursion (IsGood r d) ss
all_good r d words rest after position [] h = tt
all_good r d words rest after position (s ∷ ss) h = let p = from_parts r d words rest after position s ss h in
    ((after, no_inner r d after position s p.1), all_good r d words (words_after (id_of s) rest) (id_of s) (position + 1) ss p.2)

-- an element whose row wants digits is a number

pub taken : {X : Type 0} (b : Bool) (x : X) (rest : Option X) → (if b then Some x else rest) ≡ None → (b ≡ false) × (rest ≡ None)
taken true x rest h = absurd (cc)
taken false x rest h = (refl, h)

passed : {X : Type 0} (b : Bool) (rest : Option X) → b ≡ false → (if b then None else rest) ≡ None → rest ≡ None
passed true rest e h = absurd (cc)
passed false rest e h = h

and_true : (b : Bool) → (b && true) ≡ false → b ≡ false
and_true true h = h
and_true false h = refl

pub not_false : (b : Bool) → not b ≡ false → b ≡ true
not_false true h = refl
not_false false h = absurd (cc)

all_same : (f g : ℕ → Bool) (e : List ℕ) → ((b : ℕ) → f b ≡ g b) → list_all f e ≡ list_all g e
all_same f g [] same = refl
all_same f g (b ∷ bs) same = rw (same b, all_same f g bs same) refl

pub amount_of : (d : Delims) (kind : Kind) (most : ℕ) (e : List ℕ) → ((b : ℕ) → takes d kind b ≡ is_digit b) → element_fault d (must kind 1 most) e ≡ None → IsAmount most e
amount_of d kind most e same h =
    let p0 = taken (length e == 0 && true) 1 _ h in
    let p1 = passed (length e == 0) _ (and_true (length e == 0) p0.0) p0.1 in
    let p2 = taken (nat_lt most (length e)) 5 _ p1 in
    let p3 = taken (nat_lt (length e) 1) 4 _ p2.1 in
    let p4 = taken (not (list_all (takes d kind) e)) 6 _ p3.1 in
    record {
      short = ltb-false most (length e) p2.0;
      digits = sym (all_same (takes d kind) is_digit e same) ∙ not_false (list_all (takes d kind) e) p4.0;
    }

-- elements by their rows

element_after : (s : Segment) (i : ℕ) → unwrap_or (slice_get (drop i s) 0) [] ≡ element s i
element_after s i = unwrap_or-slice_get (drop i s) 0 [] ∙ get_or-drop i s 0 [] ∙ ap (λ n. get_or s n []) (add-zero i) ∙ sym (unwrap_or-slice_get s i [])

two_after : (s : Segment) → drop 1 (drop 1 s) ≡ drop 2 s
two_after [] = refl
two_after (x ∷ []) = refl
two_after (x ∷ y ∷ s) = refl

abbrev at_place : ℕ → ℕ → ElementFault
at_place place code = record { place = place; code = code }

no_code : (place : ℕ) (o : Option ℕ) → option_map (at_place place) o ≡ None → o ≡ None
no_code place None h = refl
no_code place (Some c) h = absurd (cc)

pub first_row : (d : Delims) (row : ElementRow) (rows : List ElementRow) (s : Segment) → faulty_element d (row ∷ rows) s ≡ None → element_fault d row (element s 1) ≡ None
first_row d row rows s h =
    let p = both_none _ (least_element_fault d 2 rows (drop 1 (drop 1 s))) h in
    ap (λ (e : List ℕ). element_fault d row e) (sym (element_after s 1)) ∙ no_code 1 _ p.0

second_row : (d : Delims) (row next : ElementRow) (rows : List ElementRow) (s : Segment) → faulty_element d (row ∷ next ∷ rows) s ≡ None → element_fault d next (element s 2) ≡ None
second_row d row next rows s h =
    let p = both_none _ (least_element_fault d 2 (next ∷ rows) (drop 1 (drop 1 s))) h in
    let q = both_none _ (least_element_fault d 3 rows (drop 1 (drop 1 (drop 1 s)))) p.1 in
    ap (λ (e : List ℕ). element_fault d next e) (sym (element_after s 2) ∙ ap (λ (es : Segment). unwrap_or (slice_get es 0) []) (sym (two_after s))) ∙ no_code 2 _ q.0

-- by their ids

rows_good : (r : Rules) (d : Delims) (id : List ℕ) (rows : List ElementRow) (s : Segment) → ((after : List ℕ) → rows_after r after id ≡ Some rows) → IsGood r d s → has_id id s ≡ true → faulty_element d rows s ≡ None
rows_good r d id rows s found g t =
    let same : id_of s ≡ id = (bytes_eq-Decides (id_of s) id).0 t in
    ap (λ (o : Option (List ElementRow)). option_and_then (λ rows. faulty_element d rows s) o) (sym (ap (λ (x : List ℕ). rows_after r g.0 x) same ∙ found g.0)) ∙ g.1

goods_amount : (r : Rules) (d : Delims) (s : Segment) → IsGood r d s → HasAmount (codes "W04") 1 (quantity_digits r) s
goods_amount r d s g = λ t. amount_of d Quantity (quantity_digits r) (element s 1) (λ b. refl) (first_row d (must Quantity 1 (quantity_digits r)) (drop 1 (goods_rows r)) s (rows_good r d (codes "W04") (goods_rows r) s (λ after. refl) g t))

ordered_amount : (r : Rules) (d : Delims) (s : Segment) → IsGood r d s → HasAmount (codes "W01") 1 (quantity_digits r) s
ordered_amount r d s g = λ t. amount_of d Quantity (quantity_digits r) (element s 1) (λ b. refl) (first_row d (must Quantity 1 (quantity_digits r)) (drop 1 (goods_rows r)) s (rows_good r d (codes "W01") (goods_rows r) s (λ after. refl) g t))

advised_total : (r : Rules) (d : Delims) (s : Segment) → IsGood r d s → HasAmount (codes "W03") 1 (advice_total_digits r) s
advised_total r d s g = λ t. amount_of d Quantity (advice_total_digits r) (element s 1) (λ b. refl) (first_row d (must Quantity 1 (advice_total_digits r)) [] s (rows_good r d (codes "W03") (must Quantity 1 (advice_total_digits r) ∷ []) s (λ after. refl) g t))

ordered_total : (r : Rules) (d : Delims) (s : Segment) → IsGood r d s → HasAmount (codes "W76") 1 (order_total_digits r) s
ordered_total r d s g = λ t. amount_of d Quantity (order_total_digits r) (element s 1) (λ b. refl) (first_row d (must Quantity 1 (order_total_digits r)) [] s (rows_good r d (codes "W76") (must Quantity 1 (order_total_digits r) ∷ []) s (λ after. refl) g t))

document_number : (r : Rules) (d : Delims) (s : Segment) → IsGood r d s → HasAmount (codes "AK1") 2 9 s
document_number r d s g = λ t. amount_of d Digits 9 (element s 2) (λ b. refl)
    (second_row d (must Alphanumeric 2 2) (must Digits 1 9) [] s (rows_good r d (codes "AK1") (must Alphanumeric 2 2 ∷ must Digits 1 9 ∷ []) s (λ after. refl) g t))

all_so : {P Q : Segment → Type 0} → ((s : Segment) → P s → Q s) → (ss : List Segment) → AllByRecursion P ss → AllByRecursion Q ss
all_so f [] h = tt
all_so f (s ∷ ss) h = (f s h.0, all_so f ss h.1)

abbrev Passes : Rules → Delims → Words → List Segment → Type 0
Passes r d words ss = fault_from r d words words [] 1 ss ≡ None

pub goods_amounts : (r : Rules) (d : Delims) (words : Words) (ss : List Segment) → Passes r d words ss → HaveAmounts (codes "W04") 1 (quantity_digits r) ss
goods_amounts r d words ss h = all_so (goods_amount r d) ss (all_good r d words words [] 1 ss h)

pub ordered_amounts : (r : Rules) (d : Delims) (words : Words) (ss : List Segment) → Passes r d words ss → HaveAmounts (codes "W01") 1 (quantity_digits r) ss
ordered_amounts r d words ss h = all_so (ordered_amount r d) ss (all_good r d words words [] 1 ss h)

pub advised_totals : (r : Rules) (d : Delims) (words : Words) (ss : List Segment) → Passes r d words ss → HaveAmounts (codes "W03") 1 (advice_total_digits r) ss
advised_totals r d words ss h = all_so (advised_total r d) ss (all_good r d words words [] 1 ss h)

pub ordered_totals : (r : Rules) (d : Delims) (words : Words) (ss : List Segment) → Passes r d words ss → HaveAmounts (codes "W76") 1 (order_total_digits r) ss
ordered_totals r d words ss h = all_so (ordered_total r d) ss (all_good r d words words [] 1 ss h)

pub document_numbers : (r : Rules) (d : Delims) (words : Words) (ss : List Segment) → Passes r d words ss → HaveAmounts (codes "AK1") 2 9 ss
document_numbers r d words ss h = all_so (document_number r d) ss (all_good r d words words [] 1 ss h)

-- numbers at places, and of the first segment with an id

pub amount_at : (id : List ℕ) (place most : ℕ) (ss : List Segment) (i : ℕ) → HaveAmounts id place most ss → has_id id (unwrap_or (slice_get ss i) []) ≡ true → IsAmount most (element (unwrap_or (slice_get ss i) []) place)
amount_at id place most [] i h t = record { short = omega arith; digits = refl }
amount_at id place most (s ∷ ss) zero h t = h.0 t
amount_at id place most (s ∷ ss) (suc i) h t = amount_at id place most ss i h.1 t

pub amount_with : (id : List ℕ) (place most : ℕ) (ss : List Segment) → HaveAmounts id place most ss → IsAmount most (element (segment_with id ss) place)
amount_with id place most [] h = record { short = omega arith; digits = refl }
amount_with id place most (s ∷ ss) h = by_test (has_id id s) refl (amount_with id place most ss h.1)
  where
    by_test : (b : Bool) → has_id id s ≡ b → IsAmount most (element (segment_with id ss) place) → IsAmount most (element (unwrap_or (if b then Some s else find (has_id id) ss) []) place)
    by_test true t k = h.0 t
    by_test false t k = k

pub wider : (n m : ℕ) (e : List ℕ) → n ≤ m → IsAmount n e → IsAmount m e
wider n m e h a = record { short = omega arith; digits = a.digits }
