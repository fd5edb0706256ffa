-- What segments name, and that it is all that the sets among them say.
use Rattle.std.proofs.Common.{◌≡◌, ◌&&◌, drop, zero, suc, option_map, le-leb, ltb-false, eq-eqb, ℕ, ◌+◌, ◌-◌, Bool, true, false, not, cond, ◌||◌, List, [], ◌∷◌, ◌++◌, map, length, refl, sym, ap, ◌∙◌, subst, arith, Some, None, Option, unwrap_or, bytes_eq, codes, append_assoc, length-append}
use Rattle.std.specs.Prelude.{◌==◌, nat_lt, nat_le, option_and_then, filter, find, flat_map, slice_get, option_to_list}
use Rattle.std.specs.List.{list_all, enumerate_from}
use Rattle.std.specs.Cmp.Derive.{both_true}
use Rattle.std.proofs.lemmas.List.Concat.{flat_map-cons}
use Rattle.definitions.specs.declared.rules.Rules.{Rules}
use Rattle.definitions.specs.Bytes.{Delims, is_digit, is_number, is_one_of, value}
use Rattle.definitions.specs.declared.widths.TheConstants.{CONTROL_DIGITS, FUNCTION_BYTES}
use Rattle.definitions.specs.Elements.{Alphanumeric, Digits, must, element_fault, faulty_element}
use Rattle.definitions.specs.Lists.{first_of, or_else}
use Rattle.definitions.specs.Cut.{cut, Segment, element, id_of, has_id, segment_with, places_of, last_segment}
use Rattle.definitions.specs.Header.{delims_of, is_unreadable}
use Rattle.definitions.specs.Words.{Words, Never, Empty, One, Then, kind_words, kind_number, has_word, words_after, or_words, then_words}
use Rattle.definitions.specs.declared.set_kind.SetKind.{SetKind}
use Rattle.definitions.specs.declared.set_kind.SetKind.TheVariants.{ShippingOrder, ShipmentAdvice, FunctionalAcknowledgment}
use Rattle.definitions.specs.Faults.{rows_after, inner_fault, place_fault, fault_at, fault_from, set_fault}
use Rattle.definitions.specs.Structure.{Set, Group, groups_of, group_segments, head_of, envelope_fault}
use Rattle.definitions.specs.Means.{AdviceLine, advice_line, segment_at, advice_of, OrderLine, order_line, order_of, acknowledgment_of}
use Rattle.definitions.specs.Halt.{structure_note}
use Rattle.definitions.specs.Need.{Need, number_in, nothing, all_together, is_number_of, need_of_segment, need_of_segments, need_of_text}
use Rattle.definitions.proofs.TextLaws.{text_is}
use Rattle.definitions.proofs.FaultsLaws.{set_fault-from}
use Rattle.definitions.proofs.PartsLaws.{parts_together}
use Rattle.definitions.proofs.NeedLaws.{Within, alone, in_left, in_right, number_left, number_right, or_left, or_right, within_itself, within_left, within_right, within_both, within_nothing}

-- ---- items

named_if : (b : Bool) (t : List ℕ) → b ≡ true → is_one_of (cond b (t ∷ []) []) t ≡ true
named_if true t h = alone t
named_if false t h = absurd (cc)

get_at : (before : List Segment) (s : Segment) (ss : List Segment) → slice_get (before ++ s ∷ ss) (length before) ≡ Some s
get_at [] s ss = refl
get_at (b ∷ bs) s ss = get_at bs s ss

abbrev positions : List ℕ → ℕ → List Segment → List ℕ
positions id n xs = map (λ (p : ℕ × Segment). p.0) (filter (λ (p : ℕ × Segment). has_id id p.1) (enumerate_from n xs))

-- the segments at the places of an id are those with it
segments_at : (id : List ℕ) (before ss : List Segment) → map (segment_at (before ++ ss)) (positions id (length before + 1) ss) ≡ filter (has_id id) ss
segments_at id before [] = refl
segments_at id before (s ∷ ss) = by_test (has_id id s) refl (rest (segments_at id (before ++ s ∷ []) ss))
  where
    rest : map (segment_at ((before ++ s ∷ []) ++ ss)) (positions id (length (before ++ s ∷ []) + 1) ss) ≡ filter (has_id id) ss
        → map (segment_at (before ++ s ∷ ss)) (positions id ((length before + 1) + 1) ss) ≡ filter (has_id id) ss
    rest more =
        let size : (length before + 1) + 1 ≡ length (before ++ s ∷ []) + 1 = omega (arith, length-append before (s ∷ [])) in
        ap (λ n. map (segment_at (before ++ s ∷ ss)) (positions id n ss)) size
        ∙ ap (λ xs. map (segment_at xs) (positions id (length (before ++ s ∷ []) + 1) ss)) (sym (append_assoc before (s ∷ []) ss))
        ∙ more

    here : segment_at (before ++ s ∷ ss) (length before + 1) ≡ s
    here =
        let place : length before + 1 - 1 ≡ length before = omega arith in
        ap (λ k. unwrap_or (slice_get (before ++ s ∷ ss) k) []) place ∙ ap (λ o. unwrap_or o []) (get_at before s ss)

    by_test : (b : Bool) → has_id id s ≡ b → map (segment_at (before ++ s ∷ ss)) (positions id ((length before + 1) + 1) ss) ≡ filter (has_id id) ss
        → map (segment_at (before ++ s ∷ ss)) (positions id (length before + 1) (s ∷ ss)) ≡ filter (has_id id) (s ∷ ss)
    by_test true e more = rw e (λ i. here i ∷ more i)
    by_test false e more = rw e more

abbrev item_in : Segment → List ℕ
item_in s = element s 5

-- an id whose segments name items
abbrev NamesItems : List ℕ → Type 0
NamesItems id = (s : Segment) → has_id id s ≡ true → (has_id (codes "W04") s || has_id (codes "W01") s) ≡ true

items_with : (id : List ℕ) → NamesItems id → (ss : List Segment) (t : List ℕ) → is_one_of (map item_in (filter (has_id id) ss)) t ≡ true → is_one_of (need_of_segments ss).items t ≡ true
items_with id names [] t h = h
items_with id names (s ∷ ss) t h = step (has_id id s) refl h (items_with id names ss t)
  where
    others : List (List ℕ)
    others = map item_in (filter (has_id id) ss)

    by_first : has_id id s ≡ true → (b : Bool) → bytes_eq t (item_in s) ≡ b → (b || is_one_of others t) ≡ true → (is_one_of others t ≡ true → is_one_of (need_of_segments ss).items t ≡ true)
        → is_one_of (need_of_segments (s ∷ ss)).items t ≡ true
    by_first e true f k more = in_left (need_of_segment s).items (need_of_segments ss).items t
        (ap (is_one_of (need_of_segment s).items) (text_is t (item_in s) f) ∙ named_if (has_id (codes "W04") s || has_id (codes "W01") s) (item_in s) (names s e))
    by_first e false f k more = in_right (need_of_segment s).items (need_of_segments ss).items t (more k)

    step : (b : Bool) → has_id id s ≡ b → is_one_of (map item_in (cond b (s ∷ filter (has_id id) ss) (filter (has_id id) ss))) t ≡ true
        → (is_one_of others t ≡ true → is_one_of (need_of_segments ss).items t ≡ true) → is_one_of (need_of_segments (s ∷ ss)).items t ≡ true
    step true e k more = by_first e (bytes_eq t (item_in s)) refl k more
    step false e k more = in_right (need_of_segment s).items (need_of_segments ss).items t (more k)

mapped : {X Y Z : Type 0} (f : Y → Z) (g : X → Y) (xs : List X) → map f (map g xs) ≡ map (λ x. f (g x)) xs
mapped f g [] = refl
mapped f g (x ∷ xs) = ap (λ ys. f (g x) ∷ ys) (mapped f g xs)

abbrev pub line_item : AdviceLine → List ℕ
line_item l = l.line.item

abbrev pub order_item : OrderLine → List ℕ
order_item l = l.item

-- the items of an advice and of an order are named
pub advice_items : (ss : List Segment) (t : List ℕ) → is_one_of (map line_item (advice_of ss).lines) t ≡ true → is_one_of (need_of_segments ss).items t ≡ true
advice_items ss t h =
    let places = places_of (codes "W04") ss in
    let same : map line_item (map (advice_line ss) places) ≡ map item_in (filter (has_id (codes "W04")) ss) =
    mapped line_item (advice_line ss) places ∙ sym (mapped item_in (segment_at ss) places) ∙ ap (map item_in) (segments_at (codes "W04") [] ss) in
    items_with (codes "W04") (λ s e. or_left (has_id (codes "W04") s) (has_id (codes "W01") s) e) ss t (ap (λ xs. is_one_of xs t) (sym same) ∙ h)

pub order_items : (ss : List Segment) (t : List ℕ) → is_one_of (map order_item (order_of ss).lines) t ≡ true → is_one_of (need_of_segments ss).items t ≡ true
order_items ss t h =
    let places = places_of (codes "W01") ss in
    let same : map order_item (map (order_line ss) places) ≡ map item_in (filter (has_id (codes "W01")) ss) =
    mapped order_item (order_line ss) places ∙ sym (mapped item_in (segment_at ss) places) ∙ ap (map item_in) (segments_at (codes "W01") [] ss) in
    items_with (codes "W01") (λ s e. or_right (has_id (codes "W04") s) (has_id (codes "W01") s) e) ss t (ap (λ xs. is_one_of xs t) (sym same) ∙ h)

-- ---- the second segment

or_else_none : {X : Type 0} (a b : Option X) → or_else a b ≡ None → (a ≡ None) × (b ≡ None)
or_else_none None b h = (refl, h)
or_else_none (Some x) b h = absurd (cc)

in_place : (r : Rules) (d : Delims) (words rest : Words) (previous : List ℕ) (position : ℕ) (s : Segment) → fault_at r d words rest previous position s ≡ None
    → has_word (words_after (id_of s) rest) ≡ true
in_place r d words rest previous position s h = by_test (has_word (words_after (id_of s) rest)) refl
  where
    by_test : (b : Bool) → has_word (words_after (id_of s) rest) ≡ b → has_word (words_after (id_of s) rest) ≡ true
    by_test true e = e
    by_test false e =
        let out : Some (place_fault r words rest position (id_of s)) ≡ None =
        ap (λ b. cond b (inner_fault r d previous position s) (Some (place_fault r words rest position (id_of s)))) (sym e) ∙ h in
        absurd (cc)

-- after an id that is wanted alone
one_wanted : (x : List ℕ) (w : Words) (id : List ℕ) → has_word (words_after id (Then (One x) w)) ≡ true → bytes_eq id x ≡ true
one_wanted x w id h = by_test (bytes_eq id x) refl
  where
    by_test : (b : Bool) → bytes_eq id x ≡ b → bytes_eq id x ≡ true
    by_test true e = e
    by_test false e =
        let none : false ≡ true = ap (λ b. has_word (or_words (then_words (cond b Empty Never) w) Never)) (sym e) ∙ h in
        absurd (cc)

after_one : (x : List ℕ) (w : Words) (id : List ℕ) → bytes_eq id x ≡ true → words_after id (Then (One x) w) ≡ or_words w Never
after_one x w id e = ap (λ b. or_words (then_words (cond b Empty Never) w) Never) e

-- a set without fault begins with the two ids that are wanted first
begins_with : (r : Rules) (d : Delims) (all w : Words) (x y : List ℕ) (a b : Segment) (more : List Segment) → fault_from r d all (Then (One x) (Then (One y) w)) [] 1 (a ∷ b ∷ more) ≡ None
    → (has_id x a ≡ true) × (has_id y b ≡ true)
begins_with r d all w x y a b more h =
    let first = or_else_none (fault_at r d all (Then (One x) (Then (One y) w)) [] 1 a) _ h in
    let is_x = one_wanted x (Then (One y) w) (id_of a) (in_place r d all (Then (One x) (Then (One y) w)) [] 1 a first.0) in
    let left = after_one x (Then (One y) w) (id_of a) is_x in
    let later : fault_from r d all (Then (One y) w) (id_of a) 2 (b ∷ more) ≡ None = ap (λ ws. fault_from r d all ws (id_of a) 2 (b ∷ more)) (sym left) ∙ first.1 in
    let second = or_else_none (fault_at r d all (Then (One y) w) (id_of a) 2 b) _ later in
    (is_x, one_wanted y w (id_of b) (in_place r d all (Then (One y) w) (id_of a) 2 b second.0))

-- the id that stands after ST
abbrev pub second_id : SetKind → List ℕ
second_id ShippingOrder = codes "W05"
second_id ShipmentAdvice = codes "W06"
second_id FunctionalAcknowledgment = codes "AK1"

pub begins_set : (r : Rules) (d : Delims) (kind : SetKind) (a b : Segment) (more : List Segment) → set_fault r d (kind_words r kind) (a ∷ b ∷ more) ≡ None
    → (has_id (codes "ST") a ≡ true) × (has_id (second_id kind) b ≡ true)
begins_set r d ShippingOrder a b more h = begins_with r d (kind_words r ShippingOrder) _ (codes "ST") (codes "W05") a b more (sym (set_fault-from r d (kind_words r ShippingOrder) (a ∷ b ∷ more)) ∙ h)
begins_set r d ShipmentAdvice a b more h = begins_with r d (kind_words r ShipmentAdvice) _ (codes "ST") (codes "W06") a b more (sym (set_fault-from r d (kind_words r ShipmentAdvice) (a ∷ b ∷ more)) ∙ h)
begins_set r d FunctionalAcknowledgment a b more h =
    begins_with r d (kind_words r FunctionalAcknowledgment) _ (codes "ST") (codes "AK1") a b more (sym (set_fault-from r d (kind_words r FunctionalAcknowledgment) (a ∷ b ∷ more)) ∙ h)

-- a set whose envelope has no fault has two segments at least
pub record TwoAtLeast (ss : List Segment) : Type 0 where
  pub first : Segment
  pub second : Segment
  pub more : List Segment
  pub parts : ss ≡ first ∷ second ∷ more

envelope_tests : (a b c e f : Bool) → first_of {X = Option ℕ} None ((a, Some 2) ∷ (b, Some 1) ∷ (c, Some 7) ∷ (e, Some 3) ∷ (f, Some 4) ∷ []) ≡ None → (b ≡ false) × (f ≡ false)
envelope_tests true b c e f h = absurd (cc)
envelope_tests false true c e f h = absurd (cc)
envelope_tests false false true e f h = absurd (cc)
envelope_tests false false false true f h = absurd (cc)
envelope_tests false false false false true h = absurd (cc)
envelope_tests false false false false false h = (refl, refl)

no_number : (kind : SetKind) → bytes_eq (kind_number kind) [] ≡ false
no_number ShippingOrder = refl
no_number ShipmentAdvice = refl
no_number FunctionalAcknowledgment = refl

not_one : (kind : SetKind) → (value (kind_number kind) == 1) ≡ false
not_one ShippingOrder = refl
not_one ShipmentAdvice = refl
not_one FunctionalAcknowledgment = refl

is_kept : (b : Bool) → not (b || false) ≡ false → b ≡ true
is_kept true h = refl
is_kept false h = absurd (cc)

not_false : (b : Bool) → not b ≡ false → b ≡ true
not_false true h = refl
not_false false h = absurd (cc)

two_at_least : (kind : SetKind) (ss : List Segment) → bytes_eq (kind_number kind) (element (unwrap_or (slice_get ss 0) []) 1) ≡ true
    → (value (element (last_segment ss) 1) == length ss) ≡ true → TwoAtLeast ss
two_at_least kind [] h k = let none : false ≡ true = sym (no_number kind) ∙ h in absurd (cc)
two_at_least kind (a ∷ []) h k =
    let number : kind_number kind ≡ element a 1 = text_is (kind_number kind) (element a 1) h in
    let one : false ≡ true = sym (not_one kind) ∙ ap (λ t. value t == 1) number ∙ k in
    absurd (cc)
two_at_least kind (a ∷ b ∷ more) h k = record { first = a; second = b; more = more; parts = refl }

pub two_segments : (kind : SetKind) (earlier : List (List ℕ)) (s : Set) → envelope_fault (Some kind) earlier s ≡ None → TwoAtLeast s.segments
two_segments kind earlier s h =
    let p = envelope_tests _ _ _ _ _ h in
    two_at_least kind s.segments (is_kept (bytes_eq (kind_number kind) (element (head_of s) 1)) p.0)
    (not_false (value (element (last_segment s.segments) 1) == length s.segments) p.1)

-- ---- numbers

-- the first segment with the id is the second
second_found : (id : List ℕ) (a b : Segment) (more : List Segment) → bytes_eq (codes "ST") id ≡ false → has_id (codes "ST") a ≡ true → has_id id b ≡ true
    → segment_with id (a ∷ b ∷ more) ≡ b
second_found id a b more other e f =
    let not_first : has_id id a ≡ false = ap (λ x. bytes_eq x id) (text_is (id_of a) (codes "ST") e) ∙ other in
    λ i. unwrap_or (cond (not_first i) (Some a) (cond (f i) (Some b) (find (has_id id) more))) []

pub shipment_named : (r : Rules) (d : Delims) (ss : List Segment) → TwoAtLeast ss → set_fault r d (kind_words r ShipmentAdvice) ss ≡ None
    → is_one_of (need_of_segments ss).shipments (advice_of ss).shipment ≡ true
shipment_named r d ss two h =
    let a = two.first in
    let b = two.second in
    let begins = begins_set r d ShipmentAdvice a b two.more (ap (set_fault r d (kind_words r ShipmentAdvice)) (sym two.parts) ∙ h) in
    ap (λ xs. is_one_of (need_of_segments xs).shipments (element (segment_with (codes "W06") xs) 4)) two.parts
    ∙ ap (λ s. is_one_of (need_of_segments (a ∷ b ∷ two.more)).shipments (element s 4)) (second_found (codes "W06") a b two.more refl begins.0 begins.1)
    ∙ in_right (need_of_segment a).shipments (need_of_segments (b ∷ two.more)).shipments (element b 4)
    (in_left (need_of_segment b).shipments (need_of_segments two.more).shipments (element b 4) (named_if (has_id (codes "W06") b) (element b 4) begins.1))

pub order_named : (r : Rules) (d : Delims) (ss : List Segment) → TwoAtLeast ss → set_fault r d (kind_words r ShippingOrder) ss ≡ None
    → is_one_of (need_of_segments ss).orders (order_of ss).number ≡ true
order_named r d ss two h =
    let a = two.first in
    let b = two.second in
    let begins = begins_set r d ShippingOrder a b two.more (ap (set_fault r d (kind_words r ShippingOrder)) (sym two.parts) ∙ h) in
    ap (λ xs. is_one_of (need_of_segments xs).orders (element (segment_with (codes "W05") xs) 2)) two.parts
    ∙ ap (λ s. is_one_of (need_of_segments (a ∷ b ∷ two.more)).orders (element s 2)) (second_found (codes "W05") a b two.more refl begins.0 begins.1)
    ∙ in_right (need_of_segment a).orders (need_of_segments (b ∷ two.more)).orders (element b 2)
    (in_left (need_of_segment b).orders (need_of_segments two.more).orders (element b 2) (named_if (has_id (codes "W05") b) (element b 2) begins.1))

-- ---- documents

-- a segment in place without fault
inner_none : (r : Rules) (d : Delims) (words rest : Words) (previous : List ℕ) (position : ℕ) (s : Segment) → fault_at r d words rest previous position s ≡ None
    → inner_fault r d previous position s ≡ None
inner_none r d words rest previous position s h =
    ap (λ b. cond b (inner_fault r d previous position s) (Some (place_fault r words rest position (id_of s)))) (sym (in_place r d words rest previous position s h)) ∙ h

acknowledgment_inner : (r : Rules) (d : Delims) (a b : Segment) (more : List Segment) → has_id (codes "ST") a ≡ true
    → set_fault r d (kind_words r FunctionalAcknowledgment) (a ∷ b ∷ more) ≡ None → inner_fault r d (id_of a) 2 b ≡ None
acknowledgment_inner r d a b more e h =
    let all = kind_words r FunctionalAcknowledgment in
    let first = or_else_none (fault_at r d all all [] 1 a) _ (sym (set_fault-from r d all (a ∷ b ∷ more)) ∙ h) in
    let second = or_else_none (fault_at r d all (words_after (id_of a) all) (id_of a) 2 b) _ first.1 in
    inner_none r d all (words_after (id_of a) all) (id_of a) 2 b second.0

mapped_none : {X Y : Type 0} (f : X → Y) (o : Option X) → option_map f o ≡ None → o ≡ None
mapped_none f None h = refl
mapped_none f (Some x) h = absurd (cc)

digits_of : (v : Option ℕ) (a b c e f : Bool) → first_of v ((a, Some 1) ∷ (b, None) ∷ (c, Some 5) ∷ (e, Some 4) ∷ (not f, Some 6) ∷ []) ≡ None
    → a ≡ b → (b ≡ false) × (c ≡ false) × (f ≡ true)
digits_of v true b c e f h k = absurd (cc)
digits_of v false true c e f h k = absurd (cc)
digits_of v false false true e f h k = absurd (cc)
digits_of v false false false true f h k = absurd (cc)
digits_of v false false false false true h k = (refl, refl, refl)
digits_of v false false false false false h k = absurd (cc)

same_and : (b : Bool) → (b && true) ≡ b
same_and true = refl
same_and false = refl

third : (b : Segment) → unwrap_or (slice_get (drop 1 (drop 1 b)) 0) [] ≡ element b 2
third [] = refl
third (x ∷ []) = refl
third (x ∷ y ∷ []) = refl
third (x ∷ y ∷ z ∷ more) = refl

not_empty : (n : ℕ) → (n == 0) ≡ false → nat_lt 0 n ≡ true
not_empty zero h = absurd (cc)
not_empty (suc n) h = by_test (nat_lt 0 (suc n)) refl
  where
    by_test : (b : Bool) → nat_lt 0 (suc n) ≡ b → nat_lt 0 (suc n) ≡ true
    by_test true e = e
    by_test false e = absurd (omega (arith, ltb-false 0 (suc n) e))

-- digits without fault are a number of a document
number_good : (d : Delims) (t : List ℕ) → element_fault d (must Digits 1 CONTROL_DIGITS) t ≡ None → (is_number t && nat_le (length t) CONTROL_DIGITS) ≡ true
number_good d t h =
    let p = digits_of None (length t == 0 && true) (length t == 0) (nat_lt CONTROL_DIGITS (length t)) (nat_lt (length t) 1) (list_all is_digit t) h (same_and (length t == 0)) in
    both_true (both_true (not_empty (length t) p.0) p.2) (le-leb (length t) CONTROL_DIGITS (ltb-false CONTROL_DIGITS (length t) p.1))

number_if : (b : Bool) (n : ℕ) → b ≡ true → is_number_of (cond b (n ∷ []) []) n ≡ true
number_if true n h = or_left (n == n) false (eq-eqb n n refl)
number_if false n h = absurd (cc)

document_in : (r : Rules) (d : Delims) (previous : List ℕ) (b : Segment) → has_id (codes "AK1") b ≡ true → inner_fault r d previous 2 b ≡ None
    → is_number_of (need_of_segment b).documents (value (element b 2)) ≡ true
document_in r d previous b e h =
    let rows = must Alphanumeric FUNCTION_BYTES FUNCTION_BYTES ∷ must Digits 1 CONTROL_DIGITS ∷ [] in
    let found = mapped_none (λ f. record { id = id_of b; position = 2; code = 8; element = Some f }) (option_and_then (λ rows. faulty_element d rows b) (rows_after r previous (id_of b))) h in
    let none : faulty_element d rows b ≡ None = ap (λ id. option_and_then (λ rows. faulty_element d rows b) (rows_after r previous id)) (sym (text_is (id_of b) (codes "AK1") e)) ∙ found in
    let first = or_else_none (option_map (λ code. record { place = 1; code = code }) (element_fault d (must Alphanumeric FUNCTION_BYTES FUNCTION_BYTES) (unwrap_or (slice_get (drop 1 b) 0) []))) _ none in
    let second = or_else_none (option_map (λ code. record { place = 2; code = code }) (element_fault d (must Digits 1 CONTROL_DIGITS) (unwrap_or (slice_get (drop 1 (drop 1 b)) 0) []))) _ first.1 in
    let good = mapped_none (λ code. record { place = 2; code = code }) (element_fault d (must Digits 1 CONTROL_DIGITS) (unwrap_or (slice_get (drop 1 (drop 1 b)) 0) [])) second.0 in
    let number = number_good d (element b 2) (ap (element_fault d (must Digits 1 CONTROL_DIGITS)) (sym (third b)) ∙ good) in
    ap (λ c. is_number_of (cond c (number_in (element b 2)) []) (value (element b 2))) e
    ∙ number_if (is_number (element b 2) && nat_le (length (element b 2)) CONTROL_DIGITS) (value (element b 2)) number

-- the document of an acknowledgment without fault is named
pub document_named : (r : Rules) (d : Delims) (ss : List Segment) → TwoAtLeast ss → set_fault r d (kind_words r FunctionalAcknowledgment) ss ≡ None
    → is_number_of (need_of_segments ss).documents (acknowledgment_of ss).document ≡ true
document_named r d ss two h =
    let a = two.first in
    let b = two.second in
    let here = ap (set_fault r d (kind_words r FunctionalAcknowledgment)) (sym two.parts) ∙ h in
    let begins = begins_set r d FunctionalAcknowledgment a b two.more here in
    let inner = acknowledgment_inner r d a b two.more begins.0 here in
    ap (λ xs. is_number_of (need_of_segments xs).documents (value (element (segment_with (codes "AK1") xs) 2))) two.parts
    ∙ ap (λ s. is_number_of (need_of_segments (a ∷ b ∷ two.more)).documents (value (element s 2))) (second_found (codes "AK1") a b two.more refl begins.0 begins.1)
    ∙ number_right (need_of_segment a).documents (need_of_segments (b ∷ two.more)).documents (value (element b 2))
    (number_left (need_of_segment b).documents (need_of_segments two.more).documents (value (element b 2)) (document_in r d (id_of a) b begins.1 inner))

-- ---- groups

abbrev pub need_of_set : Set → Need
need_of_set s = need_of_segments s.segments

abbrev pub need_of_group : Group → Need
need_of_group g = all_together (map need_of_set g.sets)

abbrev pub need_of_groups : List Group → Need
need_of_groups gs = all_together (map need_of_group gs)

within_parts : (xs ys : List Segment) (c : Need) → Within (need_of_segments (xs ++ ys)) c → Within (need_of_segments xs) c × Within (need_of_segments ys) c
within_parts [] ys c h = (within_nothing c, h)
within_parts (x ∷ xs) ys c h =
    let first = within_left (need_of_segment x) (need_of_segments (xs ++ ys)) c h in
    let p = within_parts xs ys c (within_right (need_of_segment x) (need_of_segments (xs ++ ys)) c h) in
    (within_both (need_of_segment x) (need_of_segments xs) c first p.0, p.1)

within_sets : (sets : List Set) (c : Need) → Within (need_of_segments (flat_map (λ s. s.segments) sets)) c → Within (all_together (map need_of_set sets)) c
within_sets [] c h = within_nothing c
within_sets (s ∷ sets) c h =
    let whole = subst (λ xs. Within (need_of_segments xs) c) (flat_map-cons (λ (s : Set). s.segments) s sets) h in
    let p = within_parts s.segments (flat_map (λ (s : Set). s.segments) sets) c whole in
    within_both (need_of_set s) (all_together (map need_of_set sets)) c p.0 (within_sets sets c p.1)

within_groups : (gs : List Group) (c : Need) → Within (need_of_segments (flat_map group_segments gs)) c → Within (need_of_groups gs) c
within_groups [] c h = within_nothing c
within_groups (g ∷ gs) c h =
    let whole = subst (λ xs. Within (need_of_segments xs) c) (flat_map-cons group_segments g gs) h in
    let p = within_parts (group_segments g) (flat_map group_segments gs) c whole in
    let inner = within_right (need_of_segment g.head) (need_of_segments (flat_map (λ (s : Set). s.segments) g.sets ++ option_to_list g.tail)) c p.0 in
    let sets = within_parts (flat_map (λ (s : Set). s.segments) g.sets) (option_to_list g.tail) c inner in
    within_both (need_of_group g) (need_of_groups gs) c (within_sets g.sets c sets.0) (within_groups gs c p.1)

-- an interchange that isn't halted names what its sets name
pub names_groups : (text : List ℕ) → is_unreadable text ≡ false → structure_note text ≡ None
    → Within (need_of_groups (groups_of ((cut (delims_of text) text).segments))) (need_of_text text)
names_groups text e f =
    let ss = (cut (delims_of text) text).segments in
    let gs = groups_of ss in
    let parts = parts_together text e f in
    let all : need_of_text text ≡ need_of_segments ss = λ i. cond (e i) nothing (need_of_segments ss) in
    let itself = subst (λ n. Within (need_of_segments ss) n) (sym all) (within_itself (need_of_segments ss)) in
    let put = subst (λ xs. Within (need_of_segments xs) (need_of_text text)) parts.2 itself in
    let inside = within_right (need_of_segment parts.0) (need_of_segments (flat_map group_segments gs ++ parts.1 ∷ [])) (need_of_text text) put in
    within_groups gs (need_of_text text) (within_parts (flat_map group_segments gs) (parts.1 ∷ []) (need_of_text text) inside).0
