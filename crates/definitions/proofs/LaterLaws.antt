-- What rules 1 allow rules 2 allow.
use Rattle.std.proofs.Common.{◌≡◌, ℕ, ◌+◌, ◌≤◌, Bool, true, false, not, cond, ◌&&◌, List, [], ◌∷◌, ◌++◌, map, length, drop, refl, sym, ap, ◌∙◌, arith, Some, None, Option, option_map, unwrap_or, bytes_eq, codes, ltb-true, ltb-false}
use Rattle.std.specs.Prelude.{◌==◌, nat_lt, slice_get, find, option_and_then}
use Rattle.std.specs.List.{list_all}
use Rattle.std.specs.Cmp.Derive.{both_true}
use Rattle.definitions.specs.declared.widths.TheConstants.{DATE_DIGITS}
use Rattle.definitions.specs.declared.rules.Rules.TheVariants.{Two}
use Rattle.definitions.specs.declared.rules.Rules.TheVariants as rules
use Rattle.definitions.specs.Limits.{most_lines}
use Rattle.definitions.specs.Bytes.{Delims, is_one_of}
use Rattle.definitions.specs.Lists.{first_of, or_else}
use Rattle.definitions.specs.Moments.{Moment, is_moment}
use Rattle.definitions.specs.Header.{is_partner}
use Rattle.definitions.specs.Cut.{Segment, id_of, last_segment}
use Rattle.definitions.specs.Words.{Words, Then, Times, IsWord, IsViable, kind_words, is_viable}
use Rattle.definitions.specs.declared.set_kind.SetKind.{SetKind}
use Rattle.definitions.specs.declared.set_kind.SetKind.TheVariants.{ShippingOrder, ShipmentAdvice, FunctionalAcknowledgment}
use Rattle.definitions.specs.Elements.{ElementRow, Kind, Date, Quantity, must, may, quantity_digits, advice_total_digits, order_total_digits, goods_rows, takes, value_fault, element_fault, plain_lot_rows, lot_rows, segment_rows, rows_in, ElementFault, least_element_fault, faulty_element}
use Rattle.definitions.specs.Faults.{SetFault, rows_after, inner_fault, segment_fault, least_fault, set_fault}
use Rattle.definitions.specs.Register.{Command, Interchange, Enrol, Clerk}
use Rattle.definitions.specs.Clerk.{is_act}
use Rattle.definitions.specs.Accepted.{is_command, can_be_given}
use Rattle.definitions.proofs.TextLaws.{both_parts}
use Rattle.definitions.proofs.WordsLaws.{viable_to, viable_from}
use Rattle.definitions.proofs.FaultsLaws.{segment_fault-in_place, segment_fault-out_of_place}
use Rattle.definitions.proofs.SheetLaws.{is_act-later}

-- ---- words

record Wider (v w : Words) : Type 0 where
  each : (ids : List (List ℕ)) → IsWord v ids → IsWord w ids

then_wider : (v w u : Words) → Wider w u → Wider (Then v w) (Then v u)
then_wider v w u f = record { each = λ ids h. (h.0, h.1, h.2, h.3, f.each h.1 h.4) }

first_wider : (v w u : Words) → Wider v u → Wider (Then v w) (Then u w)
first_wider v w u f = record { each = λ ids h. (h.0, h.1, h.2, f.each h.0 h.3, h.4) }

times_wider : (low high more : ℕ) (w : Words) → high ≤ more → Wider (Times low high w) (Times low more w)
times_wider low high more w h = record { each = λ ids k. (k.0, k.1, omega (arith, k.2, h), k.3) }

lines_wider : most_lines rules.One ≤ most_lines Two
lines_wider = omega arith

words-later : (kind : SetKind) → Wider (kind_words rules.One kind) (kind_words Two kind)
words-later ShippingOrder = then_wider _ _ _ (then_wider _ _ _ (then_wider _ _ _ (then_wider _ _ _ (then_wider _ _ _
    (first_wider _ _ _ (times_wider 1 (most_lines rules.One) (most_lines Two) _ lines_wider))))))
words-later ShipmentAdvice = then_wider _ _ _ (then_wider _ _ _ (then_wider _ _ _ (then_wider _ _ _ (then_wider _ _ _
    (first_wider _ _ _ (times_wider 1 (most_lines rules.One) (most_lines Two) _ lines_wider))))))
words-later FunctionalAcknowledgment = record { each = λ ids h. h }

-- ---- elements

or_else_none : {X : Type 0} (a b : Option X) → or_else a b ≡ None → (a ≡ None) × (b ≡ None)
or_else_none None b h = (refl, h)
or_else_none (Some x) b h = absurd (cc)

mapped_none : {X Y : Type 0} (f : X → Y) (o : Option X) → option_map f o ≡ None → o ≡ None
mapped_none f None h = refl
mapped_none f (Some x) h = absurd (cc)

tests_later : (v : Option ℕ) (a b c k e f : Bool) → (c ≡ false → k ≡ false)
    → first_of v ((a, Some 1) ∷ (b, None) ∷ (c, Some 5) ∷ (e, Some 4) ∷ (f, Some 6) ∷ []) ≡ None
    → first_of v ((a, Some 1) ∷ (b, None) ∷ (k, Some 5) ∷ (e, Some 4) ∷ (f, Some 6) ∷ []) ≡ None
tests_later v true b c k e f i h = absurd (cc)
tests_later v false true c k e f i h = refl
tests_later v false false true k e f i h = absurd (cc)
tests_later v false false false k e f i h = ap (λ x. cond x (Some 5) (first_of v ((e, Some 4) ∷ (f, Some 6) ∷ []))) (i refl) ∙ h

within_more : (least most n : ℕ) → least ≤ most → nat_lt least n ≡ false → nat_lt most n ≡ false
within_more least most n h k = by_test (nat_lt most n) refl
  where
    by_test : (b : Bool) → nat_lt most n ≡ b → nat_lt most n ≡ false
    by_test true e = absurd (omega (arith, ltb-true most n e, ltb-false least n k, h))
    by_test false e = e

-- a row that allows more bytes
element-longer : (d : Delims) (row : ElementRow) (most : ℕ) (e : List ℕ) → row.most ≤ most → element_fault d row e ≡ None → element_fault d (record row { most = most }) e ≡ None
element-longer d row most e h k = tests_later (value_fault row.kind e) (length e == 0 && row.is_mandatory) (length e == 0)
    (nat_lt row.most (length e)) (nat_lt most (length e)) (nat_lt (length e) row.least) (not (list_all (takes d row.kind) e)) (within_more row.most most (length e) h) k

abbrev RowsAllow : List ElementRow → List ElementRow → Type 0
RowsAllow rows more = (d : Delims) (s : Segment) → faulty_element d rows s ≡ None → faulty_element d more s ≡ None

-- the first row allows more bytes
rows-longer : (row : ElementRow) (most : ℕ) (rows : List ElementRow) → row.most ≤ most → RowsAllow (row ∷ rows) (record row { most = most } ∷ rows)
rows-longer row most rows h d s k =
    let e = unwrap_or (slice_get (drop 1 s) 0) [] in
    let p = or_else_none (option_map (λ code. record { place = 1; code = code }) (element_fault d row e)) (least_element_fault d 2 rows (drop 1 (drop 1 s))) k in
    let good = element-longer d row most e h (mapped_none (λ code. record { place = 1; code = code }) (element_fault d row e) p.0) in
    (λ i. or_else (option_map (λ code. record { place = 1; code = code }) (good i)) (least_element_fault d 2 rows (drop 1 (drop 1 s)))) ∙ p.1

-- an element more, which may be missing
one_more : (d : Delims) (place : ℕ) (kind : Kind) (least most : ℕ) (rows : List ElementRow) (es : List (List ℕ)) → least_element_fault d place rows es ≡ None
    → least_element_fault d place (rows ++ may kind least most ∷ []) es ≡ None
one_more d place kind least most [] [] h = refl
one_more d place kind least most [] (e ∷ es) h = absurd (cc)
one_more d place kind least most (row ∷ rows) es h =
    let here = option_map (λ code. record { place = place; code = code }) (element_fault d row (unwrap_or (slice_get es 0) [])) in
    let p = or_else_none here (least_element_fault d (place + 1) rows (drop 1 es)) h in
    ap (λ o. or_else o (least_element_fault d (place + 1) (rows ++ may kind least most ∷ []) (drop 1 es))) p.0
    ∙ one_more d (place + 1) kind least most rows (drop 1 es) p.1

lot-later : (previous : List ℕ) → RowsAllow (lot_rows rules.One previous) (lot_rows Two previous)
lot-later previous d s h = by_test (bytes_eq previous (codes "W04")) refl
  where
    by_test : (b : Bool) → bytes_eq previous (codes "W04") ≡ b → faulty_element d (lot_rows Two previous) s ≡ None
    by_test true e = rw e (one_more d 1 Date DATE_DIGITS DATE_DIGITS plain_lot_rows (drop 1 s) h)
    by_test false e = rw e h

-- tables of the same segments, the second of which allows more
abbrev TableAllows : List (List ℕ × List ElementRow) → List (List ℕ × List ElementRow) → Type 0
TableAllows [] [] = Unit {0}
TableAllows (p ∷ ps) (q ∷ qs) = (p.0 ≡ q.0) × RowsAllow p.1 q.1 × TableAllows ps qs
TableAllows ps qs = ⊥

abbrev fault_by : Delims → Segment → Option (List ElementRow) → Option ElementFault
fault_by d s rows = option_and_then (λ rows. faulty_element d rows s) rows

table-allows : (d : Delims) (s : Segment) (id : List ℕ) (ps qs : List (List ℕ × List ElementRow)) → TableAllows ps qs
    → fault_by d s (rows_in ps id) ≡ None → fault_by d s (rows_in qs id) ≡ None
table-allows d s id [] [] a h = refl
table-allows d s id [] (q ∷ qs) a h = absurd a
table-allows d s id (p ∷ ps) [] a h = absurd a
table-allows d s id (p ∷ ps) (q ∷ qs) a h = by_test (bytes_eq p.0 id) refl h (table-allows d s id ps qs a.2)
  where
    by_test : (b : Bool) → bytes_eq p.0 id ≡ b → fault_by d s (option_map (λ x. x.1) (cond b (Some p) (find (λ x. bytes_eq x.0 id) ps))) ≡ None
        → (fault_by d s (rows_in ps id) ≡ None → fault_by d s (rows_in qs id) ≡ None) → fault_by d s (rows_in (q ∷ qs) id) ≡ None
    by_test true e k more =
        let same : bytes_eq q.0 id ≡ true = ap (λ x. bytes_eq x id) (sym a.0) ∙ e in
        ap (λ b. fault_by d s (option_map (λ x. x.1) (cond b (Some q) (find (λ x. bytes_eq x.0 id) qs)))) same ∙ a.1 d s k
    by_test false e k more =
        let same : bytes_eq q.0 id ≡ false = ap (λ x. bytes_eq x id) (sym a.0) ∙ e in
        ap (λ b. fault_by d s (option_map (λ x. x.1) (cond b (Some q) (find (λ x. bytes_eq x.0 id) qs)))) same ∙ more k

goods-later : RowsAllow (goods_rows rules.One) (goods_rows Two)
goods-later = rows-longer (must Quantity 1 (quantity_digits rules.One)) (quantity_digits Two) (drop 1 (goods_rows rules.One)) (omega arith)

advice_total-later : RowsAllow (must Quantity 1 (advice_total_digits rules.One) ∷ []) (must Quantity 1 (advice_total_digits Two) ∷ [])
advice_total-later = rows-longer (must Quantity 1 (advice_total_digits rules.One)) (advice_total_digits Two) [] (omega arith)

order_total-later : RowsAllow (must Quantity 1 (order_total_digits rules.One) ∷ []) (must Quantity 1 (order_total_digits Two) ∷ [])
order_total-later = rows-longer (must Quantity 1 (order_total_digits rules.One)) (order_total_digits Two) [] (omega arith)

segments-later : TableAllows (segment_rows rules.One) (segment_rows Two)
segments-later = (refl, λ d s h. h, (refl, goods-later, (refl, goods-later, (refl, λ d s h. h, (refl, advice_total-later, (refl, order_total-later, (refl, λ d s h. h, (refl, λ d s h. h, (refl, λ d s h. h, (refl, λ d s h. h, (refl, λ d s h. h, (refl, λ d s h. h, (refl, λ d s h. h, (refl, λ d s h. h, (refl, λ d s h. h, (refl, λ d s h. h, (refl, λ d s h. h, (refl, λ d s h. h, tt))))))))))))))))))

-- ---- segments

abbrev told_at : List ℕ → ℕ → ElementFault → SetFault
told_at id position f = record { id = id; position = position; code = 8; element = Some f }

inner-later : (d : Delims) (previous : List ℕ) (position : ℕ) (s : Segment) → inner_fault rules.One d previous position s ≡ None → inner_fault Two d previous position s ≡ None
inner-later d previous position s h =
    ap (option_map (told_at (id_of s) position)) (by_test (bytes_eq (id_of s) (codes "N9") && is_one_of (codes "W04" ∷ codes "W01" ∷ []) previous) refl
    (mapped_none (told_at (id_of s) position) (fault_by d s (rows_after rules.One previous (id_of s))) h))
  where
    by_test : (b : Bool) → (bytes_eq (id_of s) (codes "N9") && is_one_of (codes "W04" ∷ codes "W01" ∷ []) previous) ≡ b
        → fault_by d s (rows_after rules.One previous (id_of s)) ≡ None → fault_by d s (rows_after Two previous (id_of s)) ≡ None
    by_test true e k =
        let first : faulty_element d (lot_rows rules.One previous) s ≡ None = ap (λ b. fault_by d s (cond b (Some (lot_rows rules.One previous)) (rows_in (segment_rows rules.One) (id_of s)))) (sym e) ∙ k in
        ap (λ b. fault_by d s (cond b (Some (lot_rows Two previous)) (rows_in (segment_rows Two) (id_of s)))) e ∙ lot-later previous d s first
    by_test false e k =
        let first : fault_by d s (rows_in (segment_rows rules.One) (id_of s)) ≡ None = ap (λ b. fault_by d s (cond b (Some (lot_rows rules.One previous)) (rows_in (segment_rows rules.One) (id_of s)))) (sym e) ∙ k in
        ap (λ b. fault_by d s (cond b (Some (lot_rows Two previous)) (rows_in (segment_rows Two) (id_of s)))) e
        ∙ table-allows d s (id_of s) (segment_rows rules.One) (segment_rows Two) segments-later first

segment-later : (d : Delims) (kind : SetKind) (before : List Segment) (s : Segment) → segment_fault rules.One d (kind_words rules.One kind) before s ≡ None
    → segment_fault Two d (kind_words Two kind) before s ≡ None
segment-later d kind before s h = by_test (is_viable v ids) refl
  where
    v : Words
    v = kind_words rules.One kind

    ids : List (List ℕ)
    ids = map id_of before ++ id_of s ∷ []

    by_test : (b : Bool) → is_viable v ids ≡ b → segment_fault Two d (kind_words Two kind) before s ≡ None
    by_test true e =
        let first = viable_to v ids e in
        let later : IsViable (kind_words Two kind) ids = (first.0, (words-later kind).each (ids ++ first.0) first.1) in
        let inner = sym (segment_fault-in_place rules.One d v before s first) ∙ h in
        segment_fault-in_place Two d (kind_words Two kind) before s later
        ∙ inner-later d (id_of (last_segment before)) (length before + 1) s inner
    by_test false e =
        let wrong = sym (segment_fault-out_of_place rules.One d v before s (λ k. let both : false ≡ true = sym e ∙ viable_from v ids k in absurd (cc))) ∙ h in
        absurd (cc)

least-later : (d : Delims) (kind : SetKind) (before ss : List Segment) → least_fault rules.One d (kind_words rules.One kind) before ss ≡ None
    → least_fault Two d (kind_words Two kind) before ss ≡ None
least-later d kind before [] h = refl
least-later d kind before (s ∷ ss) h =
    let p = or_else_none (segment_fault rules.One d (kind_words rules.One kind) before s) (least_fault rules.One d (kind_words rules.One kind) (before ++ s ∷ []) ss) h in
    ap (λ o. or_else o (least_fault Two d (kind_words Two kind) (before ++ s ∷ []) ss)) (segment-later d kind before s p.0)
    ∙ least-later d kind (before ++ s ∷ []) ss p.1

-- a set without fault stays one
pub set_fault-later : (d : Delims) (kind : SetKind) (ss : List Segment) → set_fault rules.One d (kind_words rules.One kind) ss ≡ None → set_fault Two d (kind_words Two kind) ss ≡ None
set_fault-later d kind ss h = least-later d kind [] ss h

-- ---- commands

-- a command that can be given can be given later
pub is_command-later : (c : Command) → is_command rules.One c ≡ true → is_command Two c ≡ true
is_command-later (Interchange text) h = refl
is_command-later (Enrol w) h = h
is_command-later (Clerk w ticket act) h =
    let p = both_parts (is_partner w && _) (is_act rules.One act) h in both_true p.0 (is_act-later act p.1)

pub can_be_given-later : (cs : List (Command × Moment)) → can_be_given rules.One cs ≡ true → can_be_given Two cs ≡ true
can_be_given-later [] h = refl
can_be_given-later (c ∷ cs) h =
    let p = both_parts (is_command rules.One c.0 && is_moment c.1) (can_be_given rules.One cs) h in
    let q = both_parts (is_command rules.One c.0) (is_moment c.1) p.0 in
    both_true (both_true (is_command-later c.0 q.0) q.1) (can_be_given-later cs p.1)
