-- A sheet that is made has just the lines that were given, in order.
use Rattle.std.proofs.Common.{◌≡◌, ℕ, zero, suc, ◌≤◌, Bool, true, false, not, cond, ◌&&◌, ◌||◌, List, [], ◌∷◌, map, length, refl, sym, ap, ◌∙◌, arith, Result, Ok, Err, le-leb, leb-true, ltb-false, IsPermutation, is_lt, nat_cmp, Less, Equal, Greater, bytes_eq, eq-eqb, subst}
use Rattle.std.specs.Ordering.{ordering_then}
use Rattle.definitions.specs.declared.rules.Rules.{Rules}
use Rattle.definitions.specs.declared.rules.Rules.TheVariants.{One, Two}
use Rattle.definitions.specs.Limits.{most_lines}
use Rattle.definitions.specs.Refusals.{Refusal, TooMuch, RepeatedLine, BadText, TooManyLines}
use Rattle.std.specs.Prelude.{nat_le, nat_lt, ◌==◌}
use Rattle.std.specs.List.{list_any, list_all}
use Rattle.std.specs.Cmp.Derive.{both_true}
use Rattle.std.specs.Cmp.Lexicographic.{slice_cmp}
use Rattle.std.proofs.lemmas.List.Sorted.{IsPermutation-refl, IsPermutation-trans, IsPermutation-sym, IsPermutation-cons, IsPermutation-middle}
use Rattle.definitions.specs.Bytes.{comes_before, is_identifier, is_number, value}
use Rattle.definitions.specs.Lists.{placed, in_order, has_repeats}
use Rattle.definitions.specs.Means.{Line}
use Rattle.definitions.specs.Events.{pair_before}
use Rattle.definitions.specs.Clerk.{RawLine, quantity_limit, least_quantity, is_too_much, picks_nothing, is_bad_line, same_raw_pair, line_of, sheet_of, is_sheet_line, is_ascending, is_sheet, is_act}
use Rattle.definitions.specs.declared.sheet_kind.SheetKind.{SheetKind}
use Rattle.definitions.specs.declared.sheet_kind.SheetKind.TheVariants.{Count as CountSheet, Pick as PickSheet, Recount as RecountSheet}
use Rattle.definitions.specs.Register.{Act, Count, Pick, Recount}
use Rattle.definitions.proofs.TextLaws.{both_parts, same_text}

neither : (a b : Bool) → (a || b) ≡ false → (a ≡ false) × (b ≡ false)
neither true b h = absurd (cc)
neither false b h = (refl, h)

both_false : {a b : Bool} → a ≡ false → b ≡ false → (a || b) ≡ false
both_false e f = rw (e, f) refl

-- ---- the order of texts

text_tri : (a b : List ℕ) → comes_before a b ≡ false → comes_before b a ≡ false → a ≡ b
text_tri [] [] h k = refl
text_tri [] (y ∷ ys) h k = absurd (cc)
text_tri (x ∷ xs) [] h k = absurd (cc)
text_tri (x ∷ xs) (y ∷ ys) h k = by_tests (nat_lt x y) (nat_lt y x) refl refl (text_tri xs ys)
  where
    by_tests : (s t : Bool) → nat_lt x y ≡ s → nat_lt y x ≡ t → (comes_before xs ys ≡ false → comes_before ys xs ≡ false → xs ≡ ys) → x ∷ xs ≡ y ∷ ys
    by_tests true t e f ih =
        let first : comes_before (x ∷ xs) (y ∷ ys) ≡ true = ap (λ s. is_lt (ordering_then (cond s Less (cond (x == y) Equal Greater)) (slice_cmp nat_cmp xs ys))) e in
        absurd (cc)
    by_tests false true e f ih =
        let first : comes_before (y ∷ ys) (x ∷ xs) ≡ true = ap (λ s. is_lt (ordering_then (cond s Less (cond (y == x) Equal Greater)) (slice_cmp nat_cmp ys xs))) f in
        absurd (cc)
    by_tests false false e f ih =
        let same : x ≡ y = omega (arith, ltb-false x y e, ltb-false y x f) in
        let there : (x == y) ≡ true = eq-eqb x y same in
        let back : (y == x) ≡ true = eq-eqb y x (sym same) in
        let front : comes_before (x ∷ xs) (y ∷ ys) ≡ comes_before xs ys = λ i. is_lt (ordering_then (cond (e i) Less (cond (there i) Equal Greater)) (slice_cmp nat_cmp xs ys)) in
        let after : comes_before (y ∷ ys) (x ∷ xs) ≡ comes_before ys xs = λ i. is_lt (ordering_then (cond (f i) Less (cond (back i) Equal Greater)) (slice_cmp nat_cmp ys xs)) in
        let rest = ih (sym front ∙ h) (sym after ∙ k) in
        λ i. same i ∷ rest i

pair_tri : (a b : Line) → pair_before a b ≡ false → pair_before b a ≡ false → (bytes_eq a.item b.item && bytes_eq a.lot b.lot) ≡ true
pair_tri a b h k =
    let p = neither (comes_before a.item b.item) (bytes_eq a.item b.item && comes_before a.lot b.lot) h in
    let q = neither (comes_before b.item a.item) (bytes_eq b.item a.item && comes_before b.lot a.lot) k in
    let item = text_tri a.item b.item p.0 q.0 in
    let same : bytes_eq a.item b.item ≡ true = ap (bytes_eq a.item) (sym item) ∙ same_text a.item in
    let back : bytes_eq b.item a.item ≡ true = ap (bytes_eq b.item) item ∙ same_text b.item in
    let lot = text_tri a.lot b.lot (ap (λ t. t && comes_before a.lot b.lot) (sym same) ∙ p.1) (ap (λ t. t && comes_before b.lot a.lot) (sym back) ∙ q.1) in
    both_true same (ap (bytes_eq a.lot) (sym lot) ∙ same_text a.lot)

-- ---- putting in order

module _ {X : Type 0} (less same : X → X → Bool) where
  none_placed : (p : X → Bool) (x : X) (ys : List X) → p x ≡ false → list_any p ys ≡ false → list_any p (placed less x ys) ≡ false
  none_placed p x [] h k = both_false h refl
  none_placed p x (y ∷ ys) h k =
      let q = neither (p y) (list_any p ys) k in by_tests (less x y) (less y x) refl refl q.0 q.1 (none_placed p x ys h q.1)
    where
      by_tests : (s t : Bool) → less x y ≡ s → less y x ≡ t → p y ≡ false → list_any p ys ≡ false → list_any p (placed less x ys) ≡ false → list_any p (placed less x (y ∷ ys)) ≡ false
      by_tests true t e f a b ih = rw e (both_false h (both_false a b))
      by_tests false true e f a b ih = rw (e, f) (both_false a ih)
      by_tests false false e f a b ih = rw (e, f) (both_false a b)

  none_in_order : (p : X → Bool) (xs : List X) → list_any p xs ≡ false → list_any p (in_order less xs) ≡ false
  none_in_order p [] h = refl
  none_in_order p (x ∷ xs) h = let q = neither (p x) (list_any p xs) h in none_placed p x (in_order less xs) q.0 (none_in_order p xs q.1)

  all_placed : (p : X → Bool) (x : X) (ys : List X) → p x ≡ true → list_all p ys ≡ true → list_all p (placed less x ys) ≡ true
  all_placed p x [] h k = both_true h refl
  all_placed p x (y ∷ ys) h k =
      let q = both_parts (p y) (list_all p ys) k in by_tests (less x y) (less y x) refl refl q.0 q.1 (all_placed p x ys h q.1)
    where
      by_tests : (s t : Bool) → less x y ≡ s → less y x ≡ t → p y ≡ true → list_all p ys ≡ true → list_all p (placed less x ys) ≡ true → list_all p (placed less x (y ∷ ys)) ≡ true
      by_tests true t e f a b ih = rw e (both_true h (both_true a b))
      by_tests false true e f a b ih = rw (e, f) (both_true a ih)
      by_tests false false e f a b ih = rw (e, f) (both_true a b)

  pub all_in_order : (p : X → Bool) (xs : List X) → list_all p xs ≡ true → list_all p (in_order less xs) ≡ true
  all_in_order p [] h = refl
  all_in_order p (x ∷ xs) h = let q = both_parts (p x) (list_all p xs) h in all_placed p x (in_order less xs) q.0 (all_in_order p xs q.1)

  length-placed : (x : X) (ys : List X) → length (placed less x ys) ≤ suc (length ys)
  length-placed x [] = omega arith
  length-placed x (y ∷ ys) = by_tests (less x y) (less y x) refl refl (length-placed x ys)
    where
      by_tests : (s t : Bool) → less x y ≡ s → less y x ≡ t → length (placed less x ys) ≤ suc (length ys) → length (placed less x (y ∷ ys)) ≤ suc (suc (length ys))
      by_tests true t e f ih = rw e (omega arith)
      by_tests false true e f ih = rw (e, f) (omega (arith, ih))
      by_tests false false e f ih = rw (e, f) (omega arith)

  pub length-in_order : (xs : List X) → length (in_order less xs) ≤ length xs
  length-in_order [] = omega arith
  length-in_order (x ∷ xs) = omega (arith, length-placed x (in_order less xs), length-in_order xs)

  module _ (tri : (a b : X) → less a b ≡ false → less b a ≡ false → same a b ≡ true) where
    placed_has : (x : X) (ys : List X) → list_any (same x) ys ≡ false → IsPermutation (x ∷ ys) (placed less x ys)
    placed_has x [] h = IsPermutation-refl (x ∷ [])
    placed_has x (y ∷ ys) h =
        let q = neither (same x y) (list_any (same x) ys) h in by_tests (less x y) (less y x) refl refl q.0 (placed_has x ys q.1)
      where
        by_tests : (s t : Bool) → less x y ≡ s → less y x ≡ t → same x y ≡ false → IsPermutation (x ∷ ys) (placed less x ys) → IsPermutation (x ∷ y ∷ ys) (placed less x (y ∷ ys))
        by_tests true t e f n ih = rw e (IsPermutation-refl (x ∷ y ∷ ys))
        by_tests false true e f n ih = rw (e, f) (IsPermutation-trans (x ∷ y ∷ ys) (y ∷ x ∷ ys) (y ∷ placed less x ys)
            (IsPermutation-sym (y ∷ x ∷ ys) (x ∷ y ∷ ys) (IsPermutation-middle (y ∷ []) x ys)) (IsPermutation-cons y (x ∷ ys) (placed less x ys) ih))
        by_tests false false e f n ih = let equal = tri x y e f in absurd (cc)

    pub in_order_has : (xs : List X) → has_repeats same xs ≡ false → IsPermutation xs (in_order less xs)
    in_order_has [] h = IsPermutation-refl []
    in_order_has (x ∷ xs) h =
        let q = neither (list_any (same x) xs) (has_repeats same xs) h in
        IsPermutation-trans (x ∷ xs) (x ∷ in_order less xs) (placed less x (in_order less xs))
        (IsPermutation-cons x xs (in_order less xs) (in_order_has xs q.1))
        (placed_has x (in_order less xs) (none_in_order (same x) xs q.0))

-- ---- in ascending order

asc_after : (a x : Line) (ys : List Line) → pair_before a x ≡ true → is_ascending (a ∷ ys) ≡ true → is_ascending (a ∷ placed pair_before x ys) ≡ true
asc_after a x [] h k = both_true h refl
asc_after a x (y ∷ ys) h k =
    let q = both_parts (pair_before a y) (is_ascending (y ∷ ys)) k in
    by_tests (pair_before x y) (pair_before y x) refl refl q.0 q.1 (λ f. asc_after y x ys f q.1)
  where
    by_tests : (s t : Bool) → pair_before x y ≡ s → pair_before y x ≡ t → pair_before a y ≡ true → is_ascending (y ∷ ys) ≡ true
        → (pair_before y x ≡ true → is_ascending (y ∷ placed pair_before x ys) ≡ true) → is_ascending (a ∷ placed pair_before x (y ∷ ys)) ≡ true
    by_tests true t e f u v ih =
        ap (λ zs. is_ascending (a ∷ zs)) (ap (λ s. cond s (x ∷ y ∷ ys) (cond (pair_before y x) (y ∷ placed pair_before x ys) (y ∷ ys))) e)
        ∙ both_true h (both_true e v)
    by_tests false true e f u v ih =
        ap (λ zs. is_ascending (a ∷ zs)) (λ i. cond (e i) (x ∷ y ∷ ys) (cond (f i) (y ∷ placed pair_before x ys) (y ∷ ys)))
        ∙ both_true u (ih f)
    by_tests false false e f u v ih =
        ap (λ zs. is_ascending (a ∷ zs)) (λ i. cond (e i) (x ∷ y ∷ ys) (cond (f i) (y ∷ placed pair_before x ys) (y ∷ ys)))
        ∙ both_true u v

asc_placed : (x : Line) (ys : List Line) → is_ascending ys ≡ true → is_ascending (placed pair_before x ys) ≡ true
asc_placed x [] k = refl
asc_placed x (y ∷ ys) k = by_tests (pair_before x y) (pair_before y x) refl refl
  where
    by_tests : (s t : Bool) → pair_before x y ≡ s → pair_before y x ≡ t → is_ascending (placed pair_before x (y ∷ ys)) ≡ true
    by_tests true t e f =
        ap is_ascending (ap (λ s. cond s (x ∷ y ∷ ys) (cond (pair_before y x) (y ∷ placed pair_before x ys) (y ∷ ys))) e)
        ∙ both_true e k
    by_tests false true e f =
        ap is_ascending (λ i. cond (e i) (x ∷ y ∷ ys) (cond (f i) (y ∷ placed pair_before x ys) (y ∷ ys)))
        ∙ asc_after y x ys f k
    by_tests false false e f =
        ap is_ascending (λ i. cond (e i) (x ∷ y ∷ ys) (cond (f i) (y ∷ placed pair_before x ys) (y ∷ ys))) ∙ k

asc_in_order : (xs : List Line) → is_ascending (in_order pair_before xs) ≡ true
asc_in_order [] = refl
asc_in_order (x ∷ xs) = asc_placed x (in_order pair_before xs) (asc_in_order xs)

-- ---- lines

positive : (n : ℕ) → (n == 0) ≡ false → 1 ≤ n
positive zero h = absurd (cc)
positive (suc n) h = omega arith

not_false : (b : Bool) → not b ≡ false → b ≡ true
not_false true h = refl
not_false false h = absurd (cc)

least_held : (kind : SheetKind) (l : RawLine) → picks_nothing kind l ≡ false → nat_lt 9 (length l.quantity) ≡ false → nat_le (least_quantity kind) (value l.quantity) ≡ true
least_held CountSheet l h g = le-leb 0 (value l.quantity) (omega arith)
least_held RecountSheet l h g = le-leb 0 (value l.quantity) (omega arith)
least_held PickSheet l h g =
    let short : nat_le (length l.quantity) 9 ≡ true = le-leb (length l.quantity) 9 (omega (arith, ltb-false 9 (length l.quantity) g)) in
    le-leb 1 (value l.quantity) (positive (value l.quantity) (ap (λ t. t && value l.quantity == 0) (sym short) ∙ h))

line_good : (r : Rules) (kind : SheetKind) (l : RawLine) → is_bad_line kind l ≡ false → is_too_much r kind l ≡ false → is_sheet_line r kind (line_of l) ≡ true
line_good r kind l h k =
    let p = neither (not (is_identifier 1 20 l.item && is_identifier 1 12 l.lot && is_number l.quantity)) (picks_nothing kind l) h in
    let q = neither (nat_lt 9 (length l.quantity)) (nat_lt (quantity_limit r kind) (value l.quantity)) k in
    let s = both_parts (is_identifier 1 20 l.item && is_identifier 1 12 l.lot) (is_number l.quantity) (not_false _ p.0) in
    both_true (both_true s.0 (least_held kind l p.1 q.0)) (le-leb (value l.quantity) (quantity_limit r kind) (omega (arith, ltb-false (quantity_limit r kind) (value l.quantity) q.1)))

lines_good : (r : Rules) (kind : SheetKind) (raw : List RawLine) → list_any (is_bad_line kind) raw ≡ false → list_any (is_too_much r kind) raw ≡ false
    → list_all (is_sheet_line r kind) (map line_of raw) ≡ true
lines_good r kind [] h k = refl
lines_good r kind (l ∷ ls) h k =
    let p = neither (is_bad_line kind l) (list_any (is_bad_line kind) ls) h in
    let q = neither (is_too_much r kind l) (list_any (is_too_much r kind) ls) k in
    both_true (line_good r kind l p.0 q.0) (lines_good r kind ls p.1 q.1)

abbrev same_line : Line → Line → Bool
same_line a b = bytes_eq a.item b.item && bytes_eq a.lot b.lot

any_mapped : (l : RawLine) (ls : List RawLine) → list_any (same_line (line_of l)) (map line_of ls) ≡ list_any (same_raw_pair l) ls
any_mapped l [] = refl
any_mapped l (k ∷ ks) = ap (λ t. same_raw_pair l k || t) (any_mapped l ks)

repeats_mapped : (ls : List RawLine) → has_repeats same_line (map line_of ls) ≡ has_repeats same_raw_pair ls
repeats_mapped [] = refl
repeats_mapped (l ∷ ls) = λ i. any_mapped l ls i || repeats_mapped ls i

length-mapped : (ls : List RawLine) → length (map line_of ls) ≡ length ls
length-mapped [] = refl
length-mapped (l ∷ ls) = ap suc (length-mapped ls)

abbrev lines_or : List Line → Result (List Line) Refusal → List Line
lines_or d (Ok ls) = ls
lines_or d (Err r) = d

-- a sheet is one of its kind, with just the lines that were given
pub sheet_of-is : (r : Rules) (kind : SheetKind) (raw : List RawLine) (ls : List Line) → sheet_of r kind raw ≡ Ok ls
    → (is_sheet r kind ls ≡ true) × IsPermutation (map line_of raw) ls
sheet_of-is r kind raw ls h =
    by_tests (nat_lt (most_lines r) (length raw)) (list_any (is_bad_line kind) raw) (list_any (is_too_much r kind) raw) (has_repeats same_raw_pair raw) refl refl refl refl h
  where
    by_tests : (a b c d : Bool) → nat_lt (most_lines r) (length raw) ≡ a → list_any (is_bad_line kind) raw ≡ b → list_any (is_too_much r kind) raw ≡ c → has_repeats same_raw_pair raw ≡ d
        → cond a (Err TooManyLines) (cond b (Err BadText) (cond c (Err TooMuch) (cond d (Err RepeatedLine) (Ok (in_order pair_before (map line_of raw)))))) ≡ Ok ls
        → (is_sheet r kind ls ≡ true) × IsPermutation (map line_of raw) ls
    by_tests true b c d e f g i k = absurd (cc)
    by_tests false true c d e f g i k = absurd (cc)
    by_tests false false true d e f g i k = absurd (cc)
    by_tests false false false true e f g i k = absurd (cc)
    by_tests false false false false e f g i k =
        let lines = map line_of raw in
        let same : in_order pair_before lines ≡ ls = ap (lines_or []) k in
        let few : length (in_order pair_before lines) ≤ most_lines r = omega (arith, length-in_order pair_before same_line lines, length-mapped raw, ltb-false (most_lines r) (length raw) e) in
        let sheet = both_true (both_true (le-leb (length (in_order pair_before lines)) (most_lines r) few) (all_in_order pair_before same_line (is_sheet_line r kind) lines (lines_good r kind raw f g))) (asc_in_order lines) in
        let whole = in_order_has pair_before same_line pair_tri lines (repeats_mapped raw ∙ i) in
        (ap (is_sheet r kind) (sym same) ∙ sheet, subst (IsPermutation lines) same whole)

-- ---- the later limits are the wider

limit-later : (kind : SheetKind) → quantity_limit One kind ≤ quantity_limit Two kind
limit-later CountSheet = omega arith
limit-later PickSheet = omega arith
limit-later RecountSheet = omega arith

line-later : (kind : SheetKind) (l : Line) → is_sheet_line One kind l ≡ true → is_sheet_line Two kind l ≡ true
line-later kind l h =
    let p = both_parts (is_identifier 1 20 l.item && is_identifier 1 12 l.lot && nat_le (least_quantity kind) l.quantity) (nat_le l.quantity (quantity_limit One kind)) h in
    both_true p.0 (le-leb l.quantity (quantity_limit Two kind) (omega (arith, leb-true l.quantity (quantity_limit One kind) p.1, limit-later kind)))

lines-later : (kind : SheetKind) (ls : List Line) → list_all (is_sheet_line One kind) ls ≡ true → list_all (is_sheet_line Two kind) ls ≡ true
lines-later kind [] h = refl
lines-later kind (l ∷ ls) h =
    let p = both_parts (is_sheet_line One kind l) (list_all (is_sheet_line One kind) ls) h in
    both_true (line-later kind l p.0) (lines-later kind ls p.1)

-- a sheet under rules 1 is one under rules 2
pub is_sheet-later : (kind : SheetKind) (ls : List Line) → is_sheet One kind ls ≡ true → is_sheet Two kind ls ≡ true
is_sheet-later kind ls h =
    let p = both_parts (nat_le (length ls) (most_lines One) && list_all (is_sheet_line One kind) ls) (is_ascending ls) h in
    let q = both_parts (nat_le (length ls) (most_lines One)) (list_all (is_sheet_line One kind) ls) p.0 in
    both_true (both_true (le-leb (length ls) (most_lines Two) (omega (arith, leb-true (length ls) (most_lines One) q.0))) (lines-later kind ls q.1)) p.1

-- and so an act
pub is_act-later : (act : Act) → is_act One act ≡ true → is_act Two act ≡ true
is_act-later (Count shipment sheet) h =
    let p = both_parts (is_identifier 1 22 shipment) (is_sheet One CountSheet sheet) h in both_true p.0 (is_sheet-later CountSheet sheet p.1)
is_act-later (Pick number sheet) h =
    let p = both_parts (is_identifier 1 22 number) (is_sheet One PickSheet sheet) h in both_true p.0 (is_sheet-later PickSheet sheet p.1)
is_act-later (Recount sheet) h = is_sheet-later RecountSheet sheet h
