-- The line of a record, and what records come to.
use Rattle.std.proofs.Common.{◌≡◌, ℕ, ◌+◌, ◌≤◌, ◌<◌, Bool, true, false, List, [], ◌∷◌, ◌++◌, map, length, take, drop, get_or, Some, None, Err, refl, ap, sym, ◌∙◌, append_assoc, add-one, arith, drop-cons}
use Rattle.std.specs.Prelude.{nat_lt, is_none}
use Rattle.std.specs.List.{filter_map, list_any}
use Rattle.std.proofs.Common.{lt-ltb, ltb-true}
use Rattle.std.proofs.lemmas.List.{append-nil, drop_all, length-map, length-take, take_all}
use Rattle.definitions.specs.declared.rules.Rules.{Rules}
use Rattle.definitions.specs.Rules.{Today}
use Rattle.definitions.specs.Limits.{most_lines}
use Rattle.definitions.specs.Clerk.{RawLine, raw_line, sheet_of, sheet_of_records}
use Rattle.definitions.specs.declared.sheet_kind.SheetKind.{SheetKind}
use Rattle.definitions.specs.declared.refusals.Refusal.TheVariants.{TooManyLines, BadText}
use Rattle.csv.specs.Records.{Row, field_at, fields_of}
use Rattle.sheet_texts.specs.Texts.{field_of, records_of, sheet_of_text}

pub three_fields : (fs : List (List ℕ)) → length fs ≡ 3 → raw_line fs ≡ Some (record { item = field_of fs 0; lot = field_of fs 1; quantity = field_of fs 2 })
unfolding field_at
three_fields [] h = absurd (omega (arith, h))
three_fields (a ∷ []) h = absurd (omega (arith, h))
three_fields (a ∷ b ∷ []) h = absurd (omega (arith, h))
three_fields (a ∷ b ∷ c ∷ []) h = refl
three_fields (a ∷ b ∷ c ∷ d ∷ fs) h = absurd (omega (arith, h))

pub too_many : (r : Rules) (kind : SheetKind) (rows : List (List (List ℕ))) → most_lines r < length (take (most_lines r + 1) rows) → sheet_of_records r kind rows ≡ Err TooManyLines
too_many r kind rows h =
    let many : nat_lt (most_lines r) (length rows) ≡ true = lt-ltb (most_lines r) (length rows) (omega (arith, h, length-take (most_lines r + 1) rows)) in
    rw many refl

-- records of which no more than a sheet may have were read are all
all_of : (n : ℕ) (rows rs : List (List (List ℕ))) → rs ≡ take (n + 1) rows → length rs ≤ n → rows ≡ rs
all_of n rows rs h few =
    let short : length rows ≤ n + 1 = omega (arith, few, ap (λ (zs : List (List (List ℕ))). length zs) h, length-take (n + 1) rows) in
    sym (h ∙ take_all (n + 1) rows short)

-- whether one of the records hasn't three fields
abbrev pub is_uneven : List (List (List ℕ)) → Bool
is_uneven rows = list_any (λ fields. is_none (raw_line fields)) rows

not_many : (n m : ℕ) → m ≤ n → nat_lt n m ≡ false
not_many n m h = by_test (nat_lt n m) refl
  where
    by_test : (t : Bool) → nat_lt n m ≡ t → nat_lt n m ≡ false
    by_test true e = absurd (omega (arith, h, ltb-true n m e))
    by_test false e = e

pub uneven : (r : Rules) (kind : SheetKind) (rows rs : List (List (List ℕ))) → rs ≡ take (most_lines r + 1) rows → length rs ≤ most_lines r → is_uneven rs ≡ true → sheet_of_records r kind rows ≡ Err BadText
uneven r kind rows rs h few bad =
    ap (sheet_of_records r kind) (all_of (most_lines r) rows rs h few) ∙ rw (not_many (most_lines r) (length rs) few, bad) refl

pub even : (r : Rules) (kind : SheetKind) (rows rs : List (List (List ℕ))) → rs ≡ take (most_lines r + 1) rows → length rs ≤ most_lines r → is_uneven rs ≡ false → sheet_of_records r kind rows ≡ sheet_of r kind (filter_map raw_line rs)
even r kind rows rs h few good =
    ap (sheet_of_records r kind) (all_of (most_lines r) rows rs h few) ∙ rw (not_many (most_lines r) (length rs) few, good) refl

-- The lines of the records up to a place, and what is left.
next_row : (rows : List Row) (i : ℕ) (row : Row) → i < length rows → row ≡ get_or rows i row
    → map fields_of (drop i rows) ≡ fields_of row ∷ map fields_of (drop (i + 1) rows)
next_row rows i row h e = rw (add-one, drop-cons rows i row h, ← e) refl

abbrev pub lines_left : List Row → ℕ → List RawLine
lines_left rows i = filter_map raw_line (map fields_of (drop i rows))

abbrev pub has_uneven : List Row → Bool
has_uneven rows = is_uneven (map fields_of rows)

pub line_more : (rows : List Row) (i : ℕ) (row : Row) (lines now : List RawLine) (line : RawLine) → i < length rows → row ≡ get_or rows i row
    → Some line ≡ raw_line (fields_of row) → now ≡ lines ++ line ∷ []
    → (filter_map raw_line (map fields_of rows) ≡ lines ++ lines_left rows i) × (has_uneven rows ≡ has_uneven (drop i rows))
    → (filter_map raw_line (map fields_of rows) ≡ now ++ lines_left rows (i + 1)) × (has_uneven rows ≡ has_uneven (drop (i + 1) rows))
line_more rows i row lines now line l e s n h = (
  h.0 ∙ rw (next_row rows i row l e, ← s, n, append_assoc) refl,
  h.1 ∙ rw (next_row rows i row l e, ← s) refl,
)

pub line_none : (rows : List Row) (i : ℕ) (row : Row) → i < length rows → row ≡ get_or rows i row → None ≡ raw_line (fields_of row)
    → has_uneven rows ≡ has_uneven (drop i rows) → true ≡ has_uneven rows
line_none rows i row l e s h = sym (h ∙ rw (next_row rows i row l e, ← s) refl)

pub lines_all : (rows : List Row) (i : ℕ) (lines : List RawLine) → length rows ≤ i
    → filter_map raw_line (map fields_of rows) ≡ lines ++ lines_left rows i → lines ≡ filter_map raw_line (map fields_of rows)
lines_all rows i lines l h = sym (h ∙ rw (drop_all i rows l, append-nil) refl)

pub all_even : (rows : List Row) (i : ℕ) → length rows ≤ i → has_uneven rows ≡ has_uneven (drop i rows) → false ≡ has_uneven rows
all_even rows i l h = sym (h ∙ rw (drop_all i rows l) refl)

-- the sheet of a text is that of the lines of its records
pub of_lines : (kind : SheetKind) (text : List ℕ) (rows : List Row) (lines : List RawLine) → map fields_of rows ≡ take (most_lines Today + 1) (records_of text) → length rows ≤ most_lines Today
    → has_uneven rows ≡ false → lines ≡ filter_map raw_line (map fields_of rows) → sheet_of_text Today kind text ≡ sheet_of Today kind lines
of_lines kind text rows lines h few good e =
    even Today kind (records_of text) (map fields_of rows) h (omega (arith, few, length-map rows fields_of)) good ∙ ap (sheet_of Today kind) (sym e)
