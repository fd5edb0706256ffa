-- A sheet that is made is the one of the definition.
use Rattle.std.proofs.Common.{◌≡◌, ◌≤◌, Bool, true, false, cond, ◌&&◌, List, [], ◌∷◌, map, length, refl, ap, sym, ◌∙◌, arith, None, Result, Ok, Err, IsPermutation, All}
use Rattle.std.specs.Prelude.{nat_le}
use Rattle.std.specs.List.{list_all}
use Rattle.std.specs.List.Sorted.{IsSorted}
use Rattle.std.specs.Cmp.Derive.{both_true}
use Rattle.std.proofs.Common.{le-leb, leb-true}
use Rattle.std.proofs.lemmas.List.Sorted.{IsPermutation-map, sum_by-IsPermutation}
use Rattle.std.proofs.lemmas.List.Elements.{All-nil, All-cons}
use Rattle.definitions.specs.declared.rules.Rules.{Rules}
use Rattle.definitions.specs.declared.rules.Rules.TheVariants.{One, Two}
use Rattle.definitions.specs.Bytes.{value, is_identifier}
use Rattle.definitions.specs.Limits.{most_lines, most_item, most_lot, most_quantity, most_recounted}
use Rattle.definitions.specs.Lists.{in_order}
use Rattle.definitions.specs.Means.{Line}
use Rattle.definitions.specs.Events.{pair_before}
use Rattle.definitions.specs.declared.refusals.Refusal.{Refusal}
use Rattle.definitions.specs.declared.refusals.Refusal.TheVariants.{RepeatedLine}
use Rattle.definitions.specs.Clerk.{RawLine, line_of, sheet_of, is_sheet, is_sheet_line, is_ascending, least_quantity, quantity_limit}
use Rattle.definitions.specs.declared.sheet_kind.SheetKind.{SheetKind}
use Rattle.definitions.specs.declared.sheet_kind.SheetKind.TheVariants.{Count as CountSheet, Pick as PickSheet, Recount as RecountSheet}
use Rattle.definitions.proofs.SheetLaws.{sheet_of-is, is_sheet-later}
use Rattle.definitions.proofs.TextLaws.{both_parts}
use Rattle.sheets.specs.Pairs.{pair_cmp}
use Rattle.sheets.specs.Misfits.{misfit_of}
use Rattle.sheets.proofs.OrderLaws.{ascending_same, repeats_fall}
use Rattle.sheets.proofs.RefusalLaws.{fitting}

-- lines that fit and ascend once they are sorted are, sorted, the sheet
pub made : (r : Rules) (kind : SheetKind) (raw sorted : List RawLine) → misfit_of r kind raw ≡ None → IsPermutation raw sorted → IsSorted pair_cmp sorted
    → is_ascending (map line_of sorted) ≡ true → sheet_of r kind raw ≡ Ok (map line_of sorted)
made r kind raw sorted h moved up ascends =
    let lines = in_order pair_before (map line_of raw) in
    let accepted : sheet_of r kind raw ≡ Ok lines = fitting r kind raw h ∙ ap (λ (t : Bool). cond {A = Result (List Line) Refusal} t (Err RepeatedLine) (Ok lines)) (repeats_fall raw sorted moved up true ascends) in
    let sheet = sheet_of-is r kind raw lines accepted in
    let sizes = both_parts (nat_le (length lines) (most_lines r) && list_all (is_sheet_line r kind) lines) (is_ascending lines) sheet.0 in
    let same : lines ≡ map line_of sorted = ascending_same lines (map line_of sorted) sizes.1 ascends
    (λ f. sum_by-IsPermutation f (map line_of raw) (map line_of sorted) (IsPermutation-map line_of raw sorted moved) ∙ sym (sum_by-IsPermutation f (map line_of raw) lines sheet.1)) in
    accepted ∙ ap Ok same

-- lines that fit and don't ascend have a pair twice
pub twice : (r : Rules) (kind : SheetKind) (raw sorted : List RawLine) → misfit_of r kind raw ≡ None → IsPermutation raw sorted → IsSorted pair_cmp sorted
    → is_ascending (map line_of sorted) ≡ false → sheet_of r kind raw ≡ Err RepeatedLine
twice r kind raw sorted h moved up falls =
    fitting r kind raw h ∙ ap (λ (t : Bool). cond {A = Result (List Line) Refusal} t (Err RepeatedLine) (Ok (in_order pair_before (map line_of raw)))) (repeats_fall raw sorted moved up false falls)

pub made_of_kind : (r : Rules) (kind : SheetKind) (raw : List RawLine) (ls : List Line) → sheet_of r kind raw ≡ Ok ls → is_sheet r kind ls ≡ true
made_of_kind r kind raw ls h = (sheet_of-is r kind raw ls h).0

-- a sheet of any kind, by rules 1 or 2, keeps the limits of a recount by rules 2

widened_line : (kind : SheetKind) (l : Line) → is_sheet_line Two kind l ≡ true → is_sheet_line Two RecountSheet l ≡ true
widened_line kind l h =
    let p = both_parts (is_identifier 1 most_item l.item && is_identifier 1 most_lot l.lot && nat_le (least_quantity kind) l.quantity) (nat_le l.quantity (quantity_limit Two kind)) h in
    let q = both_parts (is_identifier 1 most_item l.item && is_identifier 1 most_lot l.lot) (nat_le (least_quantity kind) l.quantity) p.0 in
    both_true (both_true q.0 (le-leb 0 l.quantity (omega arith))) (by_kind kind p.1)
  where
    by_kind : (kind : SheetKind) → nat_le l.quantity (quantity_limit Two kind) ≡ true → nat_le l.quantity most_recounted ≡ true
    by_kind CountSheet e = le-leb l.quantity most_recounted (omega (arith, leb-true l.quantity (most_quantity Two) e))
    by_kind PickSheet e = le-leb l.quantity most_recounted (omega (arith, leb-true l.quantity (most_quantity Two) e))
    by_kind RecountSheet e = e

widened_lines : (kind : SheetKind) (ls : List Line) → list_all (is_sheet_line Two kind) ls ≡ true → list_all (is_sheet_line Two RecountSheet) ls ≡ true
widened_lines kind [] h = refl
widened_lines kind (l ∷ ls) h =
    let p = both_parts (is_sheet_line Two kind l) (list_all (is_sheet_line Two kind) ls) h in
    both_true (widened_line kind l p.0) (widened_lines kind ls p.1)

widened_two : (kind : SheetKind) (ls : List Line) → is_sheet Two kind ls ≡ true → is_sheet Two RecountSheet ls ≡ true
widened_two kind ls h =
    let p = both_parts (nat_le (length ls) (most_lines Two) && list_all (is_sheet_line Two kind) ls) (is_ascending ls) h in
    let q = both_parts (nat_le (length ls) (most_lines Two)) (list_all (is_sheet_line Two kind) ls) p.0 in
    both_true (both_true q.0 (widened_lines kind ls q.1)) p.1

pub widened : (r : Rules) (kind : SheetKind) (ls : List Line) → is_sheet r kind ls ≡ true → is_sheet Two RecountSheet ls ≡ true
widened One kind ls h = widened_two kind ls (is_sheet-later kind ls h)
widened Two kind ls h = widened_two kind ls h

-- the quantities of a sheet's lines

abbrev Fits : RawLine → Type 0
Fits l = value l.quantity ≤ most_recounted

lines_fit : (ls : List RawLine) → list_all (is_sheet_line Two RecountSheet) (map line_of ls) ≡ true → All Fits ls
lines_fit [] h = All-nil Fits
lines_fit (l ∷ ls) h =
    let p = both_parts (is_sheet_line Two RecountSheet (line_of l)) (list_all (is_sheet_line Two RecountSheet) (map line_of ls)) h in
    let q = both_parts (is_identifier 1 most_item l.item && is_identifier 1 most_lot l.lot && nat_le 0 (value l.quantity)) (nat_le (value l.quantity) most_recounted) p.0 in
    All-cons Fits l ls (leb-true (value l.quantity) most_recounted q.1) (lines_fit ls p.1)

pub fits : (ls : List RawLine) → is_sheet Two RecountSheet (map line_of ls) ≡ true → All (λ (l : RawLine). value l.quantity ≤ most_recounted) ls
fits ls h =
    let p = both_parts (nat_le (length (map line_of ls)) (most_lines Two) && list_all (is_sheet_line Two RecountSheet) (map line_of ls)) (is_ascending (map line_of ls)) h in
    lines_fit ls (both_parts (nat_le (length (map line_of ls)) (most_lines Two)) (list_all (is_sheet_line Two RecountSheet) (map line_of ls)) p.0).1
