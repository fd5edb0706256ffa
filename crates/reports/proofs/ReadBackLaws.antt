-- The text of lines reads as a sheet of just them, where a sheet may have them.
use Rattle.std.proofs.Common.{◌≡◌, ℕ, zero, suc, ◌+◌, ◌^◌, ◌<◌, ◌≤◌, Bool, true, false, not, cond, ◌&&◌, ◌||◌, List, [], ◌∷◌, ◌++◌, map, length, filter_map, refl, sym, ap, subst, ◌∙◌, arith, leb-true, le-leb, le-ltb, lt-ltb, eqb-true, append_assoc, length-append, decimal, Option, Some, Ok, Err}
use Rattle.std.specs.Prelude.{◌==◌, nat_le, nat_lt, bytes_eq, Result, is_none}
use Rattle.std.specs.List.{list_all, list_any}
use Rattle.std.specs.Cmp.Derive.{both_true}
use Rattle.std.proofs.lemmas.List.{length-map}
use Rattle.std.proofs.lemmas.Fmt.{decimal_nonempty, length-decimal-le}
use Rattle.std.proofs.lemmas.Slice.Eq.{bytes_eq-Decides}
use Rattle.csv.specs.Machine.{next_record}
use Rattle.csv.specs.Reading.{records, records_from, records_next, default_config, strip_bom}
use Rattle.csv.specs.Writing.{default_writer, needs_byte, field_text, fields_text, is_blank, row_text}
use Rattle.csv.specs.declared.parser.State.TheVariants as st
use Rattle.csv.proofs.RoundTrip.{read-write-many}
use Rattle.definitions.specs.declared.rules.Rules.{Rules}
use Rattle.definitions.specs.declared.rules.Rules.TheVariants.{One, Two}
use Rattle.definitions.specs.declared.sheet_kind.SheetKind.{SheetKind}
use Rattle.definitions.specs.declared.sheet_kind.SheetKind.TheVariants.{Count as CountSheet, Pick as PickSheet, Recount as RecountSheet}
use Rattle.definitions.specs.Limits.{most_lines}
use Rattle.definitions.specs.Bytes.{is_upper, is_identifier_byte, is_identifier, is_digit, is_number, value}
use Rattle.definitions.specs.Lists.{in_order, has_repeats}
use Rattle.definitions.specs.Means.{Line}
use Rattle.definitions.specs.Events.{same_pair, pair_before}
use Rattle.definitions.specs.Page.{PageAdvice, PageOrder}
use Rattle.definitions.specs.declared.refusals.Refusal.{Refusal}
use Rattle.definitions.specs.declared.refusals.Refusal.TheVariants.{AdviceClosed, OrderClosed, TooMuch, RepeatedLine, BadText, TooManyLines}
use Rattle.definitions.specs.Register.{line_text}
use Rattle.definitions.specs.Clerk.{RawLine, is_sheet_line, quantity_limit, least_quantity, is_too_much, picks_nothing, is_bad_line, same_raw_pair, raw_line, line_of, sheet_of, sheet_of_records}
use Rattle.definitions.proofs.TextLaws.{both_parts, text_is, all_in, differs, decimal_reads}
use Rattle.definitions.proofs.ReadingLaws.{identifier_bytes}
use Rattle.reports.specs.Opened.{told}
use Rattle.reports.specs.PairLines.{lines_text, MayBeSheet, ReadsBack}
use Rattle.reports.specs.Receiving as receiving
use Rattle.reports.specs.PickSheets as picks

-- ---- lines

-- the fields of a line, and the line as it is read
abbrev fields_in : Line → List (List ℕ)
fields_in l = l.item ∷ l.lot ∷ decimal l.quantity ∷ []

abbrev raw_of : Line → RawLine
raw_of l = record { item = l.item; lot = l.lot; quantity = decimal l.quantity }

-- a line that a sheet may have
record IsGood (l : Line) : Type 0 where
  item : is_identifier 1 20 l.item ≡ true
  lot : is_identifier 1 12 l.lot ≡ true
  quantity : l.quantity < 10 ^ 9

limit-small : (r : Rules) (kind : SheetKind) → quantity_limit r kind < 10 ^ 9
limit-small One CountSheet = omega arith
limit-small One PickSheet = omega arith
limit-small Two CountSheet = omega arith
limit-small Two PickSheet = omega arith
limit-small r RecountSheet = omega arith

-- what is asked of a line, part by part
record AreParts (r : Rules) (kind : SheetKind) (l : Line) : Type 0 where
  good : IsGood l
  least : least_quantity kind ≤ l.quantity
  most : l.quantity ≤ quantity_limit r kind

parts_of : (r : Rules) (kind : SheetKind) (l : Line) → is_sheet_line r kind l ≡ true → AreParts r kind l
parts_of r kind l h =
    let a = both_parts (is_identifier 1 20 l.item && is_identifier 1 12 l.lot && nat_le (least_quantity kind) l.quantity) (nat_le l.quantity (quantity_limit r kind)) h in
    let b = both_parts (is_identifier 1 20 l.item && is_identifier 1 12 l.lot) (nat_le (least_quantity kind) l.quantity) a.0 in
    let c = both_parts (is_identifier 1 20 l.item) (is_identifier 1 12 l.lot) b.0 in
    let most = leb-true l.quantity (quantity_limit r kind) a.1 in
    record {
      good = record { item = c.0; lot = c.1; quantity = omega (arith, most, limit-small r kind) };
      least = leb-true (least_quantity kind) l.quantity b.1;
      most = most;
    }

abbrev AreGood : List Line → Type 0
AreGood [] = Unit {0}
AreGood (l ∷ ls) = IsGood l × AreGood ls

all_good : (r : Rules) (kind : SheetKind) (ls : List Line) → list_all (is_sheet_line r kind) ls ≡ true → AreGood ls
all_good r kind [] h = tt
all_good r kind (l ∷ ls) h =
    let p = both_parts (is_sheet_line r kind l) (list_all (is_sheet_line r kind) ls) h in
    ((parts_of r kind l p.0).good, all_good r kind ls p.1)

digits_of : (l : Line) → IsGood l → (list_all is_digit (decimal l.quantity) ≡ true) × (value (decimal l.quantity) ≡ l.quantity)
digits_of l g = decimal_reads l.quantity (omega (arith, g.quantity))

-- ---- records

-- no byte of an identifier or a number calls for quotes
plain_byte : (b : ℕ) → is_identifier_byte b ≡ true → needs_byte default_writer b ≡ false
plain_byte b h =
    let comma = differs is_identifier_byte 44 refl b h in
    let quote = differs is_identifier_byte 34 refl b h in
    let return = differs is_identifier_byte 13 refl b h in
    let feed = differs is_identifier_byte 10 refl b h in
    rw (comma, quote, return, feed) refl

plain_bytes : (xs : List ℕ) → list_all is_identifier_byte xs ≡ true → list_any (needs_byte default_writer) xs ≡ false
plain_bytes [] h = refl
plain_bytes (x ∷ xs) h =
    let p = both_parts (is_identifier_byte x) (list_all is_identifier_byte xs) h in
    λ i. plain_byte x p.0 i || plain_bytes xs p.1 i

same_field : (xs : List ℕ) → list_all is_identifier_byte xs ≡ true → field_text default_writer xs ≡ xs
same_field xs h = rw (plain_bytes xs h) refl

digit_is_identifier : (b : ℕ) → is_digit b ≡ true → is_identifier_byte b ≡ true
digit_is_identifier b h = by_upper (is_upper b)
  where
    by_upper : (u : Bool) → ((u || is_digit b) || b == 45 || b == 46) ≡ true
    by_upper true = refl
    by_upper false = ap (λ t. t || b == 45 || b == 46) h

-- a line is the record that the writer would write
row_is : (l : Line) → IsGood l → row_text default_writer (fields_in l) ≡ line_text l
unfolding is_blank fields_text
row_is l g =
    let item = same_field l.item (identifier_bytes 1 20 l.item g.item) in
    let lot = same_field l.lot (identifier_bytes 1 12 l.lot g.lot) in
    let quantity = same_field (decimal l.quantity) (all_in is_digit is_identifier_byte digit_is_identifier (decimal l.quantity) (digits_of l g).0) in
    let plain : (l.item ++ 44 ∷ (l.lot ++ 44 ∷ (decimal l.quantity ++ []))) ++ 10 ∷ [] ≡ line_text l = simp append_assoc in
    (λ i. (item i ++ 44 ∷ (lot i ++ 44 ∷ (quantity i ++ []))) ++ 10 ∷ []) ∙ plain

read_row : (l : Line) (rest : List ℕ) → IsGood l → next_record default_config st.StartRecord [] [] (line_text l ++ rest) ≡ Some (fields_in l, st.StartRecord, rest)
read_row l rest g =
    ap (λ text. next_record default_config st.StartRecord [] [] (text ++ rest)) (sym (row_is l g))
    ∙ read-write-many l.item l.lot (decimal l.quantity ∷ []) rest

all_read : (n : ℕ) (ls : List Line) → AreGood ls → length ls ≤ n → records_from default_config n st.StartRecord (lines_text ls) ≡ map fields_in ls
unfolding records_from next_record
all_read zero [] g few = refl
all_read zero (l ∷ ls) g few = absurd (omega (arith, few))
all_read (suc n) [] g few = refl
all_read (suc n) (l ∷ ls) g few =
    ap (records_next (records_from default_config n)) (read_row l (lines_text ls) g.0)
    ∙ ap (λ rows. fields_in l ∷ rows) (all_read n ls g.1 (omega (arith, few)))

-- each line has a byte at least
long : (ls : List Line) → length ls ≤ length (lines_text ls)
long [] = omega arith
long (l ∷ ls) = omega (
  arith,
  long ls,
  length-append (line_text l) (lines_text ls),
  length-append (l.item ++ 44 ∷ [] ++ l.lot ++ 44 ∷ [] ++ decimal l.quantity) (10 ∷ []),
)

-- no byte order mark stands before an identifier
first_kept : (b : ℕ) (text : List ℕ) → (b == 239) ≡ false → strip_bom (b ∷ text) ≡ b ∷ text
unfolding strip_bom
first_kept b [] h = refl
first_kept b (c ∷ []) h = refl
first_kept b (c ∷ d ∷ rest) h = rw h refl

kept : (item more : List ℕ) → is_identifier 1 20 item ≡ true → strip_bom (item ++ more) ≡ item ++ more
kept [] more h = absurd (cc)
kept (b ∷ bs) more h =
    let first = both_parts (is_identifier_byte b) (list_all is_identifier_byte bs) (identifier_bytes 1 20 (b ∷ bs) h) in
    first_kept b (bs ++ more) (differs is_identifier_byte 239 refl b first.0)

unmarked : (ls : List Line) → AreGood ls → strip_bom (lines_text ls) ≡ lines_text ls
unfolding strip_bom
unmarked [] g = refl
unmarked (l ∷ ls) g =
    let begins : line_text l ++ lines_text ls ≡ l.item ++ (44 ∷ (l.lot ++ 44 ∷ (decimal l.quantity ++ 10 ∷ lines_text ls))) = simp append_assoc in
    ap strip_bom begins ∙ kept l.item (44 ∷ (l.lot ++ 44 ∷ (decimal l.quantity ++ 10 ∷ lines_text ls))) g.0.item ∙ sym begins

records_are : (ls : List Line) → AreGood ls → records default_config (strip_bom (lines_text ls)) ≡ map fields_in ls
records_are ls g =
    ap (records default_config) (unmarked ls g) ∙ all_read (length (lines_text ls) + 1) ls g (omega (arith, long ls))

-- ---- sheets

raw_lines : (ls : List Line) → filter_map raw_line (map fields_in ls) ≡ map raw_of ls
raw_lines [] = refl
raw_lines (l ∷ ls) = ap (λ rs. raw_of l ∷ rs) (raw_lines ls)

all_even : (ls : List Line) → list_any (λ fields. is_none (raw_line fields)) (map fields_in ls) ≡ false
all_even [] = refl
all_even (l ∷ ls) = all_even ls

same_lines : (ls : List Line) → AreGood ls → map line_of (map raw_of ls) ≡ ls
same_lines [] g = refl
same_lines (l ∷ ls) g =
    let number = (digits_of l g.0).1 in
    let rest = same_lines ls g.1 in
    λ i. record { item = l.item; lot = l.lot; quantity = number i } ∷ rest i

short : (l : Line) → IsGood l → length (decimal l.quantity) ≤ 9
short l g = length-decimal-le 9 l.quantity (omega arith) (omega (arith, g.quantity)) (omega (arith, g.quantity))

is_some_number : (n : ℕ) → 1 ≤ n → (n == 0) ≡ false
is_some_number n h = by_test (n == 0) refl
  where
    by_test : (b : Bool) → (n == 0) ≡ b → b ≡ false
    by_test true e = absurd (omega (arith, h, eqb-true n 0 e))
    by_test false e = refl

picks_some : (r : Rules) (kind : SheetKind) (l : Line) → AreParts r kind l → picks_nothing kind (raw_of l) ≡ false
picks_some r CountSheet l p = refl
picks_some r RecountSheet l p = refl
picks_some r PickSheet l p =
    ap (λ t. t && value (decimal l.quantity) == 0) (le-leb (length (decimal l.quantity)) 9 (short l p.good))
    ∙ is_some_number (value (decimal l.quantity)) (omega (arith, (digits_of l p.good).1, p.least))

line_reads : (r : Rules) (kind : SheetKind) (l : Line) → is_sheet_line r kind l ≡ true → is_bad_line kind (raw_of l) ≡ false
line_reads r kind l h =
    let p = parts_of r kind l h in
    let number : is_number (decimal l.quantity) ≡ true =
    both_true (lt-ltb 0 (length (decimal l.quantity)) (decimal_nonempty l.quantity (omega (arith, p.good.quantity)))) (digits_of l p.good).0 in
    λ i. not (p.good.item i && p.good.lot i && number i) || picks_some r kind l p i

line_fits : (r : Rules) (kind : SheetKind) (l : Line) → is_sheet_line r kind l ≡ true → is_too_much r kind (raw_of l) ≡ false
line_fits r kind l h =
    let p = parts_of r kind l h in
    let length_is = le-ltb 9 (length (decimal l.quantity)) (short l p.good) in
    let value_is = le-ltb (quantity_limit r kind) (value (decimal l.quantity)) (omega (arith, p.most, (digits_of l p.good).1)) in
    λ i. length_is i || value_is i

none_of : (r : Rules) (kind : SheetKind) (p : RawLine → Bool) → ((l : Line) → is_sheet_line r kind l ≡ true → p (raw_of l) ≡ false)
    → (ls : List Line) → list_all (is_sheet_line r kind) ls ≡ true → list_any p (map raw_of ls) ≡ false
none_of r kind p each [] h = refl
none_of r kind p each (l ∷ ls) h =
    let q = both_parts (is_sheet_line r kind l) (list_all (is_sheet_line r kind) ls) h in
    λ i. each l q.0 i || none_of r kind p each ls q.1 i

either_way : (a b : List ℕ) → bytes_eq a b ≡ bytes_eq b a
either_way a b = by_tests (bytes_eq a b) (bytes_eq b a) refl refl
  where
    by_tests : (s t : Bool) → bytes_eq a b ≡ s → bytes_eq b a ≡ t → s ≡ t
    by_tests true t e f = sym ((bytes_eq-Decides b a).1 (sym (text_is a b e))) ∙ f
    by_tests false true e f = sym e ∙ (bytes_eq-Decides a b).1 (sym (text_is b a f))
    by_tests false false e f = refl

any_raw : (l : Line) (ls : List Line) → list_any (same_raw_pair (raw_of l)) (map raw_of ls) ≡ list_any (same_pair l) ls
any_raw l [] = refl
any_raw l (k ∷ ks) = λ i. (either_way l.item k.item i && either_way l.lot k.lot i) || any_raw l ks i

repeats_raw : (ls : List Line) → has_repeats same_raw_pair (map raw_of ls) ≡ has_repeats same_pair ls
repeats_raw [] = refl
repeats_raw (l ∷ ls) = λ i. any_raw l ls i || repeats_raw ls i

sheet_made : (r : Rules) (kind : SheetKind) (ls : List Line) → MayBeSheet r kind ls → sheet_of r kind (map raw_of ls) ≡ Ok (in_order pair_before ls)
sheet_made r kind ls m =
    let few : nat_lt (most_lines r) (length (map raw_of ls)) ≡ false = le-ltb (most_lines r) (length (map raw_of ls)) (omega (arith, length-map ls raw_of, m.few)) in
    let none_bad = none_of r kind (is_bad_line kind) (line_reads r kind) ls m.good in
    let none_much = none_of r kind (is_too_much r kind) (line_fits r kind) ls m.good in
    let once = repeats_raw ls ∙ m.once in
    let same = ap (in_order pair_before) (same_lines ls (all_good r kind ls m.good)) in
    λ i. cond (few i) (Err TooManyLines) (cond (none_bad i) (Err BadText) (cond (none_much i) (Err TooMuch) (cond (once i) (Err RepeatedLine) (Ok (same i)))))

records_made : (r : Rules) (kind : SheetKind) (ls : List Line) → length ls ≤ most_lines r → sheet_of_records r kind (map fields_in ls) ≡ sheet_of r kind (map raw_of ls)
records_made r kind ls few =
    let all : nat_lt (most_lines r) (length (map fields_in ls)) ≡ false = le-ltb (most_lines r) (length (map fields_in ls)) (omega (arith, length-map ls fields_in, few)) in
    λ i. cond (all i) (Err TooManyLines) (cond (all_even ls i) (Err BadText) (sheet_of r kind (raw_lines ls i)))

read_back : (r : Rules) (kind : SheetKind) (ls : List Line) → ReadsBack r kind (lines_text ls) ls
read_back r kind ls m =
    ap (sheet_of_records r kind) (records_are ls (all_good r kind ls m.good))
    ∙ records_made r kind ls m.few
    ∙ sheet_made r kind ls m

-- ---- of a page

abbrev text_or : List ℕ → Result (List ℕ) Refusal → List ℕ
text_or text (Ok found) = found
text_or text (Err refusal) = text

-- the text that is told of something is told where that is open
open_told : {X : Type 0} (f : X → List ℕ) (x : X) (refusal : Refusal) (text : List ℕ) (t : Bool) → told f (cond t (Ok x) (Err refusal)) ≡ Ok text → f x ≡ text
open_told f x refusal text true h = ap (text_or []) h
open_told f x refusal text false h = absurd (cc)

pub count_back : (found : Option PageAdvice) (text : List ℕ) → receiving.csv_on found ≡ Ok text → (r : Rules) (k : PageAdvice) → found ≡ Some k → ReadsBack r CountSheet text k.lines
count_back found text h r k e =
    let same : lines_text k.lines ≡ text = open_told (λ (k : PageAdvice). lines_text k.lines) k AdviceClosed text k.is_open (ap receiving.csv_on (sym e) ∙ h) in
    subst (λ t. ReadsBack r CountSheet t k.lines) same (read_back r CountSheet k.lines)

pub pick_back : (found : Option PageOrder) (text : List ℕ) → picks.csv_on found ≡ Ok text → (r : Rules) (k : PageOrder) → found ≡ Some k → ReadsBack r PickSheet text (picks.held_pairs k)
pick_back found text h r k e =
    let same : lines_text (picks.held_pairs k) ≡ text = open_told (λ (k : PageOrder). lines_text (picks.held_pairs k)) k OrderClosed text k.is_open (ap picks.csv_on (sym e) ∙ h) in
    subst (λ t. ReadsBack r PickSheet t (picks.held_pairs k)) same (read_back r PickSheet (picks.held_pairs k))
