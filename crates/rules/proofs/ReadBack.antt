-- What a text looks like, and writes this text again, is the act of which it is the canonical one;
-- and every act is found so.
use Rattle.std.proofs.Common.{◌≡◌, ℕ, ◌+◌, ◌^◌, ◌<◌, ◌≤◌, Bool, true, false, not, ◌&&◌, ◌||◌, List, [], ◌∷◌, ◌++◌, refl, sym, ap, ◌∙◌, arith, leb-true, le-leb, le-ltb, lt-ltb, eqb-true, suc, decimal, codes, append_assoc, length, Option, Some, None, Ok, Err, flat_map, filter_map, cond, map, inl, inr, subst, take, get_or}
use Rattle.std.specs.Prelude.{◌==◌, nat_le, nat_lt, bytes_eq, option_and_then, Result, count_by, if◌then◌else◌}
use Rattle.std.specs.List.{list_all, list_any, cons_option}
use Rattle.std.specs.Borrow.{Bor}
use Rattle.std.proofs.lemmas.List.{take_more, length-map, get_or-map}
use Rattle.std.proofs.lemmas.List.Elements.{filter_map-append}
use Rattle.std.specs.Cmp.Derive.{both_true}
use Rattle.std.proofs.lemmas.Bool.{cases_Bool}
use Rattle.std.proofs.lemmas.Fmt.{decimal_nonempty, length-decimal-le}
use Rattle.std.proofs.lemmas.Slice.Eq.{bytes_eq-Decides}
use Rattle.definitions.specs.declared.rules.Rules.{Rules}
use Rattle.definitions.specs.declared.rules.Rules.TheVariants.{One, Two}
use Rattle.definitions.specs.Limits.{most_lines}
use Rattle.definitions.specs.Bytes.{is_between, is_identifier_byte, is_identifier, is_digit, is_number, value}
use Rattle.definitions.specs.Lists.{placed, in_order, has_repeats}
use Rattle.definitions.specs.Means.{Line}
use Rattle.definitions.specs.Events.{is_pair, pair_before}
use Rattle.definitions.specs.declared.refusals.Refusal.{Refusal}
use Rattle.definitions.specs.declared.refusals.Refusal.TheVariants.{TooMuch, RepeatedLine, BadText, TooManyLines}
use Rattle.definitions.specs.Register.{Act, Count, Pick, Recount, canonical, line_text}
use Rattle.definitions.specs.Clerk.{RawLine, is_act, is_sheet, is_sheet_line, is_ascending, quantity_limit, least_quantity, is_too_much, picks_nothing, is_bad_line, same_raw_pair, raw_line, line_of, sheet_of}
use Rattle.definitions.specs.Readings.{parts_at, act_if, act_in, act_of}
use Rattle.definitions.proofs.TextLaws.{both_parts, text_is, all_in, all_both, split_first, split_last, decimal_reads}
use Rattle.definitions.proofs.ReadingLaws.{act_of-canonical, identifier_bytes}
use Rattle.definitions.proofs.SheetLaws.{sheet_of-is}
use Rattle.stock.proofs.Pairs.{ascending_once, count_yes, count_no}
use Rattle.stock.proofs.Sums.{own_pair}
use Rattle.definitions.specs.declared.sheet_kind.SheetKind.TheVariants.{Count as CountSheet, Pick as PickSheet, Recount as RecountSheet}
use Rattle.definitions.specs.declared.sheet_kind.SheetKind.{SheetKind}
use Rattle.rules.specs.ReadActs.{by_kind}
use Rattle.rules.specs.Likely.{ActHead, named_head, head_in, record_in, with_sheet, act_from, act_among, likely_act}

-- ---- lines

-- a line as it is written in a canonical text
abbrev pub raw_of : Line → RawLine
raw_of l = record { item = l.item; lot = l.lot; quantity = decimal l.quantity }

-- a line that a sheet may have
record IsGood (l : Line) : Type 0 where
  item : is_identifier 1 20 l.item ≡ true
  lot : is_identifier 1 12 l.lot ≡ true
  quantity : l.quantity < 10 ^ 9

limit-small : (r : Rules) (kind : SheetKind) → quantity_limit r kind < 10 ^ 9
limit-small One CountSheet = omega arith
limit-small One PickSheet = omega arith
limit-small Two CountSheet = omega arith
limit-small Two PickSheet = omega arith
limit-small r RecountSheet = omega arith

line_good : (r : Rules) (kind : SheetKind) (l : Line) → is_sheet_line r kind l ≡ true → IsGood l
line_good r kind l h =
    let a = both_parts (is_identifier 1 20 l.item && is_identifier 1 12 l.lot && nat_le (least_quantity kind) l.quantity) (nat_le l.quantity (quantity_limit r kind)) h in
    let b = both_parts (is_identifier 1 20 l.item && is_identifier 1 12 l.lot) (nat_le (least_quantity kind) l.quantity) a.0 in
    let c = both_parts (is_identifier 1 20 l.item) (is_identifier 1 12 l.lot) b.0 in
    record { item = c.0; lot = c.1; quantity = omega (arith, leb-true l.quantity (quantity_limit r kind) a.1, limit-small r kind) }

-- the bytes of a line of a canonical text
abbrev is_line_byte : ℕ → Bool
is_line_byte b = is_identifier_byte b || b == 44

abbrev line_body : Line → List ℕ
line_body l = l.item ++ 44 ∷ (l.lot ++ 44 ∷ decimal l.quantity)

in_line : (b : ℕ) → is_identifier_byte b ≡ true → is_line_byte b ≡ true
in_line b h = ap (λ t. t || b == 44) h

digit_is_identifier : (b : ℕ) → is_digit b ≡ true → is_identifier_byte b ≡ true
digit_is_identifier b h = by_upper (is_between 65 90 b)
  where
    by_upper : (u : Bool) → ((u || is_digit b) || b == 45 || b == 46) ≡ true
    by_upper true = refl
    by_upper false = ap (λ t. t || b == 45 || b == 46) h

digits_of : (l : Line) → IsGood l → (list_all is_digit (decimal l.quantity) ≡ true) × (value (decimal l.quantity) ≡ l.quantity)
digits_of l g = decimal_reads l.quantity (omega (arith, g.quantity))

body_bytes : (l : Line) → IsGood l → list_all is_line_byte (line_body l) ≡ true
body_bytes l g =
    let into = all_in is_identifier_byte is_line_byte in_line in
    let digits = all_in is_digit is_line_byte (λ b h. in_line b (digit_is_identifier b h)) (decimal l.quantity) (digits_of l g).0 in
    all_both is_line_byte l.item (44 ∷ (l.lot ++ 44 ∷ decimal l.quantity)) (into l.item (identifier_bytes 1 20 l.item g.item))
    (all_both is_line_byte l.lot (44 ∷ decimal l.quantity) (into l.lot (identifier_bytes 1 12 l.lot g.lot)) digits)

record_in-body : (l : Line) → IsGood l → record_in (line_body l) ≡ Some (raw_of l)
record_in-body l g =
    let last = split_last is_identifier_byte 44 refl (decimal l.quantity) (all_in is_digit is_identifier_byte digit_is_identifier (decimal l.quantity) (digits_of l g).0) in
    let middle = split_first is_identifier_byte 44 refl l.lot (decimal l.quantity) (identifier_bytes 1 12 l.lot g.lot) in
    let first = split_first is_identifier_byte 44 refl l.item (l.lot ++ 44 ∷ decimal l.quantity) (identifier_bytes 1 20 l.item g.item) in
    ap raw_line (first ∙ ap (λ ps. l.item ∷ ps) (middle ∙ ap (λ ps. l.lot ∷ ps) last))

line_end : (l : Line) (rest : List ℕ) → line_text l ++ rest ≡ line_body l ++ 10 ∷ rest
line_end l rest = simp (append_assoc) refl

abbrev AreGood : List Line → Type 0
AreGood [] = Unit {0}
AreGood (l ∷ ls) = IsGood l × AreGood ls

all_good : (r : Rules) (kind : SheetKind) (sheet : List Line) → list_all (is_sheet_line r kind) sheet ≡ true → AreGood sheet
all_good r kind [] h = tt
all_good r kind (l ∷ ls) h = let p = both_parts (is_sheet_line r kind l) (list_all (is_sheet_line r kind) ls) h in (line_good r kind l p.0, all_good r kind ls p.1)

records_read : (sheet : List Line) → AreGood sheet → filter_map record_in (parts_at 10 (flat_map line_text sheet)) ≡ map raw_of sheet
records_read [] g = refl
records_read (l ∷ ls) g =
    ap (λ text. filter_map record_in (parts_at 10 text)) (line_end l (flat_map line_text ls))
    ∙ ap (filter_map record_in) (split_first is_line_byte 10 refl (line_body l) (flat_map line_text ls) (body_bytes l g.0))
    ∙ rw (record_in-body l g.0, records_read ls g.1) refl

-- ---- sheets

same_lines : (sheet : List Line) → AreGood sheet → map line_of (map raw_of sheet) ≡ sheet
same_lines [] g = refl
same_lines (l ∷ ls) g =
    let number = (digits_of l g.0).1 in
    let rest = same_lines ls g.1 in
    λ i. record { item = l.item; lot = l.lot; quantity = number i } ∷ rest i

length-raw : (sheet : List Line) → length (map raw_of sheet) ≡ length sheet
length-raw [] = refl
length-raw (l ∷ ls) = ap suc (length-raw ls)

short : (l : Line) → IsGood l → length (decimal l.quantity) ≤ 9
short l g = length-decimal-le 9 l.quantity (omega arith) (omega (arith, g.quantity)) (omega (arith, g.quantity))

is_some_number : (n : ℕ) → 1 ≤ n → (n == 0) ≡ false
is_some_number n h = by_test (n == 0) refl
  where
    by_test : (b : Bool) → (n == 0) ≡ b → b ≡ false
    by_test true e = absurd (omega (arith, h, eqb-true n 0 e))
    by_test false e = refl

picks_some : (r : Rules) (kind : SheetKind) (l : Line) → is_sheet_line r kind l ≡ true → picks_nothing kind (raw_of l) ≡ false
picks_some r CountSheet l h = refl
picks_some r RecountSheet l h = refl
picks_some r PickSheet l h =
    let g = line_good r PickSheet l h in
    let a = both_parts (is_identifier 1 20 l.item && is_identifier 1 12 l.lot && nat_le 1 l.quantity) (nat_le l.quantity (quantity_limit r PickSheet)) h in
    let b = both_parts (is_identifier 1 20 l.item && is_identifier 1 12 l.lot) (nat_le 1 l.quantity) a.0 in
    let some = leb-true 1 l.quantity b.1 in
    ap (λ t. t && value (decimal l.quantity) == 0) (le-leb (length (decimal l.quantity)) 9 (short l g))
    ∙ is_some_number (value (decimal l.quantity)) (omega (arith, (digits_of l g).1, some))

good_line : (r : Rules) (kind : SheetKind) (l : Line) → is_sheet_line r kind l ≡ true → is_bad_line kind (raw_of l) ≡ false
good_line r kind l h =
    let g = line_good r kind l h in
    let number : is_number (decimal l.quantity) ≡ true = both_true (lt-ltb 0 (length (decimal l.quantity)) (decimal_nonempty l.quantity (omega (arith, g.quantity)))) (digits_of l g).0 in
    λ i. not (g.item i && g.lot i && number i) || picks_some r kind l h i

few : (r : Rules) (kind : SheetKind) (l : Line) → is_sheet_line r kind l ≡ true → is_too_much r kind (raw_of l) ≡ false
few r kind l h =
    let g = line_good r kind l h in
    let a = both_parts (is_identifier 1 20 l.item && is_identifier 1 12 l.lot && nat_le (least_quantity kind) l.quantity) (nat_le l.quantity (quantity_limit r kind)) h in
    let most = leb-true l.quantity (quantity_limit r kind) a.1 in
    let length_is = le-ltb 9 (length (decimal l.quantity)) (short l g) in
    let value_is = le-ltb (quantity_limit r kind) (value (decimal l.quantity)) (omega (arith, most, (digits_of l g).1)) in
    λ i. length_is i || value_is i

none_of : (r : Rules) (p : RawLine → Bool) (kind : SheetKind) → ((l : Line) → is_sheet_line r kind l ≡ true → p (raw_of l) ≡ false)
    → (sheet : List Line) → list_all (is_sheet_line r kind) sheet ≡ true → list_any p (map raw_of sheet) ≡ false
none_of r p kind each [] h = refl
none_of r p kind each (l ∷ ls) h =
    let q = both_parts (is_sheet_line r kind l) (list_all (is_sheet_line r kind) ls) h in
    λ i. each l q.0 i || none_of r p kind each ls q.1 i

flipped : (l k : Line) → same_raw_pair (raw_of l) (raw_of k) ≡ false → is_pair l.item l.lot k ≡ false
flipped l k e = elim (cases_Bool (is_pair l.item l.lot k)) [
  | inl y ↦
      let p = both_parts (bytes_eq k.item l.item) (bytes_eq k.lot l.lot) y in
      let item : bytes_eq l.item k.item ≡ true = (bytes_eq-Decides l.item k.item).1 (sym (text_is k.item l.item p.0)) in
      let lot : bytes_eq l.lot k.lot ≡ true = (bytes_eq-Decides l.lot k.lot).1 (sym (text_is k.lot l.lot p.1)) in
      let both : same_raw_pair (raw_of l) (raw_of k) ≡ true = both_true item lot in
      absurd (cc)
  | inr n ↦ n
]

-- a pair that stands again is counted twice
stands_again : (l : Line) (ls : List Line) → list_any (same_raw_pair (raw_of l)) (map raw_of ls) ≡ true → 1 ≤ count_by (is_pair l.item l.lot) ls
stands_again l [] h = absurd (cc)
stands_again l (k ∷ ks) h = by_test (same_raw_pair (raw_of l) (raw_of k)) refl h (stands_again l ks)
  where
    by_test : (b : Bool) → same_raw_pair (raw_of l) (raw_of k) ≡ b → (b || list_any (same_raw_pair (raw_of l)) (map raw_of ks)) ≡ true
        → (list_any (same_raw_pair (raw_of l)) (map raw_of ks) ≡ true → 1 ≤ count_by (is_pair l.item l.lot) ks) → 1 ≤ count_by (is_pair l.item l.lot) (k ∷ ks)
    by_test true e t later =
        let p = both_parts (bytes_eq l.item k.item) (bytes_eq l.lot k.lot) e in
        let item : bytes_eq k.item l.item ≡ true = (bytes_eq-Decides k.item l.item).1 (sym (text_is l.item k.item p.0)) in
        let lot : bytes_eq k.lot l.lot ≡ true = (bytes_eq-Decides k.lot l.lot).1 (sym (text_is l.lot k.lot p.1)) in
        omega (arith, count_yes (is_pair l.item l.lot) k ks (both_true item lot))
    by_test false e t later =
        let off : is_pair l.item l.lot k ≡ false = flipped l k e in
        omega (arith, later t, count_no (is_pair l.item l.lot) k ks off)

tail_ascends : (l : Line) (ls : List Line) → is_ascending (l ∷ ls) ≡ true → is_ascending ls ≡ true
tail_ascends l [] h = refl
tail_ascends l (k ∷ ks) h = (both_parts (pair_before l k) (is_ascending (k ∷ ks)) h).1

no_repeats : (sheet : List Line) → is_ascending sheet ≡ true → has_repeats same_raw_pair (map raw_of sheet) ≡ false
no_repeats [] h = refl
no_repeats (l ∷ ls) h = by_test (list_any (same_raw_pair (raw_of l)) (map raw_of ls)) refl (no_repeats ls (tail_ascends l ls h))
  where
    by_test : (b : Bool) → list_any (same_raw_pair (raw_of l)) (map raw_of ls) ≡ b → has_repeats same_raw_pair (map raw_of ls) ≡ false → has_repeats same_raw_pair (map raw_of (l ∷ ls)) ≡ false
    by_test true e later =
        absurd (omega (arith, stands_again l ls e, ascending_once l.item l.lot (l ∷ ls) h, count_yes (is_pair l.item l.lot) l ls (own_pair l)))
    by_test false e later = rw e later

-- what ascends is in order
in_order_same : (sheet : List Line) → is_ascending sheet ≡ true → in_order pair_before sheet ≡ sheet
in_order_same [] h = refl
in_order_same (l ∷ ls) h = ap (placed pair_before l) (in_order_same ls (tail_ascends l ls h)) ∙ placed_first ls h
  where
    placed_first : (ks : List Line) → is_ascending (l ∷ ks) ≡ true → placed pair_before l ks ≡ l ∷ ks
    placed_first [] e = refl
    placed_first (k ∷ ks) e = rw ((both_parts (pair_before l k) (is_ascending (k ∷ ks)) e).0) refl

-- a sheet is made of its lines as they are written
sheet_made : (r : Rules) (kind : SheetKind) (sheet : List Line) → is_sheet r kind sheet ≡ true → sheet_of r kind (map raw_of sheet) ≡ Ok sheet
sheet_made r kind sheet h =
    let p = both_parts (nat_le (length sheet) (most_lines r) && list_all (is_sheet_line r kind) sheet) (is_ascending sheet) h in
    let q = both_parts (nat_le (length sheet) (most_lines r)) (list_all (is_sheet_line r kind) sheet) p.0 in
    let few_lines : nat_lt (most_lines r) (length (map raw_of sheet)) ≡ false =
    le-ltb (most_lines r) (length (map raw_of sheet)) (omega (arith, length-raw sheet, leb-true (length sheet) (most_lines r) q.0)) in
    let none_bad = none_of r (is_bad_line kind) kind (good_line r kind) sheet q.1 in
    let none_much = none_of r (is_too_much r kind) kind (few r kind) sheet q.1 in
    let once = no_repeats sheet p.1 in
    let same : in_order pair_before (map line_of (map raw_of sheet)) ≡ sheet = ap (in_order pair_before) (same_lines sheet (all_good r kind sheet q.1)) ∙ in_order_same sheet p.1 in
    λ i. cond (few_lines i) (Err TooManyLines) (cond (none_bad i) (Err BadText) (cond (none_much i) (Err TooMuch) (cond (once i) (Err RepeatedLine) (Ok (same i)))))

sheet_good : (r : Rules) (kind : SheetKind) (sheet : List Line) → is_sheet r kind sheet ≡ true → AreGood sheet
sheet_good r kind sheet h = all_good r kind sheet (both_parts _ _ (both_parts _ _ h).0).1

-- ---- acts

-- a byte of a head: a letter, a space or an identifier's
abbrev is_head_byte : ℕ → Bool
is_head_byte b = is_identifier_byte b || (b == 32 || is_between 97 122 b)

in_head : (b : ℕ) → is_identifier_byte b ≡ true → is_head_byte b ≡ true
in_head b h = ap (λ t. t || (b == 32 || is_between 97 122 b)) h

-- a head and a sheet, from their text
headed : (r : Rules) (head : List ℕ) (h : ActHead) (sheet : List Line) → head_in (parts_at 32 head) ≡ Some h → list_all is_head_byte head ≡ true → is_sheet r h.kind sheet ≡ true
    → likely_act r (head ++ 10 ∷ flat_map line_text sheet) ≡ with_sheet h (Ok sheet)
headed r head h sheet is bytes good =
    ap (act_among r) (split_first is_head_byte 10 refl head (flat_map line_text sheet) bytes)
    ∙ ap (option_and_then (act_from r (filter_map record_in (parts_at 10 (flat_map line_text sheet))))) is
    ∙ ap (λ (rs : List RawLine). with_sheet h (sheet_of r h.kind rs)) (records_read sheet (sheet_good r h.kind sheet good))
    ∙ ap (with_sheet h) (sheet_made r h.kind sheet good)

-- the words of a head with a name
words : (word name : List ℕ) → list_all (is_between 97 122) word ≡ true → list_all is_identifier_byte name ≡ true → parts_at 32 (word ++ 32 ∷ [] ++ name) ≡ word ∷ name ∷ []
words word name w i =
    ap (parts_at 32) (append_assoc word (32 ∷ []) name)
    ∙ split_first (is_between 97 122) 32 refl word name w
    ∙ ap (λ ps. word ∷ ps) (split_last is_identifier_byte 32 refl name i)

named : (r : Rules) (word name : List ℕ) (h : ActHead) (sheet : List Line) → list_all is_head_byte (word ++ 32 ∷ []) ≡ true → list_all (is_between 97 122) word ≡ true
    → is_identifier 1 22 name ≡ true → named_head word name ≡ Some h → is_sheet r h.kind sheet ≡ true
    → likely_act r (word ++ 32 ∷ [] ++ name ++ codes "\n" ++ flat_map line_text sheet) ≡ with_sheet h (Ok sheet)
named r word name h sheet front letters i is good =
    let bytes = identifier_bytes 1 22 name i in
    let ended : word ++ 32 ∷ [] ++ name ++ codes "\n" ++ flat_map line_text sheet ≡ word ++ 32 ∷ [] ++ name ++ 10 ∷ flat_map line_text sheet
    = append_assoc (word ++ 32 ∷ [] ++ name) (10 ∷ []) (flat_map line_text sheet) in
    ap (likely_act r) ended
    ∙ headed r (word ++ 32 ∷ [] ++ name) h sheet (ap head_in (words word name letters bytes) ∙ is)
    (all_both is_head_byte (word ++ 32 ∷ []) name front (all_in is_identifier_byte is_head_byte in_head name bytes)) good

head_is : (word name : List ℕ) (h : Option ActHead) → is_identifier 1 22 name ≡ true
    → (if bytes_eq word (codes "count") then Some (record { kind = CountSheet; number = name }) else (if bytes_eq word (codes "pick") then Some (record { kind = PickSheet; number = name }) else None)) ≡ h
    → named_head word name ≡ h
head_is word name h i is = rw i is

-- every act is found in its canonical text
pub likely-canonical : (r : Rules) (act : Act) → is_act r act ≡ true → likely_act r (canonical act) ≡ Some act
likely-canonical r (Count shipment sheet) h =
    let p = both_parts (is_identifier 1 22 shipment) (is_sheet r CountSheet sheet) h in
    named r (codes "count") shipment (record { kind = CountSheet; number = shipment }) sheet refl refl p.0 (head_is (codes "count") shipment (Some (record { kind = CountSheet; number = shipment })) p.0 refl) p.1
likely-canonical r (Pick number sheet) h =
    let p = both_parts (is_identifier 1 22 number) (is_sheet r PickSheet sheet) h in
    named r (codes "pick") number (record { kind = PickSheet; number = number }) sheet refl refl p.0 (head_is (codes "pick") number (Some (record { kind = PickSheet; number = number })) p.0 refl) p.1
likely-canonical r (Recount sheet) h = headed r (codes "recount") (record { kind = RecountSheet; number = [] }) sheet refl refl h

-- what is found can be given

abbrev IsAct : Rules → Option Act → Type 0
IsAct r None = Unit {0}
IsAct r (Some act) = is_act r act ≡ true

-- a head, with a number where its kind has one
abbrev is_numbered : SheetKind → List ℕ → Bool
is_numbered CountSheet number = is_identifier 1 22 number
is_numbered PickSheet number = is_identifier 1 22 number
is_numbered RecountSheet number = true

abbrev IsHead : Option ActHead → Type 0
IsHead None = Unit {0}
IsHead (Some h) = is_numbered h.kind h.number ≡ true

named_good : (word number : List ℕ) → IsHead (named_head word number)
named_good word number = by_tests (is_identifier 1 22 number) (bytes_eq word (codes "count")) (bytes_eq word (codes "pick")) refl
  where
    by_tests : (a b c : Bool) → is_identifier 1 22 number ≡ a
        → IsHead (cond (not a) None (cond b (Some (record { kind = CountSheet; number = number })) (cond c (Some (record { kind = PickSheet; number = number })) None)))
    by_tests false b c e = tt
    by_tests true true c e = e
    by_tests true false true e = e
    by_tests true false false e = tt

head_good : (words : List (List ℕ)) → IsHead (head_in words)
head_good [] = tt
head_good (word ∷ []) = refl
head_good (word ∷ number ∷ []) = named_good word number
head_good (word ∷ number ∷ other ∷ more) = tt

by_kind_good : (r : Rules) (kind : SheetKind) (number : List ℕ) (sheet : List Line) → is_numbered kind number ≡ true → is_sheet r kind sheet ≡ true → is_act r (by_kind kind number sheet) ≡ true
by_kind_good r CountSheet number sheet h g = both_true h g
by_kind_good r PickSheet number sheet h g = both_true h g
by_kind_good r RecountSheet number sheet h g = g

from_good : (r : Rules) (lines : List RawLine) (h : Option ActHead) → IsHead h → IsAct r (option_and_then (act_from r lines) h)
from_good r lines None good = tt
from_good r lines (Some h) good = by_sheet (sheet_of r h.kind lines) refl
  where
    by_sheet : (o : Result (List Line) Refusal) → sheet_of r h.kind lines ≡ o → IsAct r (with_sheet h o)
    by_sheet (Ok sheet) e = by_kind_good r h.kind h.number sheet good ((sheet_of-is r h.kind lines sheet e).0)
    by_sheet (Err refusal) e = tt

among_good : (r : Rules) (texts : List (List ℕ)) → IsAct r (act_among r texts)
among_good r [] = tt
among_good r (head ∷ lines) = from_good r (filter_map record_in lines) (head_in (parts_at 32 head)) (head_good (parts_at 32 head))

-- an act is read only from its canonical text
pub act_of-is : (r : Rules) (text : List ℕ) (act : Act) → act_of r text ≡ Some act → (is_act r act ≡ true) × (canonical act ≡ text)
act_of-is r text act h = by_act (act_in (parts_at 10 text)) h
  where
    by_act : (o : Option Act) → option_and_then (act_if r text) o ≡ Some act → (is_act r act ≡ true) × (canonical act ≡ text)
    by_act None e = absurd (cc)
    by_act (Some b) e = by_test (is_act r b && bytes_eq (canonical b) text) refl e
      where
        by_test : (t : Bool) → (is_act r b && bytes_eq (canonical b) text) ≡ t → cond t (Some b) None ≡ Some act → (is_act r act ≡ true) × (canonical act ≡ text)
        by_test true f g =
            let same : b ≡ act = cc g in
            let p = both_parts (is_act r b) (bytes_eq (canonical b) text) f in
            (rw (← same) p.0, rw (← same) (text_is (canonical b) text p.1))
        by_test false f g = absurd (cc)

-- nothing is found where no act is read
pub none_read : (r : Rules) (text : List ℕ) → likely_act r text ≡ None → act_of r text ≡ None
none_read r text none = by_read (act_of r text) refl
  where
    by_read : (o : Option Act) → act_of r text ≡ o → o ≡ None
    by_read None e = refl
    by_read (Some act) e =
        let p = act_of-is r text act e in
        let found : likely_act r text ≡ Some act = ap (likely_act r) (sym p.1) ∙ likely-canonical r act p.0 in
        absurd (cc)

-- what is found and writes the text again is read
pub same_read : (r : Rules) (text : List ℕ) (act : Act) → likely_act r text ≡ Some act → canonical act ≡ text → act_of r text ≡ Some act
same_read r text act found same =
    let good : is_act r act ≡ true = subst (IsAct r) found (among_good r (parts_at 10 text)) in
    ap (act_of r) (sym same) ∙ act_of-canonical r act good

-- and what writes another text isn't
pub other_read : (r : Rules) (text : List ℕ) (act : Act) → likely_act r text ≡ Some act → bytes_eq (canonical act) text ≡ false → act_of r text ≡ None
other_read r text act found other = by_read (act_of r text) refl
  where
    by_read : (o : Option Act) → act_of r text ≡ o → o ≡ None
    by_read None e = refl
    by_read (Some b) e =
        let p = act_of-is r text b e in
        let there : likely_act r text ≡ Some b = ap (likely_act r) (sym p.1) ∙ likely-canonical r b p.0 in
        let same : act ≡ b = cc (found, there) in
        let whole : bytes_eq (canonical act) text ≡ true = (bytes_eq-Decides (canonical act) text).1 (ap canonical same ∙ p.1) in
        absurd (cc)

-- Texts one after another.

abbrev now : Bor (List ℕ) → List ℕ
now t = t.now

text_more : (ts : List (Bor (List ℕ))) (i : ℕ) (d : Bor (List ℕ)) → i < length ts → take (i + 1) (map now ts) ≡ take i (map now ts) ++ now (get_or ts i d) ∷ []
text_more ts i d within = take_more (map now ts) i (now d) (omega (arith, within, length-map ts now)) ∙ ap (λ (t : List ℕ). take i (map now ts) ++ t ∷ []) (get_or-map now ts i d (now d) within)

pub more_records : (ts : List (Bor (List ℕ))) (i : ℕ) (d : Bor (List ℕ)) (rs : List RawLine) (o : Option RawLine) → i < length ts → rs ≡ filter_map record_in (take i (map now ts))
    → o ≡ record_in (now (get_or ts i d)) → rs ++ cons_option o [] ≡ filter_map record_in (take (i + 1) (map now ts))
more_records ts i d rs o within is there =
    ap (λ (xs : List RawLine). xs ++ cons_option o []) is
    ∙ ap (λ (x : Option RawLine). filter_map record_in (take i (map now ts)) ++ cons_option x []) there
    ∙ sym (filter_map-append record_in (take i (map now ts)) (now (get_or ts i d) ∷ []))
    ∙ sym (ap (filter_map record_in) (text_more ts i d within))
