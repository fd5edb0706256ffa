-- Readings give back what was written: moments, partners, acts, deeds, entries.
use Rattle.std.proofs.Common.{◌≡◌, ℕ, ◌^◌, ◌<◌, ◌≤◌, Bool, true, false, ◌&&◌, ◌||◌, List, [], ◌∷◌, ◌++◌, refl, ap, ◌∙◌, arith, leb-true, suc, decimal, codes, append_assoc, length, Option, Some, None, flat_map, filter_map, eqb-true, option_map, cond, ltb-true}
use Rattle.std.specs.Prelude.{◌==◌, nat_le, nat_lt, bytes_eq, option_and_then}
use Rattle.std.specs.List.{list_all}
use Rattle.std.specs.Cmp.Derive.{both_true}
use Rattle.definitions.specs.declared.rules.Rules.{Rules}
use Rattle.definitions.specs.declared.rules.Rules.TheVariants.{One, Two}
use Rattle.definitions.specs.Bytes.{is_between, is_identifier_byte, is_identifier, is_digit, value, zero_filled}
use Rattle.definitions.specs.Moments.{Moment, is_leap, is_day, is_moment, stamp, days_in}
use Rattle.definitions.specs.Header.{Who, is_partner, who_text, who_of, isa}
use Rattle.definitions.specs.Means.{Line}
use Rattle.definitions.specs.Register.{Act, Count, Pick, Recount, Command, Interchange, Enrol, Clerk, Deed, Enrolled, Received, Performed, Entry, canonical, line_text, command_mark, mark, deed_mark, body_of}
use Rattle.definitions.specs.Clerk.{is_act, is_sheet, is_sheet_line, quantity_limit, least_quantity, raw_line, line_of}
use Rattle.definitions.specs.declared.sheet_kind.SheetKind.{SheetKind}
use Rattle.definitions.specs.declared.sheet_kind.SheetKind.TheVariants.{Count as CountSheet, Pick as PickSheet, Recount as RecountSheet}
use Rattle.definitions.specs.Readings.{is_deed, is_entry, moment_in, moment_of, parts_at, line_in, act_by, act_in, act_if, act_of, deed_of, entry_by, entry_from}
use Rattle.definitions.specs.Accepted.{entry_of}
use Rattle.definitions.proofs.TextLaws.{both_parts, same_text, all_in, all_both, split_first, split_last, within, decimal_reads, zero_filled_reads}

-- ---- keys

-- a command's mark is its entry's
pub command_mark-entry : (r : Rules) (c : Command) (t : Moment) → mark (entry_of r c t) ≡ command_mark c
command_mark-entry r (Interchange text) t = refl
command_mark-entry r (Enrol w) t = refl
command_mark-entry r (Clerk w ticket act) t = refl

-- ---- moments

at_most : (b : Bool) (x y k : ℕ) → x ≤ k → y ≤ k → cond b x y ≤ k
at_most true x y k p q = p
at_most false x y k p q = q

days_in-le : (year month : ℕ) → days_in year month ≤ 31
days_in-le year month =
    at_most (month == 2) (cond (is_leap year) 29 28) (cond (month == 4 || month == 6 || month == 9 || month == 11) 30 31) 31
    (at_most (is_leap year) 29 28 31 (omega arith) (omega arith))
    (at_most (month == 4 || month == 6 || month == 9 || month == 11) 30 31 31 (omega arith) (omega arith))

-- each part of a moment has at most its digits
pub record IsShort (t : Moment) : Type 0 where
  pub year : t.year < 10 ^ 4
  pub month : t.month < 10 ^ 2
  pub day : t.day < 10 ^ 2
  pub hour : t.hour < 10 ^ 2
  pub minute : t.minute < 10 ^ 2

pub is_moment-short : (t : Moment) → is_moment t ≡ true → IsShort t
is_moment-short t h =
    let a = both_parts (is_between 2000 2099 t.year && is_day t.year t.month t.day && nat_lt t.hour 24) (nat_lt t.minute 60) h in
    let b = both_parts (is_between 2000 2099 t.year && is_day t.year t.month t.day) (nat_lt t.hour 24) a.0 in
    let c = both_parts (is_between 2000 2099 t.year) (is_day t.year t.month t.day) b.0 in
    let d = both_parts (is_between 1 9999 t.year && is_between 1 12 t.month) (is_between 1 (days_in t.year t.month) t.day) c.1 in
    let e = both_parts (is_between 1 9999 t.year) (is_between 1 12 t.month) d.0 in
    let year = within 2000 2099 t.year c.0 in
    let month = within 1 12 t.month e.1 in
    let day = within 1 (days_in t.year t.month) t.day d.1 in
    let most = days_in-le t.year t.month in
    let hour = ltb-true t.hour 24 b.1 in
    let minute = ltb-true t.minute 60 a.1 in
    record { year = omega (arith, year.1); month = omega (arith, month.1); day = omega (arith, day.1, most); hour = omega (arith, hour); minute = omega (arith, minute) }

moment_in-stamp : (t : Moment) → IsShort t → moment_in (stamp t) ≡ t
moment_in-stamp t s =
    let year : value (zero_filled 4 t.year) ≡ t.year = zero_filled_reads 4 t.year s.year in
    let month : value (zero_filled 2 t.month) ≡ t.month = zero_filled_reads 2 t.month s.month in
    let day : value (zero_filled 2 t.day) ≡ t.day = zero_filled_reads 2 t.day s.day in
    let hour : value (zero_filled 2 t.hour) ≡ t.hour = zero_filled_reads 2 t.hour s.hour in
    let minute : value (zero_filled 2 t.minute) ≡ t.minute = zero_filled_reads 2 t.minute s.minute in
    λ i. record { year = year i; month = month i; day = day i; hour = hour i; minute = minute i }

abbrev moment_if : List ℕ → Moment → Option Moment
moment_if text t = cond (is_moment t && bytes_eq (stamp t) text) (Some t) None

pub moment_of-stamp : (t : Moment) → is_moment t ≡ true → moment_of (stamp t) ≡ Some t
moment_of-stamp t h =
    let read = moment_in-stamp t (is_moment-short t h) in
    ap (moment_if (stamp t)) read ∙ ap (λ b. cond b (Some t) None) (both_true h (same_text (stamp t)))

-- ---- partners

longer : (n : ℕ) → (suc (suc (suc n)) == 2) ≡ true → ⊥
longer n e = omega (arith, eqb-true (suc (suc (suc n))) 2 e)

pub who_of-who_text : (w : Who) → is_partner w ≡ true → who_of (who_text w) ≡ Some w
who_of-who_text w h = by_qualifier w.qualifier w.id h
  where
    who_if : List ℕ → Who → Option Who
    who_if text v = cond (is_partner v && bytes_eq (who_text v) text) (Some v) None

    by_qualifier : (q i : List ℕ) → is_partner (record { qualifier = q; id = i }) ≡ true
        → who_of (who_text (record { qualifier = q; id = i })) ≡ Some (record { qualifier = q; id = i })
    by_qualifier [] i k = absurd (cc)
    by_qualifier (a ∷ []) i k = absurd (cc)
    by_qualifier (a ∷ b ∷ []) i k =
        ap (λ c. cond c (Some (record { qualifier = a ∷ b ∷ []; id = i })) None)
        (both_true k (same_text (who_text (record { qualifier = a ∷ b ∷ []; id = i }))))
    by_qualifier (a ∷ b ∷ c ∷ q) i k = absurd (longer (length q) (both_parts (length (a ∷ b ∷ c ∷ q) == 2) _ (both_parts _ _ k).0).0)

-- ---- acts

-- the bytes of a line of a canonical text
abbrev pub is_line_byte : ℕ → Bool
is_line_byte b = is_identifier_byte b || b == 44

abbrev line_body : Line → List ℕ
line_body l = l.item ++ 44 ∷ (l.lot ++ 44 ∷ decimal l.quantity)

pub identifier_bytes : (least most : ℕ) (text : List ℕ) → is_identifier least most text ≡ true → list_all is_identifier_byte text ≡ true
identifier_bytes least most text h = (both_parts (nat_le least (length text) && nat_le (length text) most) (list_all is_identifier_byte text) h).1

identifier_in_line : (b : ℕ) → is_identifier_byte b ≡ true → is_line_byte b ≡ true
identifier_in_line b h = ap (λ t. t || b == 44) h

digit_is_identifier : (b : ℕ) → is_digit b ≡ true → is_identifier_byte b ≡ true
digit_is_identifier b h = by_upper (is_between 65 90 b)
  where
    by_upper : (u : Bool) → ((u || is_digit b) || b == 45 || b == 46) ≡ true
    by_upper true = refl
    by_upper false = ap (λ t. t || b == 45 || b == 46) h

-- a line that a sheet may have
pub record IsGood (l : Line) : Type 0 where
  pub item : list_all is_identifier_byte l.item ≡ true
  pub lot : list_all is_identifier_byte l.lot ≡ true
  pub quantity : l.quantity < 2 ^ 64

limit-small : (r : Rules) (kind : SheetKind) → quantity_limit r kind < 2 ^ 64
limit-small One CountSheet = omega arith
limit-small Two CountSheet = omega arith
limit-small One PickSheet = omega arith
limit-small Two PickSheet = omega arith
limit-small r RecountSheet = omega arith

pub sheet_line-good : (r : Rules) (kind : SheetKind) (l : Line) → is_sheet_line r kind l ≡ true → IsGood l
sheet_line-good r kind l h =
    let a = both_parts (is_identifier 1 20 l.item && is_identifier 1 12 l.lot && nat_le (least_quantity kind) l.quantity) (nat_le l.quantity (quantity_limit r kind)) h in
    let b = both_parts (is_identifier 1 20 l.item && is_identifier 1 12 l.lot) (nat_le (least_quantity kind) l.quantity) a.0 in
    let c = both_parts (is_identifier 1 20 l.item) (is_identifier 1 12 l.lot) b.0 in
    record {
      item = identifier_bytes 1 20 l.item c.0;
      lot = identifier_bytes 1 12 l.lot c.1;
      quantity = omega (arith, leb-true l.quantity (quantity_limit r kind) a.1, limit-small r kind);
    }

body_bytes : (l : Line) → IsGood l → list_all is_line_byte (line_body l) ≡ true
body_bytes l g =
    let into = all_in is_identifier_byte is_line_byte identifier_in_line in
    let digits = all_in is_digit is_line_byte (λ b h. identifier_in_line b (digit_is_identifier b h)) (decimal l.quantity) (decimal_reads l.quantity g.quantity).0 in
    all_both is_line_byte l.item (44 ∷ (l.lot ++ 44 ∷ decimal l.quantity)) (into l.item g.item)
    (all_both is_line_byte l.lot (44 ∷ decimal l.quantity) (into l.lot g.lot) digits)

line_in-body : (l : Line) → IsGood l → line_in (line_body l) ≡ Some l
line_in-body l g =
    let number = decimal_reads l.quantity g.quantity in
    let last = split_last is_identifier_byte 44 refl (decimal l.quantity) (all_in is_digit is_identifier_byte digit_is_identifier (decimal l.quantity) number.0) in
    let middle = split_first is_identifier_byte 44 refl l.lot (decimal l.quantity) g.lot in
    let first = split_first is_identifier_byte 44 refl l.item (l.lot ++ 44 ∷ decimal l.quantity) g.item in
    ap (λ parts. option_map line_of (raw_line parts)) (first ∙ ap (λ ps. l.item ∷ ps) (middle ∙ ap (λ ps. l.lot ∷ ps) last))
    ∙ (λ i. Some (record { item = l.item; lot = l.lot; quantity = number.1 i }))

-- lines between LF, with what stands after
lines_end : (l : Line) (rest : List ℕ) → line_text l ++ rest ≡ line_body l ++ 10 ∷ rest
lines_end l rest = simp (append_assoc) refl

abbrev AreGood : List Line → Type 0
AreGood [] = Unit {0}
AreGood (l ∷ ls) = IsGood l × AreGood ls

lines_read : (sheet : List Line) → AreGood sheet → filter_map line_in (parts_at 10 (flat_map line_text sheet)) ≡ sheet
lines_read [] g = refl
lines_read (l ∷ ls) g =
    ap (λ text. filter_map line_in (parts_at 10 text)) (lines_end l (flat_map line_text ls))
    ∙ ap (filter_map line_in) (split_first is_line_byte 10 refl (line_body l) (flat_map line_text ls) (body_bytes l g.0))
    ∙ rw (line_in-body l g.0, lines_read ls g.1) refl

all_good : (r : Rules) (kind : SheetKind) (sheet : List Line) → list_all (is_sheet_line r kind) sheet ≡ true → AreGood sheet
all_good r kind [] h = tt
all_good r kind (l ∷ ls) h = let p = both_parts (is_sheet_line r kind l) (list_all (is_sheet_line r kind) ls) h in (sheet_line-good r kind l p.0, all_good r kind ls p.1)

sheet_good : (r : Rules) (kind : SheetKind) (sheet : List Line) → is_sheet r kind sheet ≡ true → AreGood sheet
sheet_good r kind sheet h = all_good r kind sheet (both_parts _ _ (both_parts _ _ h).0).1

-- a byte of a head: a letter, a space or an identifier's
abbrev is_head_byte : ℕ → Bool
is_head_byte b = is_identifier_byte b || (b == 32 || is_between 97 122 b)

identifier_in_head : (b : ℕ) → is_identifier_byte b ≡ true → is_head_byte b ≡ true
identifier_in_head b h = ap (λ t. t || (b == 32 || is_between 97 122 b)) h

-- an act with a name, under its word
named_read : (word name : List ℕ) (sheet : List Line) → list_all is_head_byte (word ++ 32 ∷ []) ≡ true → list_all (is_between 97 122) word ≡ true
    → list_all is_identifier_byte name ≡ true → AreGood sheet
    → act_in (parts_at 10 (word ++ 32 ∷ [] ++ name ++ codes "\n" ++ flat_map line_text sheet)) ≡ act_by (word ∷ name ∷ []) sheet
named_read word name sheet h w i g =
    let ended : word ++ 32 ∷ [] ++ name ++ codes "\n" ++ flat_map line_text sheet ≡ word ++ 32 ∷ [] ++ name ++ 10 ∷ flat_map line_text sheet
    = append_assoc (word ++ 32 ∷ [] ++ name) (10 ∷ []) (flat_map line_text sheet) in
    let head = all_both is_head_byte (word ++ 32 ∷ []) name h (all_in is_identifier_byte is_head_byte identifier_in_head name i) in
    let words : parts_at 32 (word ++ 32 ∷ [] ++ name) ≡ word ∷ name ∷ [] =
    ap (parts_at 32) (append_assoc word (32 ∷ []) name)
    ∙ split_first (is_between 97 122) 32 refl word name w
    ∙ ap (λ ps. word ∷ ps) (split_last is_identifier_byte 32 refl name i) in
    ap (λ text. act_in (parts_at 10 text)) ended
    ∙ ap act_in (split_first is_head_byte 10 refl (word ++ 32 ∷ [] ++ name) (flat_map line_text sheet) head)
    ∙ (λ k. act_by (words k) (lines_read sheet g k))

act_read : (r : Rules) (act : Act) → is_act r act ≡ true → act_in (parts_at 10 (canonical act)) ≡ Some act
act_read r (Count shipment sheet) h =
    let p = both_parts (is_identifier 1 22 shipment) (is_sheet r CountSheet sheet) h in
    named_read (codes "count") shipment sheet refl refl (identifier_bytes 1 22 shipment p.0) (sheet_good r CountSheet sheet p.1)
act_read r (Pick number sheet) h =
    let p = both_parts (is_identifier 1 22 number) (is_sheet r PickSheet sheet) h in
    named_read (codes "pick") number sheet refl refl (identifier_bytes 1 22 number p.0) (sheet_good r PickSheet sheet p.1)
act_read r (Recount sheet) h =
    ap act_in (split_first is_head_byte 10 refl (codes "recount") (flat_map line_text sheet) refl)
    ∙ ap (λ ls. Some (Recount ls)) (lines_read sheet (sheet_good r RecountSheet sheet h))

-- an act is read from its canonical text
pub act_of-canonical : (r : Rules) (act : Act) → is_act r act ≡ true → act_of r (canonical act) ≡ Some act
act_of-canonical r act h =
    ap (option_and_then (act_if r (canonical act))) (act_read r act h)
    ∙ ap (λ b. cond b (Some act) None) (both_true h (same_text (canonical act)))

-- ---- entries

pub deed_of-deed : (r : Rules) (d : Deed) → is_deed r d ≡ true → deed_of r (deed_mark d) (body_of d) ≡ Some d
deed_of-deed r Enrolled h = refl
deed_of-deed r (Received text) h = ap (λ b. cond b (Some (Received text)) None) (same_text (isa text 13))
deed_of-deed r (Performed ticket act) h =
    ap (option_map (Performed ticket)) (act_of-canonical r act (both_parts (is_identifier 1 20 ticket) (is_act r act) h).1)

pub entry_from-entry : (e : Entry) → is_entry e ≡ true → entry_from e.rules (who_text e.who) (mark e) (stamp e.moment) (body_of e.deed) ≡ Some e
entry_from-entry e h =
    let p = both_parts (is_partner e.who && is_moment e.moment) (is_deed e.rules e.deed) h in
    let q = both_parts (is_partner e.who) (is_moment e.moment) p.0 in
    λ i. entry_by e.rules (who_of-who_text e.who q.0 i) (moment_of-stamp e.moment q.1 i) (deed_of-deed e.rules e.deed p.1 i)
