-- A text that makes no sheet has a record that is the reason.
use Rattle.std.proofs.Common.{◌≡◌, ℕ, zero, suc, ◌+◌, ◌<◌, ◌≤◌, Bool, true, false, cond, ◌||◌, List, [], ◌∷◌, ◌++◌, map, length, take, Some, Result, Ok, Err, refl, ap, sym, ◌∙◌, arith, lt-ltb, ltb, ltb-true, ltb-false, eq-eqb}
use Rattle.std.specs.Prelude.{is_none, is_some, nat_lt, not, ◌&&◌, ◌==◌}
use Rattle.std.specs.List.{list_any, list_all, filter_map}
use Rattle.std.proofs.lemmas.Bool.{not-false}
use Rattle.std.proofs.lemmas.List.{length-take, length-append, length-map, take_all}
use Rattle.definitions.specs.Rules.{Today}
use Rattle.definitions.specs.declared.widths.TheConstants.{SHEET_DIGITS}
use Rattle.definitions.specs.Bytes.{is_identifier, is_number, is_digit, value}
use Rattle.definitions.specs.Limits.{most_lines, most_item, most_lot, most_recounted}
use Rattle.definitions.specs.Lists.{has_repeats, in_order}
use Rattle.definitions.specs.Events.{pair_before}
use Rattle.definitions.specs.Means.{Line}
use Rattle.definitions.specs.declared.refusals.Refusal.{Refusal}
use Rattle.definitions.specs.declared.refusals.Refusal.TheVariants.{TooMuch, RepeatedLine, BadText, TooManyLines}
use Rattle.definitions.specs.Clerk.{RawLine, raw_line, line_of, is_bad_line, is_too_much, picks_nothing, same_raw_pair, sheet_of, sheet_of_records}
use Rattle.definitions.specs.declared.sheet_kind.SheetKind.{SheetKind}
use Rattle.definitions.specs.declared.sheet_kind.SheetKind.TheVariants.{Count as CountSheet, Pick as PickSheet, Recount as RecountSheet}
use Rattle.definitions.proofs.TextLaws.{both_parts}
use Rattle.csv.specs.Records.{field_at}
use Rattle.segments.proofs.DigitsLemmas.{few_digits}
use Rattle.sheet_texts.specs.Reasons.{line_in, each_after, first_reason, is_reason, is_unread, is_over}
use Rattle.sheet_texts.proofs.ReasonLaws.{is_some-find}

-- Looking through records, each with those before it.

either : (a b : Bool) → (a || b) ≡ true → (P : Type 0) → (a ≡ true → P) → (b ≡ true → P) → P
either true b h P f g = f refl
either false b h P f g = g h

right_so : (a b : Bool) → b ≡ true → (a || b) ≡ true
right_so true b h = refl
right_so false b h = h

left_so : (a b : Bool) → a ≡ true → (a || b) ≡ true
left_so true b h = refl
left_so false b h = absurd (cc)

-- what one of the records is, is found after any others
one_is : (q : List (List ℕ) → Bool) (p : List (List (List ℕ)) × List (List ℕ) → Bool) → ((before : List (List (List ℕ))) (x : List (List ℕ)) → q x ≡ true → p (before, x) ≡ true)
    → (before rows : List (List (List ℕ))) → list_any q rows ≡ true → list_any p (each_after before rows) ≡ true
one_is q p f before [] h = absurd (cc)
one_is q p f before (x ∷ rows) h =
    either (q x) (list_any q rows) h (list_any p (each_after before (x ∷ rows)) ≡ true)
    (λ e. left_so (p (before, x)) (list_any p (each_after (before ++ x ∷ []) rows)) (f before x e))
    (λ e. right_so (p (before, x)) (list_any p (each_after (before ++ x ∷ []) rows)) (one_is q p f (before ++ x ∷ []) rows e))

-- the record after so many others
one_after : (n : ℕ) (before rows : List (List (List ℕ))) (k : ℕ) → length before + k ≡ n → k < length rows → list_any (λ p. length p.0 == n) (each_after before rows) ≡ true
one_after n before [] k e lt = absurd (omega (arith, lt))
one_after n before (x ∷ rows) zero e lt = left_so (length before == n) (list_any (λ p. length p.0 == n) (each_after (before ++ x ∷ []) rows)) (eq-eqb (length before) n (omega (arith, e)))
one_after n before (x ∷ rows) (suc k) e lt =
    right_so (length before == n) (list_any (λ p. length p.0 == n) (each_after (before ++ x ∷ []) rows))
    (one_after n (before ++ x ∷ []) rows k (omega (arith, e, length-append before (x ∷ []))) (omega (arith, lt)))

any-append : (q : List (List ℕ) → Bool) (xs : List (List (List ℕ))) (y : List (List ℕ)) → list_any q xs ≡ true → list_any q (xs ++ y ∷ []) ≡ true
any-append q [] y h = absurd (cc)
any-append q (x ∷ xs) y h =
    either (q x) (list_any q xs) h (list_any q (x ∷ (xs ++ y ∷ [])) ≡ true)
    (λ e. left_so (q x) (list_any q (xs ++ y ∷ [])) e)
    (λ e. right_so (q x) (list_any q (xs ++ y ∷ [])) (any-append q xs y e))

any-last : (q : List (List ℕ) → Bool) (xs : List (List (List ℕ))) (y : List (List ℕ)) → q y ≡ true → list_any q (xs ++ y ∷ []) ≡ true
any-last q [] y h = left_so (q y) false h
any-last q (x ∷ xs) y h = right_so (q x) (list_any q (xs ++ y ∷ [])) (any-last q xs y h)

-- whether one of those before it is the same
abbrev Again : (List (List ℕ) → List (List ℕ) → Bool) → List (List (List ℕ)) × List (List ℕ) → Bool
Again same p = list_any (λ other. same other p.1) p.0

-- a record that stands before others, of which one is the same
again_later : (same : List (List ℕ) → List (List ℕ) → Bool) (x : List (List ℕ)) (before rows : List (List (List ℕ))) → ((q : List (List ℕ) → Bool) → q x ≡ true → list_any q before ≡ true)
    → list_any (same x) rows ≡ true → list_any (Again same) (each_after before rows) ≡ true
again_later same x before [] has h = absurd (cc)
again_later same x before (y ∷ rows) has h =
    either (same x y) (list_any (same x) rows) h (list_any (Again same) (each_after before (y ∷ rows)) ≡ true)
    (λ e. left_so (Again same (before, y)) (list_any (Again same) (each_after (before ++ y ∷ []) rows)) (has (λ other. same other y) e))
    (λ e. right_so (Again same (before, y)) (list_any (Again same) (each_after (before ++ y ∷ []) rows))
    (again_later same x (before ++ y ∷ []) rows (λ q g. any-append q before y (has q g)) e))

again : (same : List (List ℕ) → List (List ℕ) → Bool) (before rows : List (List (List ℕ))) → has_repeats same rows ≡ true → list_any (Again same) (each_after before rows) ≡ true
again same before [] h = absurd (cc)
again same before (x ∷ rows) h =
    right_so (Again same (before, x)) (list_any (Again same) (each_after (before ++ x ∷ []) rows))
    (either (list_any (same x) rows) (has_repeats same rows) h (list_any (Again same) (each_after (before ++ x ∷ []) rows) ≡ true)
    (λ e. again_later same x (before ++ x ∷ []) rows (λ q g. any-last q before x g) e)
    (λ e. again same (before ++ x ∷ []) rows e))

any-map : {X Y : Type 0} (f : X → Y) (q : Y → Bool) (xs : List X) → list_any q (map f xs) ≡ list_any (λ x. q (f x)) xs
any-map f q [] = refl
any-map f q (x ∷ xs) = ap (λ t. q (f x) || t) (any-map f q xs)

repeats-map : {X Y : Type 0} (f : X → Y) (same : Y → Y → Bool) (xs : List X) → has_repeats same (map f xs) ≡ has_repeats (λ a b. same (f a) (f b)) xs
repeats-map f same [] = refl
repeats-map f same (x ∷ xs) =
    ap (λ t. t || has_repeats same (map f xs)) (any-map f (same (f x)) xs)
    ∙ ap (λ t. list_any (λ y. same (f x) (f y)) xs || t) (repeats-map f same xs)

-- Lines.

none_parts : (a b : Bool) → (a || b) ≡ false → (a ≡ false) × (b ≡ false)
none_parts true b h = absurd (cc)
none_parts false b h = (refl, h)

line_is : (fields : List (List ℕ)) → is_none (raw_line fields) ≡ false → raw_line fields ≡ Some (line_in fields)
unfolding field_at
line_is [] h = absurd (cc)
line_is (a ∷ []) h = absurd (cc)
line_is (a ∷ b ∷ []) h = absurd (cc)
line_is (a ∷ b ∷ d ∷ []) h = refl
line_is (a ∷ b ∷ d ∷ e ∷ fields) h = absurd (cc)

-- the lines of records of three fields
lines_are : (rows : List (List (List ℕ))) → list_any (λ fields. is_none (raw_line fields)) rows ≡ false → filter_map raw_line rows ≡ map line_in rows
lines_are [] h = refl
lines_are (fields ∷ rows) h =
    let p = none_parts (is_none (raw_line fields)) (list_any (λ r. is_none (raw_line r)) rows) h in
    rw (line_is fields p.0) (ap (λ ls. line_in fields ∷ ls) (lines_are rows p.1))

-- the quantity of a line that can be read is digits
read_digits : (kind : SheetKind) (l : RawLine) → is_bad_line kind l ≡ false → list_all is_digit l.quantity ≡ true
read_digits kind l good =
    let texts = is_identifier 1 most_item l.item && is_identifier 1 most_lot l.lot in
    let all = not-false (texts && is_number l.quantity) (none_parts (not (texts && is_number l.quantity)) (picks_nothing kind l) good).0 in
    (both_parts (nat_lt 0 (length l.quantity)) (list_all is_digit l.quantity) (both_parts texts (is_number l.quantity) all).1).1

-- digits of a great value are more than nine
long_of : (text : List ℕ) → list_all is_digit text ≡ true → most_recounted < value text → SHEET_DIGITS < length text
long_of text digits great = by_length (ltb SHEET_DIGITS (length text)) refl
  where
    by_length : (t : Bool) → ltb SHEET_DIGITS (length text) ≡ t → SHEET_DIGITS < length text
    by_length true e = ltb-true SHEET_DIGITS (length text) e
    by_length false e = absurd (omega (arith, great, few_digits SHEET_DIGITS text (ltb-false SHEET_DIGITS (length text) e) digits))

-- a line that can be read and is too much is told
over : (kind : SheetKind) (l : RawLine) → is_bad_line kind l ≡ false → is_too_much Today kind l ≡ true → is_over kind l ≡ true
over CountSheet l good h = h
over PickSheet l good h = h
over RecountSheet l good h =
    either (nat_lt SHEET_DIGITS (length l.quantity)) (nat_lt most_recounted (value l.quantity)) h (nat_lt SHEET_DIGITS (length l.quantity) ≡ true)
    (λ long. long)
    (λ great. lt-ltb SHEET_DIGITS (length l.quantity) (long_of l.quantity (read_digits RecountSheet l good) (ltb-true most_recounted (value l.quantity) great)))

-- too much among lines that can be read
over_one : (kind : SheetKind) (ls : List (List (List ℕ))) → list_any (λ r. is_bad_line kind (line_in r)) ls ≡ false → list_any (λ r. is_too_much Today kind (line_in r)) ls ≡ true
    → list_any (λ r. is_over kind (line_in r)) ls ≡ true
over_one kind [] good h = absurd (cc)
over_one kind (r ∷ ls) good h =
    let p = none_parts (is_bad_line kind (line_in r)) (list_any (λ s. is_bad_line kind (line_in s)) ls) good in
    either (is_too_much Today kind (line_in r)) (list_any (λ s. is_too_much Today kind (line_in s)) ls) h (list_any (λ s. is_over kind (line_in s)) (r ∷ ls) ≡ true)
    (λ e. left_so (is_over kind (line_in r)) (list_any (λ s. is_over kind (line_in s)) ls) (over kind (line_in r) p.0 e))
    (λ e. right_so (is_over kind (line_in r)) (list_any (λ s. is_over kind (line_in s)) ls) (over_one kind ls p.1 e))

-- Refusals.

-- one of the records is a reason
abbrev Reasoned : SheetKind → List (List (List ℕ)) → Refusal → Type 0
Reasoned kind rows r = is_some (first_reason kind r rows) ≡ true

reasoned : (kind : SheetKind) (rows : List (List (List ℕ))) (r : Refusal) → list_any (λ p. is_reason kind p.0 p.1 r) (each_after [] rows) ≡ true → Reasoned kind rows r
reasoned kind rows r h = is_some-find (λ p. is_reason kind p.0 p.1 r) (each_after [] rows) ∙ h

unread_reason : (kind : SheetKind) (rows : List (List (List ℕ))) (q : List (List ℕ) → Bool) → ((x : List (List ℕ)) → q x ≡ true → is_unread kind x ≡ true) → list_any q rows ≡ true → Reasoned kind rows BadText
unread_reason kind rows q f h = reasoned kind rows BadText (one_is q (λ p. is_reason kind p.0 p.1 BadText) (λ before x e. f x e) [] rows h)

over_reason : (kind : SheetKind) (rows : List (List (List ℕ))) → list_any (λ x. is_over kind (line_in x)) rows ≡ true → Reasoned kind rows TooMuch
over_reason kind rows h = reasoned kind rows TooMuch (one_is (λ x. is_over kind (line_in x)) (λ p. is_reason kind p.0 p.1 TooMuch) (λ before x e. e) [] rows h)

repeated_reason : (kind : SheetKind) (rows : List (List (List ℕ))) → has_repeats (λ a b. same_raw_pair (line_in a) (line_in b)) rows ≡ true → Reasoned kind rows RepeatedLine
repeated_reason kind rows h = reasoned kind rows RepeatedLine (again (λ a b. same_raw_pair (line_in a) (line_in b)) [] rows h)

many_reason : (kind : SheetKind) (rows : List (List (List ℕ))) → most_lines Today < length rows → Reasoned kind rows TooManyLines
many_reason kind rows h = reasoned kind rows TooManyLines (one_after (most_lines Today) [] rows (most_lines Today) (omega arith) h)

no_three : (kind : SheetKind) (fields : List (List ℕ)) → is_none (raw_line fields) ≡ true → is_unread kind fields ≡ true
no_three kind fields h =
    left_so (is_none (raw_line fields)) (is_bad_line kind (line_in fields)) h

bad_line : (kind : SheetKind) (fields : List (List ℕ)) → is_bad_line kind (line_in fields) ≡ true → is_unread kind fields ≡ true
bad_line kind fields h =
    right_so (is_none (raw_line fields)) (is_bad_line kind (line_in fields)) h

-- of records of three fields, no more than a sheet may have
lines_reason : (kind : SheetKind) (rows : List (List (List ℕ))) (r : Refusal) → length rows ≤ most_lines Today → sheet_of Today kind (map line_in rows) ≡ Err r → Reasoned kind rows r
lines_reason kind rows r few h =
    by_tests (nat_lt (most_lines Today) (length (map line_in rows))) (list_any (is_bad_line kind) (map line_in rows)) (list_any (is_too_much Today kind) (map line_in rows)) (has_repeats same_raw_pair (map line_in rows))
    refl refl refl refl h
  where
    sheet : List Line
    sheet = in_order pair_before (map line_of (map line_in rows))

    by_tests : (a b c d : Bool) → nat_lt (most_lines Today) (length (map line_in rows)) ≡ a → list_any (is_bad_line kind) (map line_in rows) ≡ b → list_any (is_too_much Today kind) (map line_in rows) ≡ c → has_repeats same_raw_pair (map line_in rows) ≡ d
        → cond {A = Result (List Line) Refusal} a (Err TooManyLines) (cond b (Err BadText) (cond c (Err TooMuch) (cond d (Err RepeatedLine) (Ok sheet)))) ≡ Err r → Reasoned kind rows r
    by_tests true b c d e f g i k = absurd (omega (arith, few, length-map rows line_in, ltb-true (most_lines Today) (length (map line_in rows)) e))
    by_tests false true c d e f g i k =
        let same : r ≡ BadText = cc in
        rw same (unread_reason kind rows (λ x. is_bad_line kind (line_in x)) (bad_line kind) (sym (any-map line_in (is_bad_line kind) rows) ∙ f))
    by_tests false false true d e f g i k =
        let same : r ≡ TooMuch = cc in
        rw same (over_reason kind rows (over_one kind rows (sym (any-map line_in (is_bad_line kind) rows) ∙ f) (sym (any-map line_in (is_too_much Today kind) rows) ∙ g)))
    by_tests false false false true e f g i k =
        let same : r ≡ RepeatedLine = cc in
        rw same (repeated_reason kind rows (sym (repeats-map line_in same_raw_pair rows) ∙ i))
    by_tests false false false false e f g i k = absurd (cc)

pub refused_reason : (kind : SheetKind) (rows : List (List (List ℕ))) (r : Refusal) → sheet_of_records Today kind rows ≡ Err r → Reasoned kind (take (most_lines Today + 1) rows) r
refused_reason kind rows r h =
    by_tests (nat_lt (most_lines Today) (length rows)) (list_any (λ fields. is_none (raw_line fields)) rows) refl refl h
  where
    few : nat_lt (most_lines Today) (length rows) ≡ false → length rows ≤ most_lines Today
    few e = ltb-false (most_lines Today) (length rows) e

    all : nat_lt (most_lines Today) (length rows) ≡ false → take (most_lines Today + 1) rows ≡ rows
    all e = take_all (most_lines Today + 1) rows (omega (arith, few e))

    by_tests : (a b : Bool) → nat_lt (most_lines Today) (length rows) ≡ a → list_any (λ fields. is_none (raw_line fields)) rows ≡ b
        → cond {A = Result (List Line) Refusal} a (Err TooManyLines) (cond b (Err BadText) (sheet_of Today kind (filter_map raw_line rows))) ≡ Err r → Reasoned kind (take (most_lines Today + 1) rows) r
    by_tests true b e f k =
        let same : r ≡ TooManyLines = cc in
        rw same (many_reason kind (take (most_lines Today + 1) rows) (omega (arith, ltb-true (most_lines Today) (length rows) e, length-take (most_lines Today + 1) rows)))
    by_tests false true e f k =
        let same : r ≡ BadText = cc in
        rw (same, all e) (unread_reason kind rows (λ fields. is_none (raw_line fields)) (no_three kind) f)
    by_tests false false e f k = rw (all e) (lines_reason kind rows r (few e) (ap (sheet_of Today kind) (sym (lines_are rows f)) ∙ k))
