-- Texts in which neither a separator nor a terminator stands.
use Rattle.std.proofs.Common.{◌≡◌, ℕ, zero, suc, ◌+◌, ◌-◌, ◌/◌, ◌%◌, Bool, true, false, List, [], ◌∷◌, ◌++◌, length, replicate, refl, ap, arith, eqb-true}
use Rattle.std.specs.Prelude.{codes, decimal, ◌||◌, ◌==◌, if◌then◌else◌, nat_lt}
use Rattle.std.specs.Fmt.{digits, digits_onto, digit_glyph}
use Rattle.std.specs.List.{list_all}
use Rattle.std.specs.Cmp.Derive.{both_true}
use Rattle.std.proofs.lemmas.Bool.Decides.{nat_tests}
use Rattle.definitions.specs.Bytes.{Delims, is_digit, is_identifier_byte, is_data, is_space, padded, zero_filled}
use Rattle.definitions.specs.Cut.{is_inside}
use Rattle.definitions.specs.Header.{is_delimiter, are_delimiters}
use Rattle.definitions.specs.Moments.{Moment, date6, date8, time4}
use Rattle.definitions.specs.Texts.{own_delims, difference}
use Rattle.definitions.proofs.TextLaws.{both_parts, differs, all_in, all_both, between}
use Rattle.definitions.proofs.WrittenLaws.{data_inside}
use Rattle.sets_out.specs.Inside.{IsInside, IsOwn}

-- identifier bytes and spaces, which are no delimiters
abbrev pub is_plain : ℕ → Bool
is_plain b = is_identifier_byte b || is_space b

plain_no_delimiter : (b : ℕ) → is_delimiter b ≡ true → is_plain b ≡ false
plain_no_delimiter b h = grind (arith, nat_tests)

-- a delimiter isn't among them
apart : (d : ℕ) → is_delimiter d ≡ true → (b : ℕ) → is_plain b ≡ true → (b == d) ≡ false
apart d h b p = differs is_plain d (plain_no_delimiter d h) b p

apart_terminator : (t : ℕ) → (is_delimiter t || t == 10) ≡ true → (b : ℕ) → is_plain b ≡ true → (b == t) ≡ false
apart_terminator t h b p = by_test (is_delimiter t) refl h
  where
    by_test : (x : Bool) → is_delimiter t ≡ x → (x || t == 10) ≡ true → (b == t) ≡ false
    by_test true e k = apart t e b p
    by_test false e k = differs is_plain t (ap is_plain (eqb-true t 10 k)) b p

inside_byte : (d : Delims) → are_delimiters d ≡ true → (b : ℕ) → is_plain b ≡ true → is_inside d b ≡ true
inside_byte d g b p =
    let x = both_parts _ _ g in
    let y = both_parts _ _ x.0 in
    let z = both_parts _ _ y.0 in
    rw (apart d.separator z.0 b p, apart_terminator d.terminator y.1 b p) refl

pub inside_plain : (d : Delims) → are_delimiters d ≡ true → (text : List ℕ) → list_all is_plain text ≡ true → IsInside d text
inside_plain d g text h = all_in is_plain (is_inside d) (inside_byte d g) text h

-- identifiers
pub inside_identifier : (d : Delims) → are_delimiters d ≡ true → (text : List ℕ) → list_all is_identifier_byte text ≡ true → IsInside d text
inside_identifier d g text h = inside_plain d g text (all_in is_identifier_byte is_plain (λ b k. ap (λ x. x || is_space b) k) text h)

-- data
pub inside_data : (d : Delims) (text : List ℕ) → list_all (is_data d) text ≡ true → IsInside d text
inside_data d text h = data_inside d text h

-- Digits.

digit_plain : (b : ℕ) → is_digit b ≡ true → is_plain b ≡ true
digit_plain b h = grind (arith, nat_tests)

digits_plain : (text : List ℕ) → list_all is_digit text ≡ true → list_all is_plain text ≡ true
digits_plain text h = all_in is_digit is_plain digit_plain text h

inside_digits : (d : Delims) → are_delimiters d ≡ true → (text : List ℕ) → list_all is_digit text ≡ true → IsInside d text
inside_digits d g text h = inside_plain d g text (digits_plain text h)

last_digit : (n : ℕ) → is_digit (48 + n % 10) ≡ true
last_digit n = between 48 57 (48 + n % 10) (omega arith) (omega arith)

glyph : (n : ℕ) → is_digit (digit_glyph false (n % 10)) ≡ true
glyph n = by_test (nat_lt (n % 10) 10) (grind (arith, nat_tests))
  where
    by_test : (b : Bool) → b ≡ true → is_digit (if b then 48 + n % 10 else 87 + n % 10) ≡ true
    by_test true h = last_digit n
    by_test false h = absurd (cc)

glyphs : (k n : ℕ) (acc : List ℕ) → list_all is_digit acc ≡ true → list_all is_digit (digits_onto k 10 false n acc) ≡ true
glyphs zero n acc h = h
glyphs (suc k) n acc h =
    let here : list_all is_digit (digit_glyph false (n % 10) ∷ acc) ≡ true = both_true (glyph n) h in
    by_test (n / 10 == 0) here (glyphs k (n / 10) (digit_glyph false (n % 10) ∷ acc) here)
  where
    by_test : (b : Bool) → list_all is_digit (digit_glyph false (n % 10) ∷ acc) ≡ true → list_all is_digit (digits_onto k 10 false (n / 10) (digit_glyph false (n % 10) ∷ acc)) ≡ true
        → list_all is_digit (if b then digit_glyph false (n % 10) ∷ acc else digits_onto k 10 false (n / 10) (digit_glyph false (n % 10) ∷ acc)) ≡ true
    by_test true x y = x
    by_test false x y = y

decimal_digits : (n : ℕ) → list_all is_digit (decimal n) ≡ true
unfolding digits
decimal_digits n = glyphs 64 n [] refl

zero_filled_digits : (w n : ℕ) → list_all is_digit (zero_filled w n) ≡ true
zero_filled_digits zero n = refl
zero_filled_digits (suc w) n = all_both is_digit (zero_filled w (n / 10)) ((48 + n % 10) ∷ []) (zero_filled_digits w (n / 10)) (both_true (last_digit n) refl)

pub inside_decimal : (d : Delims) → are_delimiters d ≡ true → (n : ℕ) → IsInside d (decimal n)
inside_decimal d g n = inside_digits d g (decimal n) (decimal_digits n)

pub inside_zero_filled : (d : Delims) → are_delimiters d ≡ true → (w n : ℕ) → IsInside d (zero_filled w n)
inside_zero_filled d g w n = inside_digits d g (zero_filled w n) (zero_filled_digits w n)

three : (a b c : List ℕ) → list_all is_digit a ≡ true → list_all is_digit b ≡ true → list_all is_digit c ≡ true → list_all is_digit (a ++ b ++ c) ≡ true
three a b c x y z = all_both is_digit (a ++ b) c (all_both is_digit a b x y) z

pub inside_date8 : (d : Delims) → are_delimiters d ≡ true → (t : Moment) → IsInside d (date8 t)
inside_date8 d g t = inside_digits d g (date8 t)
    (three (zero_filled 4 t.year) (zero_filled 2 t.month) (zero_filled 2 t.day) (zero_filled_digits 4 t.year) (zero_filled_digits 2 t.month) (zero_filled_digits 2 t.day))

pub inside_date6 : (d : Delims) → are_delimiters d ≡ true → (t : Moment) → IsInside d (date6 t)
inside_date6 d g t = inside_digits d g (date6 t)
    (three (zero_filled 2 t.year) (zero_filled 2 t.month) (zero_filled 2 t.day) (zero_filled_digits 2 t.year) (zero_filled_digits 2 t.month) (zero_filled_digits 2 t.day))

pub inside_time4 : (d : Delims) → are_delimiters d ≡ true → (t : Moment) → IsInside d (time4 t)
inside_time4 d g t = inside_digits d g (time4 t)
    (all_both is_digit (zero_filled 2 t.hour) (zero_filled 2 t.minute) (zero_filled_digits 2 t.hour) (zero_filled_digits 2 t.minute))

-- a difference with its sign
pub inside_difference : (new old : ℕ) → IsOwn (difference new old)
inside_difference new old = by_test (nat_lt new old)
  where
    by_test : (b : Bool) → IsOwn (if b then codes "-" ++ decimal (old - new) else decimal (new - old))
    by_test true = inside_decimal own_delims refl (old - new)
    by_test false = inside_decimal own_delims refl (new - old)

-- an id with its spaces
spaces : (n : ℕ) → list_all is_plain (replicate n 32) ≡ true
spaces zero = refl
spaces (suc n) = spaces n

pub inside_padded : (d : Delims) → are_delimiters d ≡ true → (width : ℕ) (text : List ℕ) → list_all is_identifier_byte text ≡ true → IsInside d (padded width text)
inside_padded d g width text h = inside_plain d g (padded width text)
    (all_both is_plain text (replicate (width - length text) 32) (all_in is_identifier_byte is_plain (λ b k. ap (λ x. x || is_space b) k) text h) (spaces (width - length text)))
