-- What is read as the beginning of a register.
use Rattle.std.proofs.Common.{rules, ◌≡◌, ◌<◌, ◌^◌, ◌-◌, ◌+◌, ℕ, suc, Bool, true, cond, Ok, Option, Some, None, List, [], ◌∷◌, ◌++◌, length, length-append, take, drop, get_or, position, codes, decimal, refl, sym, ap, ◌∙◌, arith, append_assoc, nat_lt}
use Rattle.std.specs.Prelude.{◌==◌, nat_le, if◌then◌else◌, bytes_eq}
use Rattle.std.specs.List.{list_all, position_or_len}
use Rattle.std.specs.Option.{option_zip}
use Rattle.std.specs.Cmp.Derive.{both_true}
use Rattle.hex.specs.Hex.{IsBytes, decode_sized, lower_digits}
use Rattle.hex.proofs.HexLemmas.{length-encode_with, decode_pairs-encode_with, IsDigits-lower_digits}
use Rattle.std.proofs.lemmas.Bool.{eqb-true}
use Rattle.std.proofs.lemmas.Fmt.{decimal_nonempty, length-decimal-le}
use Rattle.std.proofs.lemmas.List.{drop_at, take_at, take-append-drop, take_rest}
use Rattle.std.proofs.lemmas.List.Quantifiers.{position-Some}
use Rattle.std.proofs.Math.Seq.{drop-cons}
use Rattle.definitions.specs.Bytes.{is_digit, value}
use Rattle.definitions.proofs.TextLaws.{both_parts, decimal_reads, differs, same_text}
use Rattle.definitions.specs.Register.{Entry}
use Rattle.seals.specs.Noted.{beginning_at, beginning_in, begins_so, entries_in, is_seal}
use Rattle.seals.specs.Seals.{seal_in, seal_of, seal_of_first, seal_text, written_so}
use Rattle.seals.specs.declared.seal.TheConstants.{SEAL_BYTES}

-- The parts of a text.

pub read_none : (text : List ℕ) → None ≡ position (λ b. b == 58) text → None ≡ beginning_in text
read_none text h = ap (beginning_at text) h

-- no seal is asked for where there is no number
pub read_no_number : (text : List ℕ) (colon : ℕ) → Some colon ≡ position (λ b. b == 58) text → None ≡ entries_in (take colon text) → None ≡ beginning_in text
read_no_number text colon at number =
    (λ i. option_zip (number i) (seal_in (drop (colon + 1) text))) ∙ ap (beginning_at text) at

pub read_zipped : (text : List ℕ) (colon : ℕ) (n : Option ℕ) (seal : Option (List ℕ)) → Some colon ≡ position (λ b. b == 58) text
    → n ≡ entries_in (take colon text) → seal ≡ seal_in (take (length text - (colon + 1)) (drop (colon + 1) text)) → option_zip n seal ≡ beginning_in text
read_zipped text colon n seal at number behind =
    let is : seal ≡ seal_in (drop (colon + 1) text) = behind ∙ ap seal_in (take_rest text (colon + 1)) in
    (λ i. option_zip (number i) (is i)) ∙ ap (beginning_at text) at

-- What is written is read back.

pub seal_back : (seal : List ℕ) → length seal ≡ SEAL_BYTES → IsBytes seal → seal_in (seal_text seal) ≡ Some seal
seal_back seal long bytes =
    let len = length-encode_with lower_digits seal in
    let pairs = decode_pairs-encode_with lower_digits IsDigits-lower_digits 0 seal bytes in
    let sized : decode_sized (seal_text seal) 32 ≡ Ok seal = grind (arith) in
    ap (written_so (seal_text seal)) sized ∙ search rules

pub seal_only : (text seal : List ℕ) → seal_in text ≡ Some seal → text ≡ seal_text seal
seal_only text seal h = search rules

-- behind digits stands the first colon
first_colon : (ds rest : List ℕ) → list_all is_digit ds ≡ true → position_or_len (λ b. b == 58) (ds ++ 58 ∷ rest) ≡ length ds
first_colon [] rest h = refl
first_colon (d ∷ ds) rest h =
    let p = both_parts (is_digit d) (list_all is_digit ds) h in
    rw (differs is_digit 58 refl d p.0) (omega (arith, first_colon ds rest p.1))

colon_there : (ds rest : List ℕ) → list_all is_digit ds ≡ true → position (λ b. b == 58) (ds ++ 58 ∷ rest) ≡ Some (length ds)
colon_there ds rest h =
    let at = first_colon ds rest h in
    let long : length (ds ++ 58 ∷ rest) ≡ length ds + length (58 ∷ rest) = length-append ds (58 ∷ rest) in
    let inside : nat_lt (length ds) (length (ds ++ 58 ∷ rest)) ≡ true = grind (arith, long) in
    ap (λ (n : ℕ). cond (nat_lt n (length (ds ++ 58 ∷ rest))) (Some n) None) at ∙ ap (λ (t : Bool). cond t (Some (length ds)) None) inside

-- so digits of a number and those of a seal are read
pub parts_read : (ds rest : List ℕ) (n : ℕ) (seal : List ℕ) → list_all is_digit ds ≡ true → entries_in ds ≡ Some n → seal_in rest ≡ Some seal → beginning_in (ds ++ 58 ∷ rest) ≡ Some (n, seal)
parts_read ds rest n seal digits number sealed =
    let before : take (length ds) (ds ++ 58 ∷ rest) ≡ ds = take_at ds (58 ∷ rest) (length ds) refl in
    let split : (ds ++ 58 ∷ []) ++ rest ≡ ds ++ 58 ∷ rest = append_assoc ds (58 ∷ []) rest in
    let behind : drop (length ds + 1) (ds ++ 58 ∷ rest) ≡ rest =
    ap (drop (length ds + 1)) (sym split) ∙ drop_at (ds ++ 58 ∷ []) rest (length ds + 1) (length-append ds (58 ∷ [])) in
    ap (beginning_at (ds ++ 58 ∷ rest)) (colon_there ds rest digits)
    ∙ (λ i. option_zip (entries_in (before i)) (seal_in (behind i)))
    ∙ (λ i. option_zip (number i) (sealed i))

-- a number of at most nine digits is read
number_read : (n : ℕ) → n < 10 ^ 9 → entries_in (decimal n) ≡ Some n
number_read n few =
    let reads = decimal_reads n (omega (arith, few)) in
    let there : nat_lt 0 (length (decimal n)) ≡ true = let long = decimal_nonempty n (omega (arith, few)) in grind (arith, long) in
    let short : nat_le (length (decimal n)) 9 ≡ true = let most = length-decimal-le 9 n (omega arith) few (omega (arith, few)) in grind (arith, most) in
    ap (λ (t : Bool). if t then Some (value (decimal n)) else None) (both_true there (both_true short reads.0)) ∙ ap Some reads.1

pub text_read : (n : ℕ) (seal : List ℕ) → n < 10 ^ 9 → seal_in (seal_text seal) ≡ Some seal → beginning_in (decimal n ++ codes ":" ++ seal_text seal) ≡ Some (n, seal)
text_read n seal few back =
    ap beginning_in (append_assoc (decimal n) (codes ":") (seal_text seal))
    ∙ parts_read (decimal n) (seal_text seal) n seal (decimal_reads n (omega (arith, few))).0 (number_read n few) back

-- And no other text is.

-- both are there
zipped : (n : Option ℕ) (seal : Option (List ℕ)) (b : ℕ × List ℕ) → option_zip n seal ≡ Some b → (n ≡ Some b.0) × (seal ≡ Some b.1)
zipped (Some n) (Some seal) b h = let same : (n, seal) ≡ b = cc in (ap (λ (p : ℕ × List ℕ). Some p.0) same, ap (λ (p : ℕ × List ℕ). Some p.1) same)
zipped (Some n) None b h = absurd (let wrong : ◌≡◌ {A = Option (ℕ × List ℕ)} None (Some b) = h in cc)
zipped None seal b h = absurd (let wrong : ◌≡◌ {A = Option (ℕ × List ℕ)} None (Some b) = h in cc)

-- what is read is a number, a colon and a seal
pub record IsWrittenSo (text : List ℕ) (b : ℕ × List ℕ) : Type 0 where
  pub digits : List ℕ
  pub behind : List ℕ
  pub number : entries_in digits ≡ Some b.0
  pub sealed : seal_in behind ≡ Some b.1
  pub is : text ≡ digits ++ 58 ∷ behind

by_colon : (text : List ℕ) (b : ℕ × List ℕ) (colon : Option ℕ) → position (λ c. c == 58) text ≡ colon → beginning_at text colon ≡ Some b → IsWrittenSo text b
by_colon text b None at h = absurd (let wrong : ◌≡◌ {A = Option (ℕ × List ℕ)} None (Some b) = h in cc)
by_colon text b (Some colon) at h =
    let found = position-Some (λ c. c == 58) text colon 0 at in
    let both = zipped (entries_in (take colon text)) (seal_in (drop (colon + 1) text)) b h in
    let next : suc colon ≡ colon + 1 = omega arith in
    let it : get_or text colon 0 ≡ 58 = eqb-true (get_or text colon 0) 58 found.1 in
    record {
      digits = take colon text;
      behind = drop (colon + 1) text;
      number = both.0;
      sealed = both.1;
      is = sym (take-append-drop colon text)
          ∙ ap (λ (r : List ℕ). take colon text ++ r) (drop-cons text colon 0 found.0)
          ∙ (λ i. take colon text ++ it i ∷ drop (next i) text);
    }

pub only_so : (text : List ℕ) (b : ℕ × List ℕ) → beginning_in text ≡ Some b → IsWrittenSo text b
only_so text b h = by_colon text b (position (λ c. c == 58) text) refl h

-- A register that begins so.

seal_is : (seal : List ℕ) (found : Option (List ℕ)) → found ≡ Some seal → is_seal seal found ≡ true
seal_is seal None h = absurd (let wrong : ◌≡◌ {A = Option (List ℕ)} None (Some seal) = h in cc)
seal_is seal (Some other) h = let same : other ≡ seal = cc in ap (bytes_eq other) (sym same) ∙ same_text other

begins : (b : ℕ × List ℕ) (L : List Entry) → seal_of_first b.0 L ≡ Some b.1 → begins_so b L ≡ true
begins b L h = seal_is b.1 (seal_of_first b.0 L) h

-- the first entries are those that it goes on from
pub stays : (L M : List Entry) → begins_so (length L, seal_of L) (L ++ M) ≡ true
stays L M =
    let long = length-append L M in
    let fits : nat_le (length L) (length (L ++ M)) ≡ true = grind (arith, long) in
    let first : take (length L) (L ++ M) ≡ L = take_at L M (length L) refl in
    begins (length L, seal_of L) (L ++ M)
    (ap (λ (t : Bool). if t then Some (seal_of (take (length L) (L ++ M))) else None) fits ∙ ap (λ (N : List Entry). Some (seal_of N)) first)
