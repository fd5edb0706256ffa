-- The list that a server gives of an outbox tells its documents.
use Rattle.std.proofs.Common.{◌≡◌, ◌∙◌, ℕ, ◌+◌, ◌-◌, ◌%◌, ◌^◌, ◌<◌, ◌≤◌, Bool, true, false, List, [], ◌∷◌, ◌++◌, length, drop, map, filter, replicate, Some, None, refl, ap, sym, arith, append_assoc, All, decimal, codes, zero, suc}
use Rattle.std.specs.Prelude.{◌==◌, not, cond, filter_map, bytes_eq, slice_get, slice_index, if◌then◌else◌, nat_le, nat_lt, option_and_then}
use Rattle.std.specs.List.{AllByRecursion, cons_option, list_all, prefix_len, slice_split}
use Rattle.std.specs.Char.{is_ascii_whitespace}
use Rattle.std.specs.Cmp.Derive.{both_true}
use Rattle.std.proofs.Math.Seq.{drop-append_seam}
use Rattle.std.proofs.lemmas.Bool.{eq-eqb, le-leb}
use Rattle.std.proofs.lemmas.Bool.Decides.{nat_tests}
use Rattle.std.proofs.lemmas.Fmt.{decimal_by_steps, decimal_nonempty, length-decimal-le}
use Rattle.std.proofs.lemmas.List.{length-replicate}
use Rattle.std.proofs.lemmas.List.Elements.{All-cons, All-nil}
use Rattle.std.proofs.lemmas.List.Folds.{prefix_len-append, prefix_len-replicate}
use Rattle.std.proofs.lemmas.List.Splits.{slice_split_at}
use Rattle.definitions.specs.Bytes.{value}
use Rattle.definitions.specs.Reports.{outbox_line, outbox_list}
use Rattle.definitions.specs.Response.{is_plain_number}
use Rattle.definitions.specs.Rows.{OutRow}
use Rattle.definitions.proofs.TextLaws.{all_both, both_parts, decimal_reads}
use Rattle.commands.specs.HandingOn.{is_document}
use Rattle.http_client.specs.Listed.{IsListed, columns_of, document_in, documents_in, numbered_as}

not_it : (t : Bool) → not t ≡ true → t ≡ false
not_it true h = absurd (cc)
not_it false h = refl

-- a list without a byte, element by element
lacks : (c : ℕ) (xs : List ℕ) → list_all (λ b. not (b == c)) xs ≡ true → All (λ b. (b == c) ≡ false) xs
lacks c [] h = All-nil (λ b. (b == c) ≡ false)
lacks c (x ∷ xs) h =
    let p = both_parts (not (x == c)) (list_all (λ b. not (b == c)) xs) h in
    All-cons (λ b. (b == c) ≡ false) x xs (not_it (x == c) p.0) (lacks c xs p.1)

-- the digits of a number that isn't 0: no zero first, six at most, none of them a space or a line end
record IsPlain (n : ℕ) (text : List ℕ) : Type 0 where
  first : ℕ
  rest : List ℕ
  is : text ≡ first ∷ rest
  low : 49 ≤ first
  high : first ≤ 57

starts : (n : ℕ) → n < 2 ^ 64 → 0 < n → IsPlain n (decimal n)
starts n few = decimal_by_steps (λ m text. 0 < m → IsPlain m text)
    (λ m l some. record { first = 48 + m; rest = []; is = refl; low = omega (arith, some); high = omega (arith, l) })
    (λ m text l h some. let more = h (omega (arith, l)) in record { first = more.first; rest = more.rest ++ (48 + m % 10) ∷ []; is = ap (λ ds. ds ++ (48 + m % 10) ∷ []) more.is; low = more.low; high = more.high })
    n few

other_digit : (c d : ℕ) → c < 48 → not (48 + d == c) ≡ true
other_digit c d h = grind (arith, nat_tests, h)

digits_lack : (c : ℕ) → c < 48 → (n : ℕ) → n < 2 ^ 64 → list_all (λ b. not (b == c)) (decimal n) ≡ true
digits_lack c low = decimal_by_steps (λ m text. list_all (λ b. not (b == c)) text ≡ true)
    (λ m l. both_true (other_digit c m low) refl)
    (λ m text l h. all_both (λ b. not (b == c)) text ((48 + m % 10) ∷ []) h (both_true (other_digit c (m % 10) low) refl))

spaces_lack : (k : ℕ) → list_all (λ b. not (b == 10)) (replicate k 32) ≡ true
spaces_lack zero = refl
spaces_lack (suc k) = spaces_lack k

no_space : (b : ℕ) → 49 ≤ b → b ≤ 57 → is_ascii_whitespace b ≡ false
no_space b l h = grind (arith, nat_tests, l, h)

abbrev line_text : OutRow → List ℕ
line_text r = (replicate (6 - length (decimal r.n)) 32 ++ decimal r.n) ++ 32 ∷ (r.kind ++ 32 ∷ r.state)

-- after the spaces before it
behind : (k b : ℕ) (ys : List ℕ) → is_ascii_whitespace b ≡ false → drop (prefix_len is_ascii_whitespace (replicate k 32 ++ b ∷ ys)) (replicate k 32 ++ b ∷ ys) ≡ b ∷ ys
behind k b ys other =
    let spaces = prefix_len-replicate is_ascii_whitespace k 32 refl in
    let blank : List ℕ = replicate k 32 in
    let all : (prefix_len is_ascii_whitespace blank == length blank) ≡ true = eq-eqb (prefix_len is_ascii_whitespace blank) (length blank) (spaces ∙ sym (length-replicate k 32)) in
    let none : prefix_len is_ascii_whitespace (b ∷ ys) ≡ 0 = rw other refl in
    let so_many : prefix_len is_ascii_whitespace (blank ++ b ∷ ys) ≡ length blank =
    prefix_len-append is_ascii_whitespace blank (b ∷ ys) ∙ ap (λ t. cond t (length blank + prefix_len is_ascii_whitespace (b ∷ ys)) (prefix_len is_ascii_whitespace blank)) all
    ∙ ap (λ m. length blank + m) none ∙ omega (arith) in
    ap (λ m. drop m (blank ++ b ∷ ys)) so_many ∙ drop-append_seam blank (b ∷ ys)

module _ (r : OutRow) (listed : IsListed r) where
  few : r.n < 2 ^ 64
  few = omega (arith, listed.most)

  columns : columns_of (line_text r) ≡ decimal r.n ∷ r.kind ∷ slice_split (λ b. b == 32) r.state
  columns =
      let k = 6 - length (decimal r.n) in
      let plain = starts r.n few listed.least in
      let after = plain.rest ++ 32 ∷ (r.kind ++ 32 ∷ r.state) in
      let text : line_text r ≡ replicate k 32 ++ plain.first ∷ after = append_assoc (replicate k 32) (decimal r.n) (32 ∷ (r.kind ++ 32 ∷ r.state)) ∙ ap (λ ds. replicate k 32 ++ (ds ++ 32 ∷ (r.kind ++ 32 ∷ r.state))) plain.is in
      let front = behind k plain.first after (no_space plain.first plain.low plain.high) in
      let back : plain.first ∷ after ≡ decimal r.n ++ 32 ∷ (r.kind ++ 32 ∷ r.state) = ap (λ ds. ds ++ 32 ∷ (r.kind ++ 32 ∷ r.state)) (sym plain.is) in
      ap columns_of text ∙ ap (slice_split (λ b. b == 32)) (front ∙ back)
      ∙ slice_split_at (λ b. b == 32) (decimal r.n) 32 (r.kind ++ 32 ∷ r.state) (lacks 32 (decimal r.n) (digits_lack 32 (omega arith) r.n few)) refl
      ∙ ap (λ xs. decimal r.n ∷ xs) (slice_split_at (λ b. b == 32) r.kind 32 r.state (lacks 32 r.kind listed.kind) refl)

  plainly : is_plain_number (decimal r.n) ≡ true
  plainly =
      let plain = starts r.n few listed.least in
      let there : nat_lt 0 (length (decimal r.n)) ≡ true = let long = decimal_nonempty r.n few in grind (arith, long) in
      let short : nat_le (length (decimal r.n)) 6 ≡ true = le-leb (length (decimal r.n)) 6 (length-decimal-le 6 r.n (omega arith) listed.most few) in
      let first : not (slice_index (decimal r.n) 0 == 48) ≡ true = ap (λ ds. not (slice_index ds 0 == 48)) plain.is ∙ (let low = plain.low in grind (arith, nat_tests, low)) in
      both_true (both_true (both_true there (decimal_reads r.n few).0) short) first

  told : document_in (line_text r) ≡ (if bytes_eq r.kind (codes "ANS") then None else Some r.n)
  told = ap (λ cs. option_and_then (λ number. option_and_then (numbered_as number) (slice_get cs 1)) (slice_get cs 0)) columns
      ∙ ap (λ t. if bytes_eq r.kind (codes "ANS") then None else (if t then Some (value (decimal r.n)) else None)) plainly
      ∙ ap (λ m. if bytes_eq r.kind (codes "ANS") then None else Some m) (decimal_reads r.n few).1

  whole : list_all (λ b. not (b == 10)) (line_text r) ≡ true
  whole = all_both (λ b. not (b == 10)) (replicate (6 - length (decimal r.n)) 32 ++ decimal r.n) (32 ∷ (r.kind ++ 32 ∷ r.state))
      (all_both (λ b. not (b == 10)) (replicate (6 - length (decimal r.n)) 32) (decimal r.n) (spaces_lack (6 - length (decimal r.n))) (digits_lack 10 (omega arith) r.n few))
      listed.line

one_line : (r : OutRow) → outbox_line r ≡ line_text r ++ 10 ∷ []
one_line r = refl

rest_told : (t : Bool) (r : OutRow) (rows : List OutRow) (ns : List ℕ) → ns ≡ map (λ r. r.n) (filter is_document rows)
    → cons_option (if t then None else Some r.n) ns ≡ map (λ r. r.n) (cond (not t) (r ∷ filter is_document rows) (filter is_document rows))
rest_told true r rows ns h = h
rest_told false r rows ns h = ap (λ xs. r.n ∷ xs) h

-- a list of rows tells the numbers of the documents among them
pub list_tells : (rows : List OutRow) → AllByRecursion IsListed rows → documents_in (outbox_list rows) ≡ map (λ r. r.n) (filter is_document rows)
list_tells [] all = refl
list_tells (r ∷ rows) all =
    let cut : slice_split (λ b. b == 10) (outbox_list (r ∷ rows)) ≡ line_text r ∷ slice_split (λ b. b == 10) (outbox_list rows) =
    ap (slice_split (λ b. b == 10)) (append_assoc (line_text r) (10 ∷ []) (outbox_list rows))
    ∙ slice_split_at (λ b. b == 10) (line_text r) 10 (outbox_list rows) (lacks 10 (line_text r) (whole r all.0)) refl in
    ap (filter_map document_in) cut ∙ ap (λ d. cons_option d (documents_in (outbox_list rows))) (told r all.0)
    ∙ rest_told (bytes_eq r.kind (codes "ANS")) r rows (documents_in (outbox_list rows)) (list_tells rows all.1)
