-- Partners from their parts, and from their text.
use Rattle.std.proofs.Common.{◌≡◌, ℕ, ◌+◌, ◌-◌, ◌≤◌, Bool, true, false, List, [], ◌∷◌, ◌++◌, length, get_or, take, drop, suc, refl, sym, subst, ◌∙◌, ap, arith, Some, None, length-drop}
use Rattle.std.specs.Prelude.{◌&&◌, if◌then◌else◌, nat_le, bytes_eq, Option}
use Rattle.std.specs.List.{list_all}
use Rattle.std.specs.Prelude.{replicate, IsTrue}
use Rattle.segments.proofs.FilledLemmas.{filled}
use Rattle.definitions.proofs.TextLaws.{both_parts}
use borrow.Author.Tests.{leb-true}
use Rattle.std.proofs.Math.Seq.{take-append_seam}
use Rattle.std.proofs.lemmas.List.{take_all}
use Rattle.std.proofs.lemmas.Slice.Eq.{bytes_eq-Decides}
use Rattle.definitions.specs.Bytes.{is_identifier, is_identifier_byte, is_alphanumeric}
use Rattle.definitions.specs.Header.{Who, is_partner, who_of, who_text}
use Rattle.definitions.specs.Limits.{least_partner, most_partner}
use Rattle.segments.specs.Filled.{IsFilled, partner_in}
use borrow.Rule.Slice.PartMut.{post_of}

-- what stands between two ends is the whole
whole_text : (text : List ℕ) → 3 ≤ length text → get_or text 2 0 ≡ 45 → take 2 text ++ 45 ∷ [] ++ drop 3 text ≡ text
whole_text [] h e = absurd (omega (arith, h))
whole_text (a ∷ []) h e = absurd (omega (arith, h))
whole_text (a ∷ b ∷ []) h e = absurd (omega (arith, h))
whole_text (a ∷ b ∷ x ∷ xs) h e = ap (λ y. a ∷ b ∷ y ∷ xs) (sym e)

and_true : (b : Bool) → (b && true) ≡ b
and_true true = refl
and_true false = refl

-- a text with `-` after the qualifier is read as its parts
pub written_partner : (text id : List ℕ) (result : Option Who) → 3 ≤ length text → get_or text 2 0 ≡ 45 → id ≡ take (length text - 3) (drop 3 text)
    → (let w : Who = record { qualifier = take 2 text; id = id } in result ≡ (if is_partner w then Some w else None)) → result ≡ who_of text
written_partner text id result long dash front h =
    let all : id ≡ drop 3 text = front ∙ take_all (length text - 3) (drop 3 text) (omega (arith, length-drop {A = ℕ})) in
    let w : Who = record { qualifier = take 2 text; id = drop 3 text } in
    let same : bytes_eq (who_text w) text ≡ true = (bytes_eq-Decides (who_text w) text).1 (whole_text text long dash) in
    rw all at h ∙ ap (λ (b : Bool). if b then Some w else None) (sym (and_true (is_partner w)) ∙ ap (λ b. is_partner w && b) (sym same))

short_id : (id : List ℕ) → is_identifier least_partner most_partner id ≡ true → length id ≤ most_partner
short_id id h =
    let parts = both_parts (nat_le least_partner (length id) && nat_le (length id) most_partner) (list_all is_identifier_byte id) h in
    leb-true (length id) most_partner ((both_parts (nat_le least_partner (length id)) (nat_le (length id) most_partner) parts.0).1)

abbrev pair_of : List ℕ → List ℕ → Who
pair_of q i = record { qualifier = q; id = i }

-- what is kept of a partner
abbrev IsWhole : List ℕ → ℕ → Type 0
IsWhole text n = IsFilled text n × IsTrue (is_partner (partner_in text n))

-- the text of a qualifier of two bytes, and of an id that was written over the spaces of its width
filled_id : (a b : ℕ) (id new : List ℕ) (n : ℕ) → n ≡ length id → list_all is_alphanumeric (a ∷ b ∷ []) ≡ true → is_identifier least_partner most_partner id ≡ true → new ≡ id
    → IsWhole (a ∷ b ∷ 45 ∷ (new ++ drop n (replicate most_partner 32))) (suc (suc (suc n)))
filled_id a b id new n size all ident written =
    let short = short_id id ident in
    let f = filled n new (omega (arith, short, size)) (ap length written ∙ sym size) in
    let tail : List ℕ = new ++ drop n (replicate most_partner 32) in
    let front : take n tail ≡ id = rw (size, written) (take-append_seam id (drop (length id) (replicate most_partner 32))) in
    let back : take (suc (suc (suc n)) - 3) tail ≡ id = ap (λ k. take k tail) (omega arith) ∙ front in
    let whole : is_partner (pair_of (a ∷ b ∷ []) id) ≡ true = rw all ident in (
      record {
        long = omega arith;
        short = omega (arith, short, size);
        wide = ap (λ k. suc (suc (suc k))) f.1;
        rest = f.2 ∙ ap (λ k. replicate k 32) (omega arith);
        front = ap (λ t. a ∷ b ∷ 45 ∷ t) (front ∙ sym back);
      },
      subst (λ i. IsTrue (is_partner (pair_of (a ∷ b ∷ []) i))) (sym back) whole,
    )

-- the same, as the bytes are put into their places
put_id : (a b : ℕ) (id new : List ℕ) (n m k : ℕ) → n ≡ length id → m ≡ n → k ≡ suc (suc (suc n)) → list_all is_alphanumeric (a ∷ b ∷ []) ≡ true → is_identifier least_partner most_partner id ≡ true
    → new ≡ id → IsWhole (a ∷ b ∷ 45 ∷ (new ++ drop m (replicate most_partner 32))) k
put_id a b id new n m k size same long all ident written = rw (same, long) (filled_id a b id new n size all ident written)

pub filled_partner : (q id new : List ℕ) → length q ≡ 2 → list_all is_alphanumeric q ≡ true → is_identifier least_partner most_partner id ≡ true → new ≡ id
    → IsWhole (get_or q 0 0 ∷ get_or q 1 0 ∷ 45 ∷ (new ++ post_of 3 (3 + length id - 3) (get_or q 0 0 ∷ get_or q 1 0 ∷ 45 ∷ replicate most_partner 32))) (3 + length id)
filled_partner [] id new two all ident written = absurd (omega (arith, two))
filled_partner (a ∷ []) id new two all ident written = absurd (omega (arith, two))
filled_partner (a ∷ b ∷ []) id new two all ident written = put_id a b id new (length id) _ _ refl (omega arith) (omega arith) all ident written
filled_partner (a ∷ b ∷ c ∷ q) id new two all ident written = absurd (omega (arith, two))
