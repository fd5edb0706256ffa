-- The conditions of a text that can be read, one after the other.
use Rattle.std.proofs.Common.{◌≡◌, ℕ, ◌≤◌, Bool, true, false, not, List, length, take, drop, refl, ◌∙◌, Some, None, ap, arith}
use Rattle.std.specs.Prelude.{◌||◌, ◌&&◌, if◌then◌else◌, nat_lt, nat_le, slice_index, ◌==◌, codes, bytes_eq}
use Rattle.std.specs.List.{list_all, range_with_len}
use Rattle.std.proofs.lemmas.Bool.Decides.{nat_tests}
use Rattle.definitions.specs.declared.widths.TheConstants.{ISA_BYTES}
use Rattle.definitions.specs.Bytes.{Delims, is_data, is_digit}
use Rattle.definitions.specs.Limits.{most_bytes}
use Rattle.definitions.specs.Header.{isa, is_legible, separator_offsets, delims_in, delims_of, are_delimiters, is_unreadable}
use Rattle.envelope.specs.Legibility.{is_begun, is_filled}

or_parts : (a b c d e f g h : Bool) → (a || b || c || d || not e || not f || not g || not h) ≡ (not (not (a || b || c)) || (d || not (e && f && g && h)))
or_parts true b c d e f g h = refl
or_parts false true c d e f g h = refl
or_parts false false true d e f g h = refl
or_parts false false false true e f g h = refl
or_parts false false false false false f g h = refl
or_parts false false false false true false g h = refl
or_parts false false false false true true false h = refl
or_parts false false false false true true true true = refl
or_parts false false false false true true true false = refl

in_parts : (text : List ℕ) → is_unreadable text ≡ (not (is_begun text) || (not (are_delimiters (delims_of text)) || not (is_filled (delims_of text) text)))
in_parts text =
    let d = delims_of text in
    or_parts (nat_lt most_bytes (length text)) (nat_lt (length text) ISA_BYTES) (not (bytes_eq (take 3 text) (codes "ISA"))) (not (are_delimiters d))
    (list_all (λ k. slice_index text k == d.separator) separator_offsets) (list_all (λ n. list_all (is_data d) (isa text n)) (range_with_len 1 15))
    (list_all is_digit (isa text 13)) (is_legible d true (drop ISA_BYTES text))

pick_none : (l g : Bool) (d : Delims) → l ≡ true → (if l && g then Some d else None) ≡ None → g ≡ false
pick_none true true d h e = absurd (cc)
pick_none true false d h e = refl
pick_none false g d h e = absurd (cc)

pick_some : (l g : Bool) (d x : Delims) → (if l && g then Some d else None) ≡ Some x → (g ≡ true) × (x ≡ d)
pick_some true true d x e = (refl, cc)
pick_some true false d x e = absurd (cc)
pick_some false g d x e = absurd (cc)

last_or_true : (a : Bool) → (a || true) ≡ true
last_or_true true = refl
last_or_true false = refl

at_least : (n : ℕ) → ISA_BYTES ≤ n → nat_le ISA_BYTES n ≡ true
at_least n h = grind (arith, nat_tests)

pub no_delims : (text : List ℕ) → ISA_BYTES ≤ length text → delims_in text ≡ None → is_unreadable text ≡ true
no_delims text long h = in_parts text ∙ rw (pick_none (nat_le ISA_BYTES (length text)) (are_delimiters (delims_of text)) (delims_of text) (at_least (length text) long) h) (last_or_true (not (is_begun text)))

pub not_filled : (text : List ℕ) (d : Delims) → delims_in text ≡ Some d → is_filled d text ≡ false → is_unreadable text ≡ true
not_filled text d h filled =
    let p = pick_some (nat_le ISA_BYTES (length text)) (are_delimiters (delims_of text)) (delims_of text) d h in
    in_parts text ∙ rw (p.0, rw p.1 at filled) (last_or_true (not (is_begun text)))

pub readable : (text : List ℕ) (d : Delims) → is_begun text ≡ true → delims_in text ≡ Some d → is_filled d text ≡ true → (is_unreadable text ≡ false) × (d ≡ delims_of text)
readable text d begun h filled =
    let p = pick_some (nat_le ISA_BYTES (length text)) (are_delimiters (delims_of text)) (delims_of text) d h in
    (in_parts text ∙ rw (begun, p.0, rw p.1 at filled) refl, p.1)

pub filled : (d : Delims) (text : List ℕ) (s h g l : Bool) → s ≡ list_all (λ k. slice_index text k == d.separator) separator_offsets
    → h ≡ list_all (λ n. list_all (is_data d) (isa text n)) (range_with_len 1 15) → g ≡ list_all is_digit (isa text 13) → l ≡ is_legible d true (drop ISA_BYTES text)
    → (s && h && g && l) ≡ is_filled d text
filled d text s h g l es eh eg el =
    ap (λ x. x && h && g && l) es ∙ (ap (λ x. list_all (λ k. slice_index text k == d.separator) separator_offsets && x && g && l) eh
    ∙ (ap (λ x. list_all (λ k. slice_index text k == d.separator) separator_offsets && list_all (λ n. list_all (is_data d) (isa text n)) (range_with_len 1 15) && x && l) eg
    ∙ ap (λ x. list_all (λ k. slice_index text k == d.separator) separator_offsets && list_all (λ n. list_all (is_data d) (isa text n)) (range_with_len 1 15) && list_all is_digit (isa text 13) && x) el))

pub not_begun : (text : List ℕ) → is_begun text ≡ false → is_unreadable text ≡ true
not_begun text h = in_parts text ∙ rw h refl
