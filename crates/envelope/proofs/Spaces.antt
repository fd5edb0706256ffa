-- Spaces at the end of a text.
use Rattle.std.proofs.Common.{◌≡◌, ℕ, suc, ◌-◌, ◌<◌, ◌≤◌, Bool, true, false, List, [], ◌∷◌, ◌++◌, length, take, drop, refl, sym, ◌∙◌, ap, arith, get_or, length-append}
use Rattle.std.specs.Prelude.{replicate, if◌then◌else◌, ◌&&◌, bytes_eq}
use Rattle.std.specs.List.{list_all}
use Rattle.std.specs.Bool.{Decides}
use Rattle.std.proofs.lemmas.List.{drop-replicate}
use Rattle.std.proofs.lemmas.Slice.Eq.{bytes_eq-Decides}
use Rattle.std.proofs.Math.Seq.{take-suc}
use Rattle.definitions.specs.Bytes.{is_space, stripped, padded}
use Rattle.definitions.specs.Limits.{most_partner}

all_spaces_last : (xs : List ℕ) → list_all is_space (xs ++ 32 ∷ []) ≡ list_all is_space xs
all_spaces_last [] = refl
all_spaces_last (x ∷ xs) = ap (λ b. is_space x && b) (all_spaces_last xs)

strip_space : (xs : List ℕ) → stripped (xs ++ 32 ∷ []) ≡ stripped xs
strip_space [] = refl
strip_space (x ∷ xs) =
    ap (λ (b : Bool). if b then [] else x ∷ stripped (xs ++ 32 ∷ [])) (all_spaces_last (x ∷ xs))
    ∙ ap (λ (ys : List ℕ). if list_all is_space (x ∷ xs) then [] else x ∷ ys) (strip_space xs)

some_other : (xs : List ℕ) (b : ℕ) → is_space b ≡ false → list_all is_space (xs ++ b ∷ []) ≡ false
some_other [] b h = rw h refl
some_other (x ∷ xs) b h = ap (λ t. is_space x && t) (some_other xs b h) ∙ and_false (is_space x)
  where
    and_false : (t : Bool) → (t && false) ≡ false
    and_false true = refl
    and_false false = refl

strip_other : (xs : List ℕ) (b : ℕ) → is_space b ≡ false → stripped (xs ++ b ∷ []) ≡ xs ++ b ∷ []
strip_other [] b h = rw h refl
strip_other (x ∷ xs) b h =
    ap (λ (t : Bool). if t then [] else x ∷ stripped (xs ++ b ∷ [])) (some_other (x ∷ xs) b h)
    ∙ ap (λ (ys : List ℕ). x ∷ ys) (strip_other xs b h)

one_more : (text : List ℕ) (end : ℕ) → 0 < end → end ≤ length text → take end text ≡ take (end - 1) text ++ get_or text (end - 1) 0 ∷ []
one_more text end some within =
    let e : suc (end - 1) ≡ end = omega arith in
    ap (λ n. take n text) (sym e) ∙ take-suc text (end - 1) 0 (omega arith)

pub strip_more : (text : List ℕ) (end : ℕ) → 0 < end → end ≤ length text → get_or text (end - 1) 0 ≡ 32 → stripped (take (end - 1) text) ≡ stripped (take end text)
strip_more text end some within e =
    sym (ap stripped (one_more text end some within ∙ ap (λ (b : ℕ). take (end - 1) text ++ b ∷ []) e) ∙ strip_space (take (end - 1) text))

pub strip_none : (text : List ℕ) (end : ℕ) → end ≡ 0 → stripped (take end text) ≡ take end text
strip_none text end e = rw e refl

pub strip_done : (text : List ℕ) (end : ℕ) → 0 < end → end ≤ length text → is_space (get_or text (end - 1) 0) ≡ false → stripped (take end text) ≡ take end text
strip_done text end some within e =
    let m = one_more text end some within in
    ap stripped m ∙ (strip_other (take (end - 1) text) (get_or text (end - 1) 0) e ∙ sym m)

pub filled : (id copied : List ℕ) → copied ≡ id → copied ++ drop (length id) (replicate most_partner 32) ≡ padded most_partner id
filled id copied e = ap (λ (xs : List ℕ). xs ++ drop (length id) (replicate most_partner 32)) e ∙ ap (λ (xs : List ℕ). id ++ xs) (drop-replicate (length id) most_partner 32)

pub too_long : (field id : List ℕ) → length field ≡ most_partner → most_partner < length id → bytes_eq field (padded most_partner id) ≡ false
too_long field id e h = by_test (bytes_eq field (padded most_partner id)) (bytes_eq-Decides field (padded most_partner id))
  where
    longer : field ≡ padded most_partner id → ⊥
    longer same = omega (arith, simp length-append at (ap length same))

    by_test : (b : Bool) → Decides b (field ≡ padded most_partner id) → b ≡ false
    by_test true d = absurd (longer (d.0 refl))
    by_test false d = refl
