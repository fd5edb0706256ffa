-- Texts behind their lengths are told apart.
use Rattle.std.proofs.Common.{◌≡◌, ◌<◌, ◌+◌, ◌^◌, ℕ, Bool, true, false, List, [], ◌∷◌, ◌++◌, length, length-append, take, drop, codes, decimal, refl, sym, ap, ◌∙◌, arith, append_assoc}
use Rattle.std.specs.Prelude.{flat_map}
use Rattle.std.specs.List.{list_all}
use Rattle.std.proofs.lemmas.List.{take_at, drop_at}
use Rattle.std.proofs.lemmas.List.Elements.{All-head, All-tail}
use Rattle.std.proofs.lemmas.Fmt.{decimal_injective}
use Rattle.definitions.specs.Bytes.{is_digit}
use Rattle.definitions.proofs.TextLaws.{both_parts, decimal_reads}
use Rattle.seals.specs.Seals.{AreHeld, framed}

-- what stands before the first colon, and behind it
colon_splits : (ds es r s : List ℕ) → list_all is_digit ds ≡ true → list_all is_digit es ≡ true → ds ++ 58 ∷ r ≡ es ++ 58 ∷ s → (ds ≡ es) × (r ≡ s)
colon_splits [] [] r s d e h = (refl, cc)
colon_splits [] (y ∷ es) r s d e h =
    let y_is : 58 ≡ y = cc in
    let p = both_parts (is_digit y) (list_all is_digit es) e in
    absurd (let wrong : ◌≡◌ {A = Bool} false true = ap is_digit y_is ∙ p.0 in cc)
colon_splits (x ∷ ds) [] r s d e h =
    let x_is : 58 ≡ x = cc in
    let p = both_parts (is_digit x) (list_all is_digit ds) d in
    absurd (let wrong : ◌≡◌ {A = Bool} false true = ap is_digit x_is ∙ p.0 in cc)
colon_splits (x ∷ ds) (y ∷ es) r s d e h =
    let x_is : x ≡ y = cc in
    let rest : ds ++ 58 ∷ r ≡ es ++ 58 ∷ s = cc in
    let p = both_parts (is_digit x) (list_all is_digit ds) d in
    let q = both_parts (is_digit y) (list_all is_digit es) e in
    let both = colon_splits ds es r s p.1 q.1 rest in
    ((λ i. x_is i ∷ both.0 i), both.1)

-- two texts of one length are parts of their own
pub splits_at : (a b x y : List ℕ) → length a ≡ length b → a ++ x ≡ b ++ y → (a ≡ b) × (x ≡ y)
splits_at a b x y long h = (
  sym (take_at a x (length b) long) ∙ ap (take (length b)) h ∙ take_at b y (length b) refl,
  sym (drop_at a x (length b) long) ∙ ap (drop (length b)) h ∙ drop_at b y (length b) refl,
)

framed_is : (a x : List ℕ) → framed a ++ x ≡ decimal (length a) ++ 58 ∷ (a ++ x)
framed_is a x = ap (λ (t : List ℕ). t ++ x) (append_assoc (decimal (length a)) (codes ":") a) ∙ append_assoc (decimal (length a)) (58 ∷ a) x

-- a text behind its length is told from what follows
pub framed_splits : (a b x y : List ℕ) → length a < 2 ^ 64 → length b < 2 ^ 64 → framed a ++ x ≡ framed b ++ y → (a ≡ b) × (x ≡ y)
framed_splits a b x y m n h =
    let first = decimal_reads (length a) m in
    let second = decimal_reads (length b) n in
    let parts = colon_splits (decimal (length a)) (decimal (length b)) (a ++ x) (b ++ y) first.0 second.0 (sym (framed_is a x) ∙ h ∙ framed_is b y) in
    splits_at a b x y (decimal_injective (length a) (length b) m n parts.0) parts.1

-- it isn't nothing
framed_there : (a x : List ℕ) → [] ≡ framed a ++ x → ⊥
framed_there a x h =
    let e : 0 ≡ length (decimal (length a)) + length (58 ∷ (a ++ x)) = ap length h ∙ ap length (framed_is a x) ∙ length-append (decimal (length a)) (58 ∷ (a ++ x)) in
    absurd (omega (arith, e))

pub framed_apart : (xs ys : List (List ℕ)) → AreHeld xs → AreHeld ys → flat_map framed xs ≡ flat_map framed ys → xs ≡ ys
framed_apart [] [] m n h = refl
framed_apart [] (y ∷ ys) m n h = absurd (framed_there y (flat_map framed ys) h)
framed_apart (x ∷ xs) [] m n h = absurd (framed_there x (flat_map framed xs) (sym h))
framed_apart (x ∷ xs) (y ∷ ys) m n h =
    let P : List ℕ → Type 0 = λ t. length t < 2 ^ 64 in
    let p = framed_splits x y (flat_map framed xs) (flat_map framed ys) (All-head P x xs m) (All-head P y ys n) h in
    let rest = framed_apart xs ys (All-tail P x xs m) (All-tail P y ys n) p.1 in
    (λ i. p.0 i ∷ rest i)
