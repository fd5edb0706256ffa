-- Lists of bytes of one class, and texts that are split at a byte of another.
use Rattle.std.proofs.Common.{◌≡◌, ℕ, ◌+◌, ◌-◌, ◌*◌, ◌/◌, ◌%◌, ◌^◌, ◌<◌, ◌≤◌, Bool, true, false, ◌&&◌, List, [], ◌∷◌, ◌++◌, refl, sym, ap, ◌∙◌, arith, eqb-true, eq-eqb, le-leb, leb-true, zero, suc, decimal}
use Rattle.std.specs.Prelude.{◌==◌, nat_le, bytes_eq}
use Rattle.std.specs.List.{list_all}
use Rattle.std.specs.Cmp.Derive.{both_true}
use Rattle.std.proofs.lemmas.Fmt.{decimal_by_steps}
use Rattle.std.proofs.lemmas.List.Sums.{fold-append}
use Rattle.std.proofs.lemmas.List.Splits.{slice_split-cons_yes, slice_split-cons_no}
use Rattle.std.proofs.lemmas.Slice.Eq.{bytes_eq-Decides}
use Rattle.definitions.specs.Bytes.{is_between, is_digit, value, zero_filled}
use Rattle.definitions.specs.Readings.{parts_at}

-- both of two that hold together
pub both_parts : (a b : Bool) → (a && b) ≡ true → (a ≡ true) × (b ≡ true)
both_parts true b h = (refl, h)
both_parts false b h = absurd (cc)

pub same_text : (a : List ℕ) → bytes_eq a a ≡ true
same_text a = (bytes_eq-Decides a a).1 refl

pub text_is : (a b : List ℕ) → bytes_eq a b ≡ true → a ≡ b
text_is a b h = (bytes_eq-Decides a b).0 h

-- a byte of a class that c isn't of isn't c
pub differs : (f : ℕ → Bool) (c : ℕ) → f c ≡ false → (b : ℕ) → f b ≡ true → (b == c) ≡ false
differs f c lacks b has = by_test (b == c) refl
  where
    by_test : (t : Bool) → (b == c) ≡ t → t ≡ false
    by_test true e = sym has ∙ ap f (eqb-true b c e) ∙ lacks
    by_test false e = refl

pub all_in : (f g : ℕ → Bool) → ((b : ℕ) → f b ≡ true → g b ≡ true) → (xs : List ℕ) → list_all f xs ≡ true → list_all g xs ≡ true
all_in f g h [] e = refl
all_in f g h (x ∷ xs) e = let p = both_parts (f x) (list_all f xs) e in both_true (h x p.0) (all_in f g h xs p.1)

pub all_both : (f : ℕ → Bool) (xs ys : List ℕ) → list_all f xs ≡ true → list_all f ys ≡ true → list_all f (xs ++ ys) ≡ true
all_both f [] ys d e = e
all_both f (x ∷ xs) ys d e = let p = both_parts (f x) (list_all f xs) d in both_true p.0 (all_both f xs ys p.1 e)

-- up to the first c stands the first part
pub split_first : (f : ℕ → Bool) (c : ℕ) → f c ≡ false → (xs ys : List ℕ) → list_all f xs ≡ true → parts_at c (xs ++ c ∷ ys) ≡ xs ∷ parts_at c ys
split_first f c lacks [] ys e = slice_split-cons_yes (λ b. b == c) c ys (eq-eqb c c refl)
split_first f c lacks (x ∷ xs) ys e =
    let p = both_parts (f x) (list_all f xs) e in
    slice_split-cons_no (λ b. b == c) x (xs ++ c ∷ ys) (differs f c lacks x p.0) ∙ rw (split_first f c lacks xs ys p.1) refl

-- without a c all is one part
pub split_last : (f : ℕ → Bool) (c : ℕ) → f c ≡ false → (xs : List ℕ) → list_all f xs ≡ true → parts_at c xs ≡ xs ∷ []
split_last f c lacks [] e = refl
split_last f c lacks (x ∷ xs) e =
    let p = both_parts (f x) (list_all f xs) e in
    slice_split-cons_no (λ b. b == c) x xs (differs f c lacks x p.0) ∙ rw (split_last f c lacks xs p.1) refl

-- Numbers in digits.

pub between : (low high b : ℕ) → low ≤ b → b ≤ high → is_between low high b ≡ true
between low high b l h = both_true (le-leb low b l) (le-leb b high h)

pub within : (low high b : ℕ) → is_between low high b ≡ true → (low ≤ b) × (b ≤ high)
within low high b h = let p = both_parts (nat_le low b) (nat_le b high) h in (leb-true low b p.0, leb-true b high p.1)

-- the value of one digit more
pub value_snoc : (ds : List ℕ) (d : ℕ) → value (ds ++ d ∷ []) ≡ value ds * 10 + (d - 48)
value_snoc ds d = fold-append (λ n b. n * 10 + (b - 48)) 0 ds (d ∷ [])

-- what is written of a number is digits, of its value
pub decimal_reads : (n : ℕ) → n < 2 ^ 64 → (list_all is_digit (decimal n) ≡ true) × (value (decimal n) ≡ n)
decimal_reads = decimal_by_steps (λ m ds. (list_all is_digit ds ≡ true) × (value ds ≡ m))
    (λ m l. (both_true (between 48 57 (48 + m) (omega arith) (omega arith)) refl, omega arith))
    (λ m ds l h. (
      all_both is_digit ds ((48 + m % 10) ∷ []) h.0 (both_true (between 48 57 (48 + m % 10) (omega arith) (omega arith)) refl),
      value_snoc ds (48 + m % 10) ∙ rw h.1 (omega arith),
    ))

pub zero_filled_reads : (w n : ℕ) → n < 10 ^ w → value (zero_filled w n) ≡ n
zero_filled_reads zero n h = omega arith
zero_filled_reads (suc w) n h = value_snoc (zero_filled w (n / 10)) (48 + n % 10) ∙ rw (zero_filled_reads w (n / 10) (omega arith)) (omega arith)
