-- Names as they are told, byte by byte.
use Rattle.std.proofs.Common.{arith, ◌≡◌, ◌<◌, ◌∙◌, sym, refl, ap, ℕ, zero, suc, ◌-◌, ◌/◌, ◌%◌, nat_lt, Bool, true, false, if◌then◌else◌, List, [], ◌∷◌, ◌++◌, All}
use Rattle.std.proofs.lemmas.Bool.Decides.{nat_tests}
use Rattle.std.proofs.lemmas.List.Elements.{All-nil, All-append, All-from_recursion}
use Rattle.std.proofs.lemmas.List.{append_assoc}
use Rattle.folders.specs.Lines.{IsPlain, control_left, hex_digit, is_control, numbered, told_byte, told_name, told_rest}

-- one byte more is told
pub told_more : (left b : ℕ) (bs rest told name : List ℕ) → rest ≡ b ∷ bs → told ++ told_rest left rest ≡ name
    → (told ++ told_byte (nat_lt 0 (control_left left b bs)) b) ++ told_rest (control_left left b bs - 1) bs ≡ name
told_more left b bs rest told name is still =
    append_assoc told _ _ ∙ ap (λ (l : List ℕ). told ++ told_rest left l) (sym is) ∙ still

-- a name without controls and marks
pub told_plain : (name : List ℕ) → IsPlain name → told_name name ≡ name
told_plain [] plain = refl
told_plain (b ∷ bs) plain =
    ap (λ (k : ℕ). told_byte (nat_lt 0 k) b ++ told_rest (k - 1) bs) plain.0 ∙ ap (λ (l : List ℕ). b ∷ l) (told_plain bs plain.1)

-- No byte that is told is below 32.

digit_above : (n : ℕ) → 31 < hex_digit n
digit_above n = grind (arith, nat_tests)

byte_above : (is_numbered : Bool) (b : ℕ) → (is_numbered ≡ false → 31 < b) → All (λ n. 31 < n) (told_byte is_numbered b)
byte_above true b above = All-from_recursion (λ n. 31 < n) (numbered b) (omega arith, (omega arith, (digit_above (b / 16), (digit_above (b % 16), tt))))
byte_above false b above = All-from_recursion (λ n. 31 < n) (b ∷ []) (above refl, tt)

control_above : (b n : ℕ) (c : Bool) → is_control b ≡ c → nat_lt 0 (if c then 1 else n) ≡ false → 31 < b
control_above b n true is none = absurd (cc)
control_above b n false is none = grind (arith, nat_tests)

unnumbered_above : (left b : ℕ) (bs : List ℕ) → nat_lt 0 (control_left left b bs) ≡ false → 31 < b
unnumbered_above zero b bs none = control_above b _ (is_control b) refl none
unnumbered_above (suc left) b bs none = grind (arith, nat_tests)

rest_above : (left : ℕ) (name : List ℕ) → All (λ n. 31 < n) (told_rest left name)
rest_above left [] = All-nil (λ n. 31 < n)
rest_above left (b ∷ bs) =
    All-append (λ n. 31 < n) _ _ (byte_above _ b (unnumbered_above left b bs)) (rest_above (control_left left b bs - 1) bs)

pub told_above : (name : List ℕ) → All (λ n. 31 < n) (told_name name)
told_above = rest_above 0
