-- Values of few digits are small.
use Rattle.std.proofs.Common.{◌≡◌, ℕ, ◌+◌, ◌-◌, ◌*◌, ◌^◌, ◌<◌, ◌≤◌, true, List, [], ◌∷◌, length, take, drop, arith, lit<, sym, ◌∙◌, ap}
use Rattle.std.specs.Prelude.{fold, nat_le, min}
use Rattle.std.specs.List.{list_all}
use Rattle.std.proofs.lemmas.Bool.{and_parts}
use Rattle.std.proofs.lemmas.List.{take-append-drop}
use Rattle.std.proofs.lemmas.List.Folds.{list_all-append}
use borrow.Author.Tests.{leb-true}
use Rattle.std.proofs.Math.Nat.{mul-le-mul_left, pow-succ', pow-le-pow_right}
use Rattle.definitions.specs.Bytes.{is_digit, value}

abbrev more : ℕ → ℕ → ℕ
more n b = n * 10 + (b - 48)

digit_bound : (b : ℕ) → is_digit b ≡ true → b ≤ 57
digit_bound b h = leb-true b 57 ((and_parts (nat_le 48 b) (nat_le b 57) h).1)

step_bound : (n b p : ℕ) → b ≤ 57 → (more n b + 1) * p ≤ (n + 1) * (10 * p)
step_bound n b p h =
    let k : more n b + 1 ≤ (n + 1) * 10 = omega arith in
    grind (arith, mul-le-mul_left p k)

value_bound-from : (n : ℕ) (text : List ℕ) → list_all is_digit text ≡ true → fold more n text + 1 ≤ (n + 1) * 10 ^ length text
value_bound-from n [] h = omega arith
value_bound-from n (b ∷ bs) h =
    let p = and_parts (is_digit b) (list_all is_digit bs) h in
    let power : 10 ^ length (b ∷ bs) ≡ 10 * 10 ^ length bs = pow-succ' 10 (length bs) in
    let rest : fold more (more n b) bs + 1 ≤ (more n b + 1) * 10 ^ length bs = value_bound-from (more n b) bs p.1 in
    let step : (more n b + 1) * 10 ^ length bs ≤ (n + 1) * (10 * 10 ^ length bs) = step_bound n b (10 ^ length bs) (digit_bound b p.0) in
    rw power (omega arith)

pub value_bound : (text : List ℕ) → list_all is_digit text ≡ true → value text < 10 ^ length text
value_bound text h = omega (arith, value_bound-from 0 text h)

-- at most n digits are of a value below 10 ^ n
pub few_digits : (n : ℕ) (text : List ℕ) → length text ≤ n → list_all is_digit text ≡ true → value text < 10 ^ n
few_digits n text short digits =
    let wide : 10 ^ length text ≤ 10 ^ n = pow-le-pow_right (lit< tt) short in
    let small = value_bound text digits in
    omega arith

-- so that no least of two is left of them
pub few_digits-min : (n most : ℕ) (text : List ℕ) → length text ≤ n → list_all is_digit text ≡ true → 10 ^ n ≤ most + 1 → min (value text) most ≡ value text
few_digits-min n most text short digits wide =
    let small = few_digits n text short digits in
    grind (arith, min)

-- the parts of digits are digits
parts_digits : (n : ℕ) (text : List ℕ) → list_all is_digit text ≡ true → (list_all is_digit (take n text) ≡ true) × (list_all is_digit (drop n text) ≡ true)
parts_digits n text digits =
    and_parts (list_all is_digit (take n text)) (list_all is_digit (drop n text))
    (sym (list_all-append is_digit (take n text) (drop n text)) ∙ ap (list_all is_digit) (take-append-drop n text) ∙ digits)

pub taken_digits : (n : ℕ) (text : List ℕ) → list_all is_digit text ≡ true → list_all is_digit (take n text) ≡ true
taken_digits n text digits = (parts_digits n text digits).0

pub dropped_digits : (n : ℕ) (text : List ℕ) → list_all is_digit text ≡ true → list_all is_digit (drop n text) ≡ true
dropped_digits n text digits = (parts_digits n text digits).1
