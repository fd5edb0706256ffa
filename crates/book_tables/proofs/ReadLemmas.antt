-- What is read back of a moment's text, and of rows.
use Rattle.std.proofs.Common.{◌≡◌, ◌≤◌, ◌<◌, ℕ, zero, suc, ◌+◌, ◌-◌, ◌*◌, ◌^◌, lit<, drop, pos, List, [], ◌∷◌, length, take, get_or, ◌&&◌, Bool, true, false, bytes_eq, Some, None, Option, refl, sym, ap, ◌∙◌, arith}
use Rattle.std.specs.Prelude.{fold, min, if◌then◌else◌, IfSome}
use Rattle.std.proofs.Math.Nat.{mul-le-mul_left, pow-succ', pow-le-pow_right}
use Rattle.sqlite.specs.Order.{Row}
use Rattle.sqlite.specs.declared.types.Value.{Value}
use Rattle.sqlite.specs.declared.types.Value.TheVariants.{Int, Text}
use Rattle.definitions.specs.Bytes.{value}
use Rattle.definitions.specs.Moments.{Moment, is_moment, stamp}
use Rattle.definitions.specs.Readings.{moment_in, moment_of}
use Rattle.definitions.proofs.TextLaws.{both_parts, text_is}

-- Digits: four bytes are a value below a million, whether they are digits or not.

abbrev more : ℕ → ℕ → ℕ
more n b = n * 10 + (b - 48)

step_bound : (n b p : ℕ) → b < 256 → (more n b + 23) * p ≤ (n + 23) * (10 * p)
step_bound n b p h =
    let k : more n b + 23 ≤ (n + 23) * 10 = omega (arith, h) in
    grind (arith, mul-le-mul_left p k)

bytes_bound : (n : ℕ) (text : List ℕ) → ((i : ℕ) → get_or text i 0 < 256) → fold more n text + 23 ≤ (n + 23) * 10 ^ length text
bytes_bound n [] fits = omega arith
bytes_bound n (b ∷ bs) fits =
    let power : 10 ^ length (b ∷ bs) ≡ 10 * 10 ^ length bs = pow-succ' 10 (length bs) in
    let rest : fold more (more n b) bs + 23 ≤ (more n b + 23) * 10 ^ length bs = bytes_bound (more n b) bs (λ i. fits (suc i)) in
    let step : (more n b + 23) * 10 ^ length bs ≤ (n + 23) * (10 * 10 ^ length bs) = step_bound n b (10 ^ length bs) (fits 0) in
    rw power (omega (arith, rest, step))

pub uncut : (text : List ℕ) → length text ≤ 4 → ((i : ℕ) → get_or text i 0 < 256) → min (value text) 1000000 ≡ value text
uncut text short fits =
    let wide : 10 ^ length text ≤ 10 ^ 4 = pow-le-pow_right (lit< tt) short in
    let small = bytes_bound 0 text fits in
    grind (arith, min, wide, small)

-- Moments.

pub no_moment : (text : List ℕ) → is_moment (moment_in text) ≡ false → None ≡ moment_of text
no_moment text h = rw h refl

pub some_moment : (text : List ℕ) (m n : Moment) → m ≡ moment_in text → is_moment m ≡ true → n ≡ m → bytes_eq (stamp n) text ≡ true → Some n ≡ moment_of text
some_moment text m n p good q e =
    let same : n ≡ moment_in text = q ∙ p in
    let first : is_moment (moment_in text) ≡ true = ap is_moment (sym p) ∙ good in
    let second : bytes_eq (stamp (moment_in text)) text ≡ true = ap (λ t. bytes_eq (stamp t) text) (sym same) ∙ e in
    ap Some same ∙ rw (first, second) refl

pub other_moment : (text : List ℕ) (m n : Moment) → m ≡ moment_in text → is_moment m ≡ true → n ≡ m → bytes_eq (stamp n) text ≡ false → None ≡ moment_of text
other_moment text m n p good q e =
    let first : is_moment (moment_in text) ≡ true = ap is_moment (sym p) ∙ good in
    let second : bytes_eq (stamp (moment_in text)) text ≡ false = ap (λ t. bytes_eq (stamp t) text) (sym (q ∙ p)) ∙ e in
    rw (first, second) refl

pub short_moment : (text : List ℕ) → (length text ≡ 12 → ⊥) → None ≡ moment_of text
short_moment text h = by (is_moment (moment_in text) && bytes_eq (stamp (moment_in text)) text) refl
  where
    by : (b : Bool) → (is_moment (moment_in text) && bytes_eq (stamp (moment_in text)) text) ≡ b → None ≡ (if b then Some (moment_in text) else None)
    by true e = absurd (h (ap length (sym (text_is (stamp (moment_in text)) text (both_parts (is_moment (moment_in text)) (bytes_eq (stamp (moment_in text)) text) e).1))))
    by false e = refl

take_whole : (xs : List ℕ) (n : ℕ) → length xs ≤ n → take n xs ≡ xs
take_whole [] zero h = refl
take_whole [] (suc n) h = refl
take_whole (x ∷ xs) zero h = absurd (omega (arith, h))
take_whole (x ∷ xs) (suc n) h = ap (λ l. x ∷ l) (take_whole xs n (omega (arith, h)))

drop_long : (xs : List ℕ) (n : ℕ) → length (drop n xs) ≤ length xs - n
drop_long [] zero = omega arith
drop_long [] (suc n) = omega arith
drop_long (x ∷ xs) zero = omega arith
drop_long (x ∷ xs) (suc n) = omega (arith, drop_long xs n)

-- the minutes stand last
pub last_two : (text : List ℕ) → length text ≡ 12 → value (take 2 (drop 10 text)) ≡ value (drop 10 text)
last_two text h = ap value (take_whole (drop 10 text) 2 (omega (arith, drop_long text 10, h)))

-- Rows.

pub none_some : {A : Type 0} (o : Option A) (a : A) → o ≡ None → o ≡ Some a → ⊥
none_some o a p q = cc

-- what is known of what is there, whatever it is
pub if_there : {A : Type 0} (P : Type 0) (o : Option A) (a : A) → o ≡ Some a → IfSome o (λ x. P) → P
if_there P None a is h = absurd (cc)
if_there P (Some b) a is h = h

pub same_text_value : (v w : List ℕ) → ◌≡◌ {A = Value} (Text v) (Text w) → v ≡ w
same_text_value v w e = cc

pub same_number_value : (m n : ℕ) → ◌≡◌ {A = Value} (Int (pos m)) (Int (pos n)) → m ≡ n
same_number_value m n e = cc

pub same_some : {A : Type 0} (a b : A) → Some a ≡ Some b → a ≡ b
same_some a b e = cc

pub one_row : (rows : List Row) (r : Row) → length rows ≡ 1 → r ≡ get_or rows 0 r → rows ≡ r ∷ []
one_row [] r long at = absurd (omega (arith, long))
one_row (x ∷ []) r long at = ap (λ y. y ∷ []) (sym at)
one_row (x ∷ y ∷ rows) r long at = absurd (omega (arith, long))
