-- The parts of a moment, each of as many bits as it is read with.
use Rattle.std.proofs.Common.{◌≡◌, ◌<◌, ◌^◌, ℕ, pos, Bool, true, false, Some, Option, Result, Ok, Err, inl, inr, refl, ◌∙◌, arith, MatchOption}
use Rattle.std.specs.Prelude.{OkIff, is_ok}
use Rattle.std.specs.Int.{FitsUnsignedBits}
use Rattle.std.specs.Result.{result_ok}
use Rattle.std.proofs.lemmas.Bool.{cases_Bool}
use Rattle.definitions.specs.Moments.{Moment, is_moment}
use Rattle.definitions.proofs.ReadingLaws.{IsShort, is_moment-short}
use Rattle.book_tables.proofs.ReadLemmas.{none_some, same_some}

module _ {E : Type 0} (r : Result ℕ E) (bits n : ℕ) where
  -- a number that fits is read as it is
  pub fitted : (x : ℕ) → OkIff r (FitsUnsignedBits bits (pos n)) n → Some x ≡ result_ok r → x ≡ n
  fitted x told is = by r told is
    where
      by : (r : Result ℕ E) → OkIff r (FitsUnsignedBits bits (pos n)) n → Some x ≡ result_ok r → x ≡ n
      by (Ok y) h g = same_some x y g ∙ h.1
      by (Err e) h g = absurd (none_some (Some x) x g refl)

  -- and of one that doesn't there is no moment
  pub too_long : (m : Moment) → OkIff r (FitsUnsignedBits bits (pos n)) n → false ≡ is_ok r → (IsShort m → n < 2 ^ bits) → is_moment m ≡ false
  too_long m told is short = elim (cases_Bool (is_moment m)) [
    | inl h ↦ absurd (by r told is (short (is_moment-short m h)))
    | inr h ↦ h
  ]
    where
      by : (r : Result ℕ E) → OkIff r (FitsUnsignedBits bits (pos n)) n → false ≡ is_ok r → n < 2 ^ bits → ⊥
      by (Ok y) h g fits = absurd (let f : ◌≡◌ {A = Bool} false true = g in cc)
      by (Err e) h g fits = h fits

abbrev pub of_parts : ℕ → ℕ → ℕ → ℕ → ℕ → Moment
of_parts year month day hour minute = record { year = year; month = month; day = day; hour = hour; minute = minute }

abbrev pub IsRead : Option Moment → Moment → Type 0
IsRead read m = MatchOption read (is_moment m ≡ false) (λ r. (is_moment m ≡ true) × (r ≡ m))

pub year_fits : (n : ℕ) → n < 10 ^ 4 → n < 2 ^ 16
year_fits n h = omega (arith, h)

pub part_fits : (n : ℕ) → n < 10 ^ 2 → n < 2 ^ 8
part_fits n h = omega (arith, h)
