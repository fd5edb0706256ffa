-- The minute that a calendar and a clock show.
use Rattle.std.proofs.Common.{◌≡◌, ◌∙◌, ap, sym, refl, subst, arith, ℕ, ◌<◌, ◌≤◌, Bool, true, false, ℤ, pos, negsuc, ◌<ℤ◌, Option, Some, None, IfSome, MatchOption, FitsSigned, w8, to_z, of_z, unsigned_abs}
use Rattle.std.specs.Prelude.{◌&&◌, ◌||◌, ◌==◌, ◌%◌, not, nat_lt, int_lt, if◌then◌else◌}
use Rattle.std.specs.Int.{w16}
use Rattle.std.proofs.lemmas.Int.{to_z-of_z}
use Rattle.std.specs.Cmp.Derive.{both_true}
use Rattle.std.proofs.lemmas.Bool.Decides.{nat_tests}
use Rattle.jiff.proofs.SpanFacts.{signed_arith}
use Rattle.jiff.specs.Types.{DateTime, Timestamp}
use Rattle.jiff.specs.Words.{is_leap_year, days_in_month}
use Rattle.definitions.proofs.TextLaws.{between, both_parts, within}
use Rattle.definitions.specs.Bytes.{is_between}
use Rattle.definitions.specs.Moments.{Moment, is_leap, days_in, is_day, is_moment}
use Rattle.commands.specs.Clock.{IsCivil, IsMinuteOf, minute_in, minute_of}

-- a year below 0 is none of 2000 to 2099
pub none_before : (year : ℤ) (month day hour minute : ℕ) → year <ℤ pos 0 → None ≡ minute_in year month day hour minute
none_before (pos n) month day hour minute h = absurd (omega (arith, signed_arith, h))
none_before (negsuc n) month day hour minute h = refl

-- each fourth century is a fourth year
fourth : (y : ℕ) → (y % 400 == 0) ≡ true → (y % 4 == 0) ≡ true
fourth y h = grind (arith, nat_tests)

same_leap : (y : ℕ) → is_leap_year (pos y) ≡ is_leap y
same_leap y = by_tests (y % 4 == 0) (y % 100 == 0) (y % 400 == 0) (fourth y)
  where
    by_tests : (a b c : Bool) → (c ≡ true → a ≡ true) → (a && (not b || c)) ≡ ((a && not b) || c)
    by_tests true true c h = refl
    by_tests true false c h = refl
    by_tests false b true h = h refl
    by_tests false b false h = refl

same_days : (y m : ℕ) → days_in_month (pos y) m ≡ days_in y m
same_days y m =
    ap (λ (leap : Bool). if m == 2 then (if leap then 29 else 28) else (if m == 4 || m == 6 || m == 9 || m == 11 then 30 else 31)) (same_leap y)

day_is : (y m d : ℕ) → 1 ≤ y → y ≤ 9999 → 1 ≤ m → m ≤ 12 → 1 ≤ d → d ≤ days_in_month (pos y) m → is_day y m d ≡ true
day_is y m d y1 y2 m1 m2 d1 d2 =
    both_true (both_true (between 1 9999 y y1 y2) (between 1 12 m m1 m2)) (between 1 (days_in y m) d d1 (omega (arith, d2, same_days y m)))

-- a minute of a year 2000 to 2099, whose other parts a calendar and a clock show
moment_is : (m : Moment) → is_between 2000 2099 m.year ≡ true → 1 ≤ m.month → m.month ≤ 12 → 1 ≤ m.day → m.day ≤ days_in_month (pos m.year) m.month → m.hour < 24 → m.minute < 60
    → is_moment m ≡ true
moment_is m y m1 m2 d1 d2 h i =
    let year = within 2000 2099 m.year y in
    let hour : nat_lt m.hour 24 ≡ true = grind (arith, nat_tests) in
    let minute : nat_lt m.minute 60 ≡ true = grind (arith, nat_tests) in
    both_true (both_true (both_true y (day_is m.year m.month m.day (omega arith) (omega arith) m1 m2 d1 d2)) hour) minute

-- no minute has another year
moment_not : (m : Moment) → is_between 2000 2099 m.year ≡ false → is_moment m ≡ true → ⊥
moment_not m y h =
    let a = both_parts (is_between 2000 2099 m.year && is_day m.year m.month m.day && nat_lt m.hour 24) (nat_lt m.minute 60) h in
    let b = both_parts (is_between 2000 2099 m.year && is_day m.year m.month m.day) (nat_lt m.hour 24) a.0 in
    let c = both_parts (is_between 2000 2099 m.year) (is_day m.year m.month m.day) b.0 in
    absurd (let e : ◌≡◌ {A = Bool} true false = sym c.0 ∙ y in cc)

made_in : (found : Option Moment) (m : Moment) → MatchOption found (is_moment m ≡ false) (λ r. (is_moment m ≡ true) × (r ≡ m)) → is_moment m ≡ true → found ≡ Some m
made_in None m is h = absurd (let e : ◌≡◌ {A = Bool} true false = sym h ∙ is in cc)
made_in (Some r) m is h = ap Some is.1

made_out : (found : Option Moment) (m : Moment) → MatchOption found (is_moment m ≡ false) (λ r. (is_moment m ≡ true) × (r ≡ m)) → (is_moment m ≡ true → ⊥) → found ≡ None
made_out None m is h = refl
made_out (Some r) m is h = absurd (h is.0)

same_minute : (y : ℤ) (month day hour minute : ℕ) (m : Moment) → y ≡ pos m.year → m.month ≡ month → m.day ≡ day → m.hour ≡ hour → m.minute ≡ minute
    → minute_in (pos m.year) m.month m.day m.hour m.minute ≡ minute_in y month day hour minute
same_minute y month day hour minute m a b c d e =
    ap (λ k. minute_in (pos m.year) k m.day m.hour m.minute) b ∙ ap (λ k. minute_in (pos m.year) month k m.hour m.minute) c
    ∙ ap (λ k. minute_in (pos m.year) month day k m.minute) d ∙ ap (λ k. minute_in (pos m.year) month day hour k) e
    ∙ ap (λ z. minute_in z month day hour minute) (sym a)

-- the minute that was made of what they show, part by part
pub minute_made : (found : Option Moment) (m : Moment) (shown : DateTime) → MatchOption found (is_moment m ≡ false) (λ r. (is_moment m ≡ true) × (r ≡ m))
    → shown.date.year ≡ pos m.year → m.month ≡ shown.date.month → m.day ≡ shown.date.day → m.hour ≡ shown.time.hour → m.minute ≡ shown.time.minute
    → found ≡ minute_of shown
minute_made found m shown is year month day hour minute =
    by_year (is_between 2000 2099 m.year) refl
    ∙ same_minute shown.date.year shown.date.month shown.date.day shown.time.hour shown.time.minute m year month day hour minute
  where
    last : m.day ≤ days_in_month (pos m.year) m.month
    last = subst (λ z. m.day ≤ days_in_month z m.month) year (subst (λ k. m.day ≤ days_in_month shown.date.year k) (sym month) (subst (λ k. k ≤ days_in_month shown.date.year shown.date.month) (sym day) shown.date.day_in.1))

    by_year : (b : Bool) → is_between 2000 2099 m.year ≡ b → found ≡ minute_in (pos m.year) m.month m.day m.hour m.minute
    by_year true e = rw e (made_in found m is (moment_is m e (omega (arith, month, shown.date.month_in)) (omega (arith, month, shown.date.month_in)) (omega (arith, day, shown.date.day_in)) last
        (omega (arith, hour, shown.time.hour_in)) (omega (arith, minute, shown.time.minute_in))))
    by_year false e = rw e (made_out found m is (moment_not m e))

-- What signed numbers hold of them.

pub part_is : (n : ℕ) (z : ℤ) (k : ℕ) → z ≡ pos n → FitsSigned w8 z → k ≡ unsigned_abs (to_z w8 (of_z w8 z)) → k ≡ n
part_is n z k e fits h = (simp to_z-of_z at h) ∙ ap unsigned_abs e

from_zero : (y : ℤ) → int_lt y (pos 0) ≡ false → y ≡ pos (unsigned_abs y)
from_zero (pos n) h = refl
from_zero (negsuc n) h = absurd (omega (arith, signed_arith, h))

pub year_is : (y a b : ℤ) (k : ℕ) → a ≡ y → b ≡ y → FitsSigned w16 a → FitsSigned w16 b → int_lt (to_z w16 (of_z w16 a)) (pos 0) ≡ false
    → k ≡ unsigned_abs (to_z w16 (of_z w16 b)) → y ≡ pos k
year_is y a b k p q first second h e =
    let from = subst (λ z. int_lt z (pos 0) ≡ false) p (simp to_z-of_z at h) in
    let is = (simp to_z-of_z at e) ∙ ap unsigned_abs q in
    from_zero y from ∙ ap pos (sym is)

-- the minute of a time that was shown, where it has one
pub minute_shown : (shows : Timestamp → Type 0) (t : Timestamp) (found : Option Moment) → shows t → IsCivil t found → IfSome found (IsMinuteOf shows)
minute_shown shows t None s h = tt
minute_shown shows t (Some m) s h = record { time = t; shown = s; is = h }
