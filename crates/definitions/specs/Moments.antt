-- Dates and times of day.
use Rattle.std.specs.Prelude.{ℕ, ◌%◌, Bool, not, ◌&&◌, ◌||◌, List, ◌++◌, length, take, drop, if◌then◌else◌, nat_lt, ◌==◌}
use Rattle.std.specs.List.{list_all}
use Rattle.definitions.specs.declared.widths.TheConstants.{DATE_DIGITS, LEAST_TIME}
use Rattle.definitions.specs.Bytes.{is_between, is_digit, value, zero_filled}

-- a minute in UTC
pub record Moment : Type 0 where
  pub year : ℕ
  pub month : ℕ
  pub day : ℕ
  pub hour : ℕ
  pub minute : ℕ

-- the Gregorian calendar

abbrev pub is_leap : ℕ → Bool
is_leap year = (year % 4 == 0 && not (year % 100 == 0)) || year % 400 == 0

abbrev pub days_in : ℕ → ℕ → ℕ
days_in year month =
    if month == 2 then (if is_leap year then 29 else 28)
    else (if month == 4 || month == 6 || month == 9 || month == 11 then 30 else 31)

abbrev pub is_day : ℕ → ℕ → ℕ → Bool
is_day year month day = is_between 1 9999 year && is_between 1 12 month
    && is_between 1 (days_in year month) day

-- CCYYMMDD: eight digits that are a date of the years 0001 to 9999
abbrev pub is_date : List ℕ → Bool
is_date text = length text == DATE_DIGITS && list_all is_digit text
    && is_day (value (take 4 text)) (value (take 2 (drop 4 text))) (value (drop 6 text))

-- HHMM: four digits, 0000 to 2359 with minutes to 59
abbrev pub is_clock : List ℕ → Bool
is_clock text = length text == LEAST_TIME && list_all is_digit text
    && nat_lt (value (take 2 text)) 24 && nat_lt (value (drop 2 text)) 60

-- a moment that the server can be told: of the years 2000 to 2099
abbrev pub is_moment : Moment → Bool
is_moment t = is_between 2000 2099 t.year && is_day t.year t.month t.day && nat_lt t.hour 24
    && nat_lt t.minute 60

-- CCYYMMDD, YYMMDD, HHMM and CCYYMMDDHHMM of a moment
abbrev pub date8 : Moment → List ℕ
date8 t = zero_filled 4 t.year ++ zero_filled 2 t.month ++ zero_filled 2 t.day

abbrev pub date6 : Moment → List ℕ
date6 t = zero_filled 2 t.year ++ zero_filled 2 t.month ++ zero_filled 2 t.day

abbrev pub time4 : Moment → List ℕ
time4 t = zero_filled 2 t.hour ++ zero_filled 2 t.minute

abbrev pub stamp : Moment → List ℕ
stamp t = date8 t ++ time4 t
