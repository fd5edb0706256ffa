-- The minute in which an instant lies, in UTC.
use Rattle.std.specs.Prelude.{◌≡◌, ℕ, ℤ, pos, negsuc, Option, Some, None, if◌then◌else◌}
use Rattle.jiff.specs.Types.{DateTime, Timestamp}
use Rattle.jiff.specs.Words.{civil_nanos}
use Rattle.definitions.specs.Bytes.{is_between}
use Rattle.definitions.specs.Moments.{Moment}

-- a minute of a year, where that is one of 2000 to 2099
abbrev pub minute_in : ℤ → ℕ → ℕ → ℕ → ℕ → Option Moment
minute_in (pos year) month day hour minute =
    if is_between 2000 2099 year
    then Some (record { year = year; month = month; day = day; hour = hour; minute = minute })
    else None
minute_in (negsuc n) month day hour minute = None

-- the minute of what a calendar and a clock show
abbrev pub minute_of : DateTime → Option Moment
minute_of shown =
    minute_in shown.date.year shown.date.month shown.date.day shown.time.hour shown.time.minute

-- the minute of what they show in UTC at an instant
pub record IsCivil (t : Timestamp) (found : Option Moment) : Type 0 where
  pub shown : DateTime
  pub instant : civil_nanos shown ≡ t.nanosecond
  pub is : found ≡ minute_of shown

-- the minute of a time that a clock showed
pub record IsMinuteOf (shows : Timestamp → Type 0) (m : Moment) : Type 0 where
  pub time : Timestamp
  pub shown : shows time
  pub is : IsCivil time (Some m)
