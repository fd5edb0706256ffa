-- What is read of a head.
use Rattle.std.specs.Prelude.{◌≡◌, false, codes, option_copied}
use Rattle.std.specs.List.{list_any}
use Rattle.request_guard.specs.Doors.{Fields, deciding_names, is_repeated, value_of}
use Rattle.request_guard.specs.declared.judging.DecidingValues.{DecidingValues}

-- no field that decides is repeated
abbrev pub IsOnce : Fields → Type 0
IsOnce fields = list_any (is_repeated fields) deciding_names ≡ false

-- these are the values of the fields that decide
pub record IsRead (fields : Fields) (d : DecidingValues) : Type 0 where
  pub once : IsOnce fields
  pub host : option_copied d.host ≡ value_of (codes "Host") fields
  pub origin : option_copied d.origin ≡ value_of (codes "Origin") fields
  pub site : option_copied d.site ≡ value_of (codes "Sec-Fetch-Site") fields
  pub mode : option_copied d.mode ≡ value_of (codes "Sec-Fetch-Mode") fields
  pub media : option_copied d.media ≡ value_of (codes "Content-Type") fields
