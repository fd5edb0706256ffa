-- How far a register goes.
use Rattle.std.specs.Prelude.{ℕ, ◌-◌, List, length, slice_get, Option, option_map}
use Rattle.definitions.specs.Moments.{Moment}
use Rattle.definitions.specs.Register.{Entry}
use Rattle.store.specs.declared.keeping.Extent.{Extent}

-- the moment of the last entry; None where there is none
abbrev pub last_moment : List Entry → Option Moment
last_moment L = option_map (λ e. e.moment) (slice_get L (length L - 1))

-- how many entries there are, and the moment of the last
abbrev pub extent_of : List Entry → ℕ × Option Moment
extent_of L = (length L, last_moment L)

abbrev pub extent : Extent → ℕ × Option Moment
extent e = (e.entries, e.last)
