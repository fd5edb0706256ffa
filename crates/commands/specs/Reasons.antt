-- Which line of a sheet a refusal is about, by what a book keeps of the pairs.
use Rattle.std.specs.Prelude.{ℕ, ◌==◌, Bool, true, not, ◌&&◌, List, Option, Some, None, if◌then◌else◌, nat_lt, bytes_eq, find, count_by, is_none}
use Rattle.std.specs.Option.{option_or}
use Rattle.definitions.specs.Means.{Line}
use Rattle.store.specs.Refusal.{Refusal}
use Rattle.store.specs.Refusal.TheVariants as refusals
use Rattle.commands.specs.declared.reasons.KeptPair.{KeptPair}

-- what is kept of a line's pair
abbrev pub is_of : Line → KeptPair → Bool
is_of l k = bytes_eq k.item.now l.item && bytes_eq k.lot.now l.lot

abbrev pub kept_of : List KeptPair → Line → Option KeptPair
kept_of kept l = find (is_of l) kept

abbrev pub reserved_in : Option KeptPair → ℕ
reserved_in None = 0
reserved_in (Some k) = k.reserved

abbrev pub reserved_of : List KeptPair → Line → ℕ
reserved_of kept l = reserved_in (kept_of kept l)

-- a count may not have named it
abbrev pub is_doubtful_in : Option KeptPair → Bool
is_doubtful_in None = true
is_doubtful_in (Some k) = not k.is_counted

abbrev pub is_doubtful : List KeptPair → Line → Bool
is_doubtful kept l = is_doubtful_in (kept_of kept l)

-- more of it is picked than is reserved; less of it is left than is reserved
abbrev pub is_over : List KeptPair → Line → Bool
is_over kept l = nat_lt (reserved_of kept l) l.quantity

abbrev pub is_under : List KeptPair → Line → Bool
is_under kept l = nat_lt l.quantity (reserved_of kept l)

-- the only line that may not have been named, where it is one alone
abbrev pub only_doubtful : List KeptPair → List Line → Option Line
only_doubtful kept lines =
    if count_by (is_doubtful kept) lines == 1 then find (is_doubtful kept) lines else None

abbrev pub is_unkept : List KeptPair → Line → Bool
is_unkept kept l = is_none (kept_of kept l)

-- the first line that isn't kept; else the only one that may not have been named
abbrev pub unnamed : List KeptPair → List Line → Option Line
unnamed kept lines = option_or (find (is_unkept kept) lines) (only_doubtful kept lines)

abbrev pub blamed : Refusal → List KeptPair → List Line → Option Line
blamed refusals.NotReserved kept lines = find (is_over kept) lines
blamed refusals.UnknownLot kept lines = unnamed kept lines
blamed refusals.BelowReserved kept lines = find (is_under kept) lines
blamed other kept lines = None
