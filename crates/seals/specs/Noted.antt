-- A seal as it is noted: how many entries it is of, and when the last of them came in.
use Rattle.std.specs.Prelude.{ℕ, List, [], ◌∷◌, ◌++◌, ◌+◌, ◌==◌, ◌&&◌, nat_lt, nat_le, length, take, drop, position, codes, decimal, if◌then◌else◌, Option, Some, None, option_map, Bool, false, bytes_eq}
use Rattle.std.specs.List.{list_all}
use Rattle.std.specs.Option.{option_zip}
use Rattle.definitions.specs.Bytes.{is_digit, value}
use Rattle.definitions.specs.Moments.{Moment, stamp}
use Rattle.definitions.specs.Register.{Entry}
use Rattle.rules.specs.Written.{Written}
use Rattle.store.specs.Extent.{last_moment}
use Rattle.seals.specs.Seals.{seal_after, seal_in, seal_of, seal_of_first, seal_text}
use Rattle.seals.specs.declared.beginning.Beginning.{Beginning}
use Rattle.seals.specs.declared.noted.NotedSeal.{NotedSeal}

-- The seal of a register, or of its first entries.

-- the number of entries, their seal, and the moment of the last; None where there are none
abbrev pub noted : NotedSeal → ℕ × List ℕ × Option Moment
noted n = (n.entries, n.seal.digest, n.last)

abbrev pub noted_in : Option NotedSeal → Option (ℕ × List ℕ × Option Moment)
noted_in found = option_map noted found

-- what is noted of a register
abbrev pub noted_of : List Entry → ℕ × List ℕ × Option Moment
noted_of L = (length L, seal_of L, last_moment L)

-- what is noted of its first n entries; None where it has fewer
abbrev pub noted_of_first : ℕ → List Entry → Option (ℕ × List ℕ × Option Moment)
noted_of_first n L = if nat_le n (length L) then Some (noted_of (take n L)) else None

-- what is noted when one entry more was added
abbrev pub noted_after : ℕ × List ℕ × Option Moment → Written → ℕ × List ℕ × Option Moment
noted_after n w = (n.0 + 1, seal_after n.1 w, Some w.moment)

-- As it is told.

-- the number of entries, a colon, and the digits of their seal
abbrev pub noted_text : ℕ × List ℕ × Option Moment → List ℕ
noted_text n = decimal n.0 ++ codes ":" ++ seal_text n.1

-- a moment as the tables show it, and `-` where there is none
abbrev pub last_text : Option Moment → List ℕ
last_text None = codes "-"
last_text (Some t) = stamp t

-- the line that tells all three
abbrev pub noted_line : ℕ × List ℕ × Option Moment → List ℕ
noted_line n = noted_text n ++ codes " " ++ last_text n.2 ++ 10 ∷ []

-- The beginning of a register, as somebody noted it.

-- a number in 1 to 9 digits
abbrev pub entries_in : List ℕ → Option ℕ
entries_in text = if nat_lt 0 (length text) && (nat_le (length text) 9 && list_all is_digit text)
    then Some (value text) else None

-- how many entries, and their seal
abbrev pub beginning : Beginning → ℕ × List ℕ
beginning b = (b.entries, b.seal.digest)

-- the number before a colon, and the seal behind it
abbrev pub beginning_at : List ℕ → Option ℕ → Option (ℕ × List ℕ)
beginning_at text None = None
beginning_at text (Some colon) =
    option_zip (entries_in (take colon text)) (seal_in (drop (colon + 1) text))

-- the beginning that is written so, if one is: by its first colon
abbrev pub beginning_in : List ℕ → Option (ℕ × List ℕ)
beginning_in text = beginning_at text (position (λ b. b == 58) text)

-- a seal is this one
abbrev pub is_seal : List ℕ → Option (List ℕ) → Bool
is_seal seal None = false
is_seal seal (Some other) = bytes_eq other seal

-- a register begins so: its first entries, as many, have this seal
abbrev pub begins_so : ℕ × List ℕ → List Entry → Bool
begins_so b L = is_seal b.1 (seal_of_first b.0 L)
