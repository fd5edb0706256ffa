-- The act that a text looks like: what is written of it again may be another text.
use Rattle.std.specs.Prelude.{ℕ, not, List, [], ◌∷◌, codes, bytes_eq, filter_map, Option, Some, None, Result, Ok, Err, option_and_then}
use Rattle.definitions.specs.declared.rules.Rules.{Rules}
use Rattle.definitions.specs.Limits.{most_number}
use Rattle.definitions.specs.Bytes.{is_identifier}
use Rattle.definitions.specs.Lists.{first_of}
use Rattle.definitions.specs.Means.{Line}
use Rattle.definitions.specs.Register.{Act}
use Rattle.definitions.specs.declared.refusals.Refusal.{Refusal}
use Rattle.definitions.specs.Clerk.{RawLine, raw_line, sheet_of}
use Rattle.definitions.specs.Readings.{parts_at}
use Rattle.definitions.specs.declared.sheet_kind.SheetKind.{SheetKind}
use Rattle.definitions.specs.declared.sheet_kind.SheetKind.TheVariants.{Count, Pick, Recount}
use Rattle.rules.specs.ReadActs.{by_kind}

-- what was done, and to what
pub record ActHead : Type 0 where
  pub kind : SheetKind
  pub number : List ℕ

-- by a word and a number
abbrev pub named_head : List ℕ → List ℕ → Option ActHead
named_head word number = first_of None
    ((not (is_identifier 1 most_number number), None)
    ∷ (bytes_eq word (codes "count"), Some (record { kind = Count; number = number }))
    ∷ (bytes_eq word (codes "pick"), Some (record { kind = Pick; number = number }))
    ∷ [])

-- by the words of the first line
abbrev pub head_in : List (List ℕ) → Option ActHead
head_in (word ∷ number ∷ []) = named_head word number
head_in (word ∷ []) = Some (record { kind = Recount; number = [] })
head_in words = None

-- the line that the text between two LF is, as it was read
abbrev pub record_in : List ℕ → Option RawLine
record_in text = raw_line (parts_at 44 text)

abbrev pub with_sheet : ActHead → Result (List Line) Refusal → Option Act
with_sheet h (Ok sheet) = Some (by_kind h.kind h.number sheet)
with_sheet h (Err refusal) = None

-- the act of a head and of lines, where they make a sheet by the rules
abbrev pub act_from : Rules → List RawLine → ActHead → Option Act
act_from r lines h = with_sheet h (sheet_of r h.kind lines)

abbrev pub act_among : Rules → List (List ℕ) → Option Act
act_among r [] = None
act_among r (head ∷ lines) =
    option_and_then (act_from r (filter_map record_in lines)) (head_in (parts_at 32 head))

-- the act that a text looks like
abbrev pub likely_act : Rules → List ℕ → Option Act
likely_act r text = act_among r (parts_at 10 text)
