-- The register: what was accepted of each depositor, in order.
use Rattle.std.specs.Prelude.{ℕ, ◌+◌, Bool, true, false, ◌&&◌, List, [], ◌∷◌, ◌++◌, if◌then◌else◌, ◌==◌, Some, None, codes, bytes_eq, decimal, count_by, filter, flat_map, Option, option_map}
use Rattle.definitions.specs.declared.rules.Rules.{Rules}
use Rattle.definitions.specs.Rules.{rules_number, may_follow}
use Rattle.definitions.specs.Moments.{Moment}
use Rattle.definitions.specs.Header.{Who, who_eq, isa}
use Rattle.definitions.specs.Means.{Line}

-- a clerk's act, with the lines of its sheet by item and lot
pub data Act : Type 0 where
  -- of an advice, by its shipment number
  Count : List ℕ → List Line → Act
  -- of an order, by its number
  Pick : List ℕ → List Line → Act
  Recount : List Line → Act

pub data Command : Type 0 where
  Interchange : List ℕ → Command
  Enrol : Who → Command
  -- the depositor, the ticket and the act
  Clerk : Who → List ℕ → Act → Command

-- what an entry records
pub data Deed : Type 0 where
  Enrolled : Deed
  -- an interchange's bytes
  Received : List ℕ → Deed
  -- a clerk's ticket and act
  Performed : List ℕ → Act → Deed

pub record Entry : Type 0 where
  pub who : Who
  pub moment : Moment
  pub deed : Deed
  -- those that it is judged by
  pub rules : Rules

-- an entry under rules 1
abbrev pub is_first : Entry → Bool
is_first e = rules_number e.rules == 1

-- whether the rules of entries never fall, from these on
abbrev pub never_fall : Rules → List Entry → Bool
never_fall r [] = true
never_fall r (e ∷ L) = may_follow r e.rules && never_fall e.rules L

-- Marks: `E` of an enrolment, `X` and ISA13 of an interchange, `T` and the ticket of a clerk's act.

abbrev pub interchange_mark : List ℕ → List ℕ
interchange_mark control = codes "X" ++ control

abbrev pub ticket_mark : List ℕ → List ℕ
ticket_mark ticket = codes "T" ++ ticket

abbrev pub deed_mark : Deed → List ℕ
deed_mark Enrolled = codes "E"
deed_mark (Received text) = interchange_mark (isa text 13)
deed_mark (Performed ticket act) = ticket_mark ticket

abbrev pub mark : Entry → List ℕ
mark e = deed_mark e.deed

-- the mark of the entry that a command makes
abbrev pub command_mark : Command → List ℕ
command_mark (Interchange text) = interchange_mark (isa text 13)
command_mark (Enrol w) = codes "E"
command_mark (Clerk w ticket act) = ticket_mark ticket

-- an entry other than the enrolment has a number
abbrev pub is_numbered : Entry → Bool
is_numbered e = by_deed e.deed
  where
    by_deed : Deed → Bool
    by_deed Enrolled = false
    by_deed d = true

-- the depositor's own entries, in their order
abbrev pub own : List Entry → Who → List Entry
own L d = filter (λ e. who_eq e.who d) L

-- the number that the next numbered entry has
abbrev pub next_number : List Entry → ℕ
next_number M = count_by is_numbered M + 1

-- an entry that is there, and those before it
pub record Known : Type 0 where
  pub before : List Entry
  pub entry : Entry

-- the first entry with the mark
abbrev pub known : List ℕ → List Entry → Option Known
known under [] = None
known under (e ∷ M) = if bytes_eq (mark e) under then Some (record { before = []; entry = e })
    else option_map (λ k. record { before = e ∷ k.before; entry = k.entry }) (known under M)

-- Canonical texts of a clerk's acts: a head, and a line for each of the sheet.

abbrev pub line_text : Line → List ℕ
line_text l = l.item ++ codes "," ++ l.lot ++ codes "," ++ decimal l.quantity ++ codes "\n"

abbrev pub canonical : Act → List ℕ
canonical (Count shipment sheet) = codes "count " ++ shipment ++ codes "\n"
    ++ flat_map line_text sheet
canonical (Pick order sheet) = codes "pick " ++ order ++ codes "\n" ++ flat_map line_text sheet
canonical (Recount sheet) = codes "recount\n" ++ flat_map line_text sheet

-- what an entry keeps of a deed: nothing, the bytes, or the canonical text
abbrev pub body_of : Deed → List ℕ
body_of Enrolled = []
body_of (Received text) = text
body_of (Performed ticket act) = canonical act
