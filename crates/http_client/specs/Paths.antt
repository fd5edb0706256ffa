-- The paths at which a server takes what it is asked for.
use Rattle.std.specs.Prelude.{ℕ, Bool, true, false, List, [], ◌∷◌, ◌++◌, Option, Some, None, codes, decimal, flat_map}
use Rattle.intake.specs.Calls.{Call, ToDeed, ToOrder, ToExport, ToOpen, ToDepositors}
use Rattle.command_line.specs.declared.words.ClerkWords.{ClerkWords}
use Rattle.definitions.specs.declared.sheet_kind.SheetKind.{SheetKind}
use Rattle.definitions.specs.declared.sheet_kind.SheetKind.TheVariants.{Count, Pick, Recount}
use Rattle.command_line.specs.declared.words.Show.{Show}
use Rattle.command_line.specs.declared.words.Show.TheVariants as show

-- `/` before each part
abbrev pub path_text : List (List ℕ) → List ℕ
path_text parts = flat_map (λ (part : List ℕ). codes "/" ++ part) parts

abbrev pub name_of : SheetKind → List ℕ
name_of Count = codes "count"
name_of Pick = codes "pick"
name_of Recount = codes "recount"

-- a recount has no number
abbrev pub deed_text : SheetKind → List ℕ → List ℕ → List ℕ → List ℕ
deed_text Recount who ticket number = path_text (name_of Recount ∷ who ∷ ticket ∷ [])
deed_text d who ticket number = path_text (name_of d ∷ who ∷ ticket ∷ number ∷ [])

abbrev pub deed_path : ClerkWords → List ℕ
deed_path t = deed_text t.kind t.who.now t.ticket.now t.number.now

-- the path at which a server tells what would be answered at another
abbrev pub tried_at : List ℕ → List ℕ
tried_at path = codes "/try" ++ path

abbrev pub text_path : List ℕ → ℕ → List ℕ
text_path who n = path_text (codes "outbox" ∷ who ∷ decimal n ∷ [])

-- the path of the sheet of an advice or an order
abbrev pub sheet_path : List ℕ → List ℕ → List ℕ → Bool → List ℕ
sheet_path name who number false = path_text (name ∷ who ∷ number ∷ [])
sheet_path name who number true = path_text (name ∷ who ∷ number ∷ codes "csv" ∷ [])

abbrev pub look_path : Show → List ℕ
look_path (show.Stock who false) = path_text (codes "stock" ∷ who.now ∷ [])
look_path (show.Stock who true) = path_text (codes "stock" ∷ who.now ∷ codes "csv" ∷ [])
look_path (show.Open who) = path_text (codes "open" ∷ who.now ∷ [])
look_path (show.Advice who number is_csv) = sheet_path (codes "advices") who.now number.now is_csv
look_path (show.Order who number is_csv) = sheet_path (codes "orders") who.now number.now is_csv
look_path (show.Outbox who None) = path_text (codes "outbox" ∷ who.now ∷ [])
look_path (show.Outbox who (Some n)) = text_path who.now n
look_path show.Depositors = path_text (codes "depositors" ∷ [])

-- what a server finds at the path of a deed, and at those of what only clerks are shown
abbrev pub deed_call : SheetKind → List ℕ → List ℕ → List ℕ → Call
deed_call Recount who ticket number = ToDeed Recount who ticket []
deed_call d who ticket number = ToDeed d who ticket number

abbrev pub show_call : Show → Option Call
show_call (show.Order who number false) = Some (ToOrder who.now number.now)
show_call (show.Stock who true) = Some (ToExport who.now)
show_call (show.Open who) = Some (ToOpen who.now)
show_call show.Depositors = Some ToDepositors
show_call other = None
