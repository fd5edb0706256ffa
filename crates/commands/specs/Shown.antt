-- What is shown of a register, and the status that it gives.
use Rattle.std.specs.Prelude.{◌≡◌, ◌⊎◌, ℕ, Bool, List, [], Option, Some, None, Result, Ok, Err, IfOk, IfErr, if◌then◌else◌}
use Rattle.std.specs.Io.KnownBytes.{Appends}
use Rattle.definitions.specs.Decision.{standing}
use Rattle.definitions.specs.Header.{Who}
use Rattle.definitions.specs.Events.{Event}
use Rattle.definitions.specs.History.{History}
use Rattle.definitions.specs.Moments.{Moment}
use Rattle.definitions.specs.declared.refusals.Refusal.{Refusal}
use Rattle.definitions.specs.Register.{Entry, own}
use Rattle.definitions.specs.Reports.{outbox_list, pick_list}
use Rattle.definitions.specs.Rows.{StockRow, OutRow, stock_of, outbox_of}
use Rattle.reports.specs.Exports.{stock_text}
use Rattle.reports.specs.PickSheets.{picking_csv}
use Rattle.reports.specs.Receiving.{receiving_csv, receiving_list}
use Rattle.reports.specs.Open.{depositor_list, open_report}
use Rattle.store.specs.Open.{OpenWork, enrolled, open_of}
use Rattle.seals.specs.Noted.{noted_line, noted_of, noted_of_first}
use Rattle.store.specs.Sent.{text_of}
use Rattle.store.specs.Standing.{Standing, IsQueryFault, IsUnchanged, OfKept}
use Rattle.commands.specs.Printing.{AppendsFront}
use Rattle.commands.specs.Stops.{IsDeviceStop, IsSilent}
use Rattle.commands.specs.Telling.{line_of}
use Rattle.commands.specs.declared.told.CommandError.{CommandError}
use Rattle.commands.specs.declared.told.ExitStatus.{ExitStatus}
use Rattle.commands.specs.declared.told.ExitStatus.TheVariants.{Done, Refused}
use Rattle.commands.specs.declared.shows.Look.{Look}
use Rattle.commands.specs.declared.shows.Look.TheVariants as asks

-- what is printed, and the status
abbrev pub Shown : Type 0
Shown = List ℕ × ExitStatus

-- a stranger is shown nothing
abbrev pub shown_stock : Bool → Option (List StockRow) → Shown
shown_stock is_csv None = ([], Refused)
shown_stock is_csv (Some rows) = (stock_text is_csv rows, Done)

abbrev pub shown_list : Option (List OutRow) → Shown
shown_list None = ([], Refused)
shown_list (Some rows) = (outbox_list rows, Done)

abbrev pub shown_open : Option OpenWork → Shown
shown_open None = ([], Refused)
shown_open (Some work) = (open_report work, Done)

abbrev pub shown_depositors : List Who → Shown
shown_depositors whos = (depositor_list whos, Done)

-- a text that went out, where one did
abbrev pub shown_text : Option (Option (List ℕ)) → Shown
shown_text (Some (Some text)) = (line_of text, Done)
shown_text other = ([], Refused)

abbrev pub shown_sheet : Result (List ℕ) Refusal → Shown
shown_sheet (Ok text) = (text, Done)
shown_sheet (Err why) = ([], Refused)

-- the sheet of an advice, or of an order, as text or as CSV
abbrev pub receiving_text : Bool → List Event → List ℕ → Result (List ℕ) Refusal
receiving_text is_csv events number =
    if is_csv then receiving_csv events number else receiving_list events number

abbrev pub picking_text : Bool → List Event → List ℕ → Result (List ℕ) Refusal
picking_text is_csv events number =
    if is_csv then picking_csv events number else pick_list events number

-- a sheet of a depositor's history; a stranger has none
abbrev pub shown_by : (History → Result (List ℕ) Refusal) → Option History → Shown
shown_by sheet None = ([], Refused)
shown_by sheet (Some h) = shown_sheet (sheet h)

-- that of an advice, and that of an order
abbrev pub shown_advice : Bool → List ℕ → Option History → Shown
shown_advice is_csv number o = shown_by (λ h. receiving_text is_csv h.events number) o

abbrev pub shown_order : Bool → List ℕ → Option History → Shown
shown_order is_csv number o = shown_by (λ h. picking_text is_csv h.events number) o

-- the seal of so many entries, if there are so many
abbrev pub shown_first : Option (ℕ × List ℕ × Option Moment) → Shown
shown_first None = ([], Refused)
shown_first (Some noted) = (noted_line noted, Done)

-- the seal of a register, or of its first entries, with their number
abbrev pub shown_seal : Option ℕ → List Entry → Shown
shown_seal None L = (noted_line (noted_of L), Done)
shown_seal (Some n) L = shown_first (noted_of_first n L)

-- what a warehouse with this register shows
abbrev pub shown_of : Who → List Entry → Look → Shown
shown_of W L (asks.Stock who is_csv) = shown_stock is_csv (stock_of L who)
shown_of W L (asks.Open who) = shown_open (open_of L who)
shown_of W L (asks.Advice who number is_csv) =
    shown_advice is_csv number.now (standing (own L who))
shown_of W L (asks.Order who number is_csv) = shown_order is_csv number.now (standing (own L who))
shown_of W L (asks.Outbox who None) = shown_list (outbox_of W L who)
shown_of W L (asks.Outbox who (Some n)) = shown_text (text_of W L who n)
shown_of W L asks.Depositors = shown_depositors (enrolled L)

-- it was printed, and the status is the one that it gives
pub record IsShown
    (shown : Shown) (before later : Option (List ℕ)) (status : ExitStatus) : Type 0 where
  pub printed : Appends before later shown.0
  pub says : status ≡ shown.1

-- what is to be shown of the register was read, and couldn't be told: of it, there is a beginning
pub record IsUnshown
    (old new : Standing) (shown : List Entry → Shown) (before later : Option (List ℕ))
    (stop : CommandError) : Type 0 where
  pub what : Shown
  pub read : OfKept old new (λ L. what ≡ shown L)
  pub printed : AppendsFront before later what.0
  pub why : IsDeviceStop stop

-- what kept it from being shown: a fault of the book by which it wasn't read, or one of a device
-- after that
abbrev pub IsShowStopped : Standing → Standing → (List Entry → Shown) → Option (List ℕ)
    → Option (List ℕ) → CommandError → Type 0
IsShowStopped old new shown before later stop =
    IsSilent (λ fault. IsQueryFault fault old new) before later stop
    ⊎ IsUnshown old new shown before later stop

-- what is meant was shown, and the book is as before
pub record IsLookAt
    (old new : Standing) (meant : List Entry → Shown) (before later : Option (List ℕ))
    (ending : Result ExitStatus CommandError) : Type 0 where
  pub shown : OfKept old new (λ L. IfOk ending (IsShown (meant L) before later))
  pub same : IsUnchanged old new
  pub stopped : IfErr ending (IsShowStopped old new meant before later)
