-- Why something isn't shown of a register, and what is told of it on standard error.
use Rattle.std.specs.Prelude.{ℕ, Bool, List, [], Option, Some, None, Result, Ok, Err, OnOk}
use Rattle.std.specs.Io.KnownBytes.{Appends}
use Rattle.definitions.specs.Decision.{standing}
use Rattle.definitions.specs.Header.{Who}
use Rattle.definitions.specs.History.{History}
use Rattle.definitions.specs.Register.{Entry, own}
use Rattle.definitions.specs.Rows.{stock_of, outbox_of}
use Rattle.definitions.specs.declared.refusals.Refusal.{Refusal}
use Rattle.definitions.specs.declared.refusals.Refusal.TheVariants.{UnknownDepositor}
use Rattle.store.specs.Open.{open_of}
use Rattle.store.specs.Sent.{text_of}
use Rattle.store.specs.Standing.{Standing, OfKept}
use Rattle.commands.specs.Acting.{Ending}
use Rattle.commands.specs.Shown.{picking_text, receiving_text}
use Rattle.commands.specs.Telling.{refused_line}
use Rattle.commands.specs.declared.shows.Look.{Look}
use Rattle.commands.specs.declared.shows.Look.TheVariants as asks

-- a stranger has nothing
abbrev pub refused_stranger : {A : Type 0} → Option A → Option Refusal
refused_stranger None = Some UnknownDepositor
refused_stranger (Some a) = None

abbrev pub refused_sheet : Result (List ℕ) Refusal → Option Refusal
refused_sheet (Ok text) = None
refused_sheet (Err why) = Some why

-- why a depositor's history has no such sheet
abbrev pub refused_by : (History → Result (List ℕ) Refusal) → Option History → Option Refusal
refused_by sheet None = Some UnknownDepositor
refused_by sheet (Some h) = refused_sheet (sheet h)

-- that of an advice, and that of an order
abbrev pub refused_advice : Bool → List ℕ → Option History → Option Refusal
refused_advice is_csv number o = refused_by (λ h. receiving_text is_csv h.events number) o

abbrev pub refused_order : Bool → List ℕ → Option History → Option Refusal
refused_order is_csv number o = refused_by (λ h. picking_text is_csv h.events number) o

-- why a warehouse with this register doesn't show something; of a number under which nothing went
-- out no reason is told
abbrev pub refused_of : Who → List Entry → Look → Option Refusal
refused_of W L (asks.Stock who is_csv) = refused_stranger (stock_of L who)
refused_of W L (asks.Open who) = refused_stranger (open_of L who)
refused_of W L (asks.Advice who number is_csv) =
    refused_advice is_csv number.now (standing (own L who))
refused_of W L (asks.Order who number is_csv) =
    refused_order is_csv number.now (standing (own L who))
refused_of W L (asks.Outbox who None) = refused_stranger (outbox_of W L who)
refused_of W L (asks.Outbox who (Some n)) = refused_stranger (text_of W L who n)
refused_of W L asks.Depositors = None

-- the line of a refusal, if there is one
abbrev pub line_if : Option Refusal → List ℕ
line_if None = []
line_if (Some why) = refused_line why

-- of what is meant this is told on standard error
abbrev pub IsWhySaid : Standing → Standing → (List Entry → Option Refusal) → Option (List ℕ)
    → Option (List ℕ) → Ending → Type 0
IsWhySaid old new why before later ending =
    OfKept old new (λ L. OnOk ending (Appends before later (line_if (why L))))

-- the same of what was asked to be shown
abbrev pub IsLookSaid : Standing → Standing → Look → Option (List ℕ) → Option (List ℕ) → Ending
    → Type 0
IsLookSaid old new asked before later ending =
    IsWhySaid old new (λ L. refused_of old.warehouse L asked) before later ending
