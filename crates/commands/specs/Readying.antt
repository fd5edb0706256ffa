-- What the words of a line are made ready to, and what comes of it.
use Rattle.std.specs.Prelude.{◌≡◌, ◌⊎◌, ◌+◌, ℕ, List, [], Option, Some, None, IfOk, IfSome, OnOk}
use Rattle.std.specs.Io.KnownBytes.{Appends}
use Rattle.definitions.specs.declared.limits.TheConstants.{MOST_BYTES}
use Rattle.definitions.specs.Header.{Who, who_of}
use Rattle.definitions.specs.Moments.{Moment}
use Rattle.store.specs.Refusal.{Refusal}
use Rattle.store.specs.Refusal.TheVariants.{BadText}
use Rattle.store.specs.Standing.{Standing, IsUnchanged}
use Rattle.commands.specs.Acting.{Ending, IsPerformed}
use Rattle.commands.specs.Clerks.{IsNoSlip, IsSlipOf}
use Rattle.commands.specs.Files.{Reads, IsLonger, IsWithin}
use Rattle.commands.specs.Trying.{IsTriedOf}
use Rattle.command_line.specs.Rosters.{IsRosterRead}
use Rattle.commands.specs.declared.files.TheConstants.{MOST_ROSTER}
use Rattle.commands.specs.declared.acts.Ready.{Ready}
use Rattle.commands.specs.declared.acts.Ready.TheVariants as ready
use Rattle.commands.specs.declared.told.ExitStatus.TheVariants.{Refused}
use Rattle.command_line.specs.declared.words.BookAct.{BookAct}
use Rattle.command_line.specs.declared.words.BookAct.TheVariants as act

-- the list in a file names these depositors
abbrev pub IsRosterIn : Reads → List ℕ → List Who → Type 0
IsRosterIn reads file whos = (text : List ℕ) × IsWithin reads file MOST_ROSTER text
    × IsRosterRead text (Some whos)

-- a file lists no depositors: it is too long, or its text is no list
abbrev pub IsNoRoster : Reads → List ℕ → Type 0
IsNoRoster reads file = IsLonger reads file MOST_ROSTER
    ⊎ ((text : List ℕ) × IsWithin reads file MOST_ROSTER text × IsRosterRead text None)

-- it is what these words ask for; an interchange is what was read of its file, of one that is too
-- long one byte more than it may have
abbrev pub IsMadeReady : Reads → BookAct → Ready → Type 0
IsMadeReady reads (act.Enrol who) (ready.Enrol w) = who_of who.now ≡ Some w
IsMadeReady reads (act.Roster file) (ready.Roster partners) =
    IsRosterIn reads file.now partners.items
IsMadeReady reads (act.Send file) (ready.Send bytes) = reads file.now (MOST_BYTES + 1) bytes.items
IsMadeReady reads (act.Take dir None) (ready.Take folder) = folder ≡ dir
IsMadeReady reads (act.Take dir (Some done)) (ready.TakeInto inbox) = (inbox.dir ≡ dir)
    × (inbox.done ≡ done)
IsMadeReady reads (act.Clerk told) (ready.Clerk slip) =
    IsSlipOf reads told slip.who slip.words slip.text.items slip.sheet
IsMadeReady reads a r = ⊥

-- These words aren't made ready, for this reason. An interchange and a folder are handed in
-- whatever they are.
abbrev pub IsUnready : Reads → BookAct → Refusal → Type 0
IsUnready reads (act.Enrol who) refusal = (refusal ≡ BadText) × (who_of who.now ≡ None)
IsUnready reads (act.Roster file) refusal = (refusal ≡ BadText) × IsNoRoster reads file.now
IsUnready reads (act.Clerk told) refusal = IsNoSlip reads told refusal
IsUnready reads a refusal = ⊥

-- the words or their files were refused, or a fault came first: the book is as before, and nothing
-- is printed
pub record IsNothingDone
    (old new : Standing) (before later : Option (List ℕ)) (ending : Ending) : Type 0 where
  pub same : IsUnchanged old new
  pub printed : Appends before later []
  pub says : IfOk ending (λ status. status ≡ Refused)

-- these words were refused for a reason that holds of them and of their file, or a fault came first
pub record IsNotReady
    (reads : Reads) (old new : Standing) (a : BookAct) (before later : Option (List ℕ)) (ending : Ending)
    : Type 0 where
  pub left : IsNothingDone old new before later ending
  pub why : OnOk ending ((refusal : Refusal) × IsUnready reads a refusal)

-- what the words ask for was done, at the moment that the line says, if it says one
pub record IsDoneAt
    (reads : Reads) (old new : Standing) (a : BookAct) (at : Option Moment)
    (before later : Option (List ℕ)) (ending : Ending) : Type 0 where
  pub ready : Ready
  pub made : IsMadeReady reads a ready
  pub moment : Moment
  pub given : IfSome at (λ t. moment ≡ t)
  pub performed : IsPerformed old new ready moment before later ending

-- what the words ask for was tried, at the moment that the line says, if it says one
pub record IsTriedAt
    (reads : Reads) (old new : Standing) (a : BookAct) (at : Option Moment)
    (before later : Option (List ℕ)) (ending : Ending) : Type 0 where
  pub ready : Ready
  pub made : IsMadeReady reads a ready
  pub moment : Moment
  pub given : IfSome at (λ t. moment ≡ t)
  pub tried : IsTriedOf old new ready moment before later ending

abbrev pub IsTrial : Reads → Standing → Standing → BookAct → Option Moment
    → Option (List ℕ) → Option (List ℕ) → Ending → Type 0
IsTrial reads old new a at before later ending = IsTriedAt reads old new a at before later ending
    ⊎ IsNotReady reads old new a before later ending

abbrev pub IsChange : Reads → Standing → Standing → BookAct → Option Moment
    → Option (List ℕ) → Option (List ℕ) → Ending → Type 0
IsChange reads old new a at before later ending = IsDoneAt reads old new a at before later ending
    ⊎ IsNotReady reads old new a before later ending
