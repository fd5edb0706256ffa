-- What a line asks of a server.
use Rattle.std.specs.Prelude.{◌≡◌, ℕ, false, true, List, Some, Ok}
use Rattle.definitions.specs.declared.limits.TheConstants.{MOST_BYTES}
use Rattle.definitions.specs.Header.{Who}
use Rattle.definitions.specs.Means.{Line}
use Rattle.store.specs.Refusal.{Refusal}
use Rattle.store.specs.Refusal.TheVariants.{BadText, Unreadable}
use Rattle.commands.specs.Clerks.{IsNoSlip, IsSheetRead, depositor_of, sheet_read}
use Rattle.commands.specs.Files.{IsLonger, IsWithin, Reads}
use Rattle.commands.specs.Looking.{is_readable}
use Rattle.command_line.specs.declared.words.BookAct.TheVariants as act
use Rattle.command_line.specs.declared.words.ClerkWords.{ClerkWords}
use Rattle.command_line.specs.declared.words.Task.{Task}
use Rattle.command_line.specs.declared.words.Task.TheVariants as task
use Rattle.http_client.specs.declared.errand.Errand.{Errand}
use Rattle.http_client.specs.declared.errand.Errand.TheVariants as errand

-- a clerk's words that can be read, and the text of a sheet of their kind, which was read of its
-- file
pub record IsDeed (reads : Reads) (t : ClerkWords) (text : List ℕ) : Type 0 where
  pub who : Who
  pub named : depositor_of t ≡ Some who
  pub from : IsSheetRead reads t text
  pub sheet : List Line
  pub read : sheet_read t.kind text ≡ Ok sheet

-- it is what the line asks for; the bytes of an interchange are those of its file
abbrev pub IsErrandFor : Reads → Task → Errand → Type 0
IsErrandFor reads (task.Act (act.Send file) at) (errand.Send bytes) =
    IsWithin reads file.now MOST_BYTES bytes.items
IsErrandFor reads (task.Act (act.Clerk told) at) (errand.Deed t text) = (t ≡ told)
    × IsDeed reads told text.items
IsErrandFor reads (task.Try (act.Send file) at) (errand.TrySend bytes) =
    IsWithin reads file.now MOST_BYTES bytes.items
IsErrandFor reads (task.Try (act.Clerk told) at) (errand.TryDeed t text) = (t ≡ told)
    × IsDeed reads told text.items
IsErrandFor reads (task.Show s) (errand.Look shown) = (shown ≡ s) × (is_readable s ≡ true)
IsErrandFor reads t e = ⊥

-- what the line asks for isn't made ready, for this reason: an interchange is refused for its
-- length alone
abbrev pub IsNoErrandFor : Reads → Task → Refusal → Type 0
IsNoErrandFor reads (task.Act (act.Send file) at) refusal = (refusal ≡ Unreadable)
    × IsLonger reads file.now MOST_BYTES
IsNoErrandFor reads (task.Act (act.Clerk told) at) refusal = IsNoSlip reads told refusal
IsNoErrandFor reads (task.Try (act.Send file) at) refusal = (refusal ≡ Unreadable)
    × IsLonger reads file.now MOST_BYTES
IsNoErrandFor reads (task.Try (act.Clerk told) at) refusal = IsNoSlip reads told refusal
IsNoErrandFor reads (task.Show s) refusal = (refusal ≡ BadText) × (is_readable s ≡ false)
IsNoErrandFor reads t refusal = ⊥
