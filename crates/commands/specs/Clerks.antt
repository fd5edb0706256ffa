-- What a clerk did, as the words of a line and a sheet tell it.
use Rattle.std.specs.Prelude.{◌≡◌, ◌⊎◌, ◌+◌, ℕ, nat_lt, if◌then◌else◌, List, length, Option, Some, None, Result, Ok, Err}
use Rattle.definitions.specs.declared.sheet_kind.SheetKind.{SheetKind}
use Rattle.definitions.specs.Rules.{Today}
use Rattle.definitions.specs.Header.{Who}
use Rattle.definitions.specs.Means.{Line}
use Rattle.definitions.specs.Register.{Command, Clerk}
use Rattle.sheet_texts.specs.Texts.{sheet_of_text}
use Rattle.definitions.specs.declared.refusals.Refusal.{Refusal}
use Rattle.definitions.specs.declared.refusals.Refusal.TheVariants.{BadText, TooManyLines}
use Rattle.intake.specs.Calls as calls
use Rattle.commands.specs.Files.{Reads}
use Rattle.commands.specs.declared.files.TheConstants.{MOST_SHEET}
use Rattle.command_line.specs.declared.words.ClerkWords.{ClerkWords}

abbrev pub command_of : Who → ClerkWords → List Line → Command
command_of who t sheet = Clerk who t.ticket.now (calls.act_of t.kind t.number.now sheet)

-- the depositor that the words name; none where one of the words can't be read
abbrev pub depositor_of : ClerkWords → Option Who
depositor_of t = calls.depositor_of t.kind t.who.now t.ticket.now t.number.now

-- why a file makes no sheet that is longer than a sheet may be, by what its first bytes make: they
-- may have too many lines already; else it can't be read
abbrev pub long_reason : Result (List Line) Refusal → Refusal
long_reason (Err TooManyLines) = TooManyLines
long_reason made = BadText

-- the sheet of a file of which this text was read: its first bytes, up to one more than a sheet may
-- have
abbrev pub sheet_read : SheetKind → List ℕ → Result (List Line) Refusal
sheet_read kind text =
    if nat_lt MOST_SHEET (length text) then Err (long_reason (sheet_of_text Today kind text))
    else sheet_of_text Today kind text

-- this was read of the file that the words name
abbrev pub IsSheetRead : Reads → ClerkWords → List ℕ → Type 0
IsSheetRead reads t text = reads t.sheet.now (MOST_SHEET + 1) text

-- what a slip of these words has: the words, the depositor that they name, the text that was read,
-- and the sheet of their kind in it
pub record IsSlipOf
    (reads : Reads) (t : ClerkWords) (who : Who) (kept : ClerkWords) (text : List ℕ)
    (sheet : List Line) : Type 0 where
  pub words : kept ≡ t
  pub named : depositor_of t ≡ Some who
  pub from : IsSheetRead reads t text
  pub read : sheet_read t.kind text ≡ Ok sheet

-- A clerk's words come to no slip: a word can't be read, or there is no sheet in what was read of
-- the file.
abbrev pub IsNoSlip : Reads → ClerkWords → Refusal → Type 0
IsNoSlip reads words refusal =
    ((refusal ≡ BadText) × (depositor_of words ≡ None))
    ⊎ ((text : List ℕ) × IsSheetRead reads words text
    × (sheet_read words.kind text ≡ Err refusal))
