-- What a clerk's words and the file with their sheet come to.
use Rattle.std.proofs.Common.{◌≡◌, ◌≢◌, ◌&&◌, Bool, true, false, List, ℕ, Some, None, Err, refl, sym, subst, inl, inr, if◌then◌else◌}
use Rattle.std.specs.Cmp.Derive.{both_true}
use Rattle.definitions.proofs.TextLaws.{both_parts}
use Rattle.definitions.specs.Limits.{most_ticket}
use Rattle.definitions.specs.Bytes.{is_identifier}
use Rattle.definitions.specs.Header.{Who, is_partner, who_of}
use Rattle.definitions.specs.Means.{Line}
use Rattle.definitions.specs.Accepted.{is_command}
use Rattle.definitions.specs.Clerk.{is_act, is_sheet}
use Rattle.definitions.specs.Register.{Clerk}
use Rattle.definitions.specs.Rules.{Today}
use Rattle.definitions.specs.declared.sheet_kind.SheetKind.{SheetKind}
use Rattle.definitions.specs.declared.sheet_kind.SheetKind.TheVariants.{Count, Pick, Recount}
use Rattle.intake.specs.Calls.{act_of, depositor_of, is_named}
use Rattle.definitions.specs.declared.refusals.Refusal.{Refusal}
use Rattle.definitions.specs.declared.refusals.Refusal.TheVariants.{Unreadable, Note, Duplicate, UnknownDepositor, TicketUsed, UnknownAdvice, AdviceClosed, UnknownOrder, OrderClosed, NotReserved, UnknownLot, BelowReserved, NoDifference, TooMuch, RepeatedLine, BadText, TooManyLines, NumbersUsedUp, AlreadyEnrolled}
use Rattle.command_line.specs.declared.words.BookAct.{BookAct}
use Rattle.command_line.specs.declared.words.BookAct.TheVariants as act
use Rattle.command_line.specs.declared.words.ClerkWords.{ClerkWords}
use Rattle.commands.specs.Clerks.{IsNoSlip, IsSheetRead, IsSlipOf, long_reason}
use Rattle.commands.specs.Files.{Reads, IsLonger, IsWithin, reads_any, reads_as}
use Rattle.commands.specs.Readying.{IsMadeReady, IsNoRoster, IsUnready}
use Rattle.commands.specs.declared.acts.Ready.{Ready}
use Rattle.commands.specs.declared.acts.Ready.TheVariants as ready
use Rattle.commands.specs.declared.files.TheConstants.{MOST_ROSTER}

pub long_other : (r : Refusal) → r ≢ TooManyLines → long_reason (Err r) ≡ BadText
long_other Unreadable h = refl
long_other (Note code) h = refl
long_other Duplicate h = refl
long_other UnknownDepositor h = refl
long_other TicketUsed h = refl
long_other UnknownAdvice h = refl
long_other AdviceClosed h = refl
long_other UnknownOrder h = refl
long_other OrderClosed h = refl
long_other NotReserved h = refl
long_other UnknownLot h = refl
long_other BelowReserved h = refl
long_other NoDifference h = refl
long_other TooMuch h = refl
long_other RepeatedLine h = refl
long_other BadText h = refl
long_other TooManyLines h = absurd (h refl)
long_other NumbersUsedUp h = refl
long_other AlreadyEnrolled h = refl

-- an act whose number and sheet are good
act_good : (kind : SheetKind) (number : List ℕ) (sheet : List Line) → is_named kind number ≡ true → is_sheet Today kind sheet ≡ true → is_act Today (act_of kind number sheet) ≡ true
act_good Count number sheet named good = both_true named good
act_good Pick number sheet named good = both_true named good
act_good Recount number sheet named good = good

-- words that name a depositor, with a sheet of their kind, make a command that can be given
pub given_good : (kind : SheetKind) (name ticket number : List ℕ) (w : Who) (sheet : List Line) → depositor_of kind name ticket number ≡ Some w → is_sheet Today kind sheet ≡ true
    → is_partner w ≡ true → is_command Today (Clerk w ticket (act_of kind number sheet)) ≡ true
given_good kind name ticket number w sheet named good partner = by (is_identifier 1 most_ticket ticket && is_named kind number) refl named
  where
    by : (b : Bool) → (is_identifier 1 most_ticket ticket && is_named kind number) ≡ b → (if b then who_of name else None) ≡ Some w → is_command Today (Clerk w ticket (act_of kind number sheet)) ≡ true
    by true e h =
        let p = both_parts (is_identifier 1 most_ticket ticket) (is_named kind number) e in
        both_true (both_true partner p.0) (act_good kind number sheet p.1 good)
    by false e h = cc

-- a slip of what was read of the file
pub slip_from : (reads : Reads) (t : ClerkWords) (who : Who) (kept : ClerkWords) (text given : List ℕ) (sheet : List Line) → IsSheetRead reads t given
    → IsSlipOf (reads_as given) t who kept text sheet → IsSlipOf reads t who kept text sheet
slip_from reads t who kept text given sheet read h = record {
  words = h.words;
  named = h.named;
  from = subst (IsSheetRead reads t) (sym h.from) read;
  read = h.read;
}

-- what holds of words and files, holds where nothing is said of the files

pub slip_any : (reads : Reads) (t : ClerkWords) (who : Who) (kept : ClerkWords) (text : List ℕ) (sheet : List Line) → IsSlipOf reads t who kept text sheet → IsSlipOf reads_any t who kept text sheet
slip_any reads t who kept text sheet h = record { words = h.words; named = h.named; from = tt; read = h.read }

no_slip_any : (reads : Reads) (t : ClerkWords) (r : Refusal) → IsNoSlip reads t r → IsNoSlip reads_any t r
no_slip_any reads t r (inl h) = inl h
no_slip_any reads t r (inr h) = inr (h.0, tt, h.2)

within_any : (reads : Reads) (file : List ℕ) (most : ℕ) (bytes : List ℕ) → IsWithin reads file most bytes → IsWithin reads_any file most bytes
within_any reads file most bytes h = record { read = tt; within = h.within }

longer_any : (reads : Reads) (file : List ℕ) (most : ℕ) → IsLonger reads file most → IsLonger reads_any file most
longer_any reads file most h = record { bytes = h.bytes; read = tt; longer = h.longer }

no_roster_any : (reads : Reads) (file : List ℕ) → IsNoRoster reads file → IsNoRoster reads_any file
no_roster_any reads file (inl h) = inl (longer_any reads file MOST_ROSTER h)
no_roster_any reads file (inr h) = inr (h.0, within_any reads file MOST_ROSTER h.0 h.1, h.2)

pub made_any : (reads : Reads) (a : BookAct) (r : Ready) → IsMadeReady reads a r → IsMadeReady reads_any a r
made_any reads (act.Enrol who) (ready.Enrol w) h = h
made_any reads (act.Roster file) (ready.Roster partners) h = (h.0, within_any reads file.now MOST_ROSTER h.0 h.1, h.2)
made_any reads (act.Send file) (ready.Send bytes) h = tt
made_any reads (act.Take dir None) (ready.Take folder) h = h
made_any reads (act.Take dir (Some done)) (ready.TakeInto inbox) h = h
made_any reads (act.Clerk told) (ready.Clerk slip) h = slip_any reads told slip.who slip.words slip.text.items slip.sheet h
made_any reads a r h = absurd h

pub unready_any : (reads : Reads) (a : BookAct) (r : Refusal) → IsUnready reads a r → IsUnready reads_any a r
unready_any reads (act.Enrol who) r h = h
unready_any reads (act.Roster file) r h = (h.0, no_roster_any reads file.now h.1)
unready_any reads (act.Send file) r h = absurd h
unready_any reads (act.Take dir to) r h = absurd h
unready_any reads (act.Clerk told) r h = no_slip_any reads told r h
