-- What a command that was made ready does to a book, and what is printed of it.
use Rattle.std.specs.Prelude.{ℕ, List, [], Option, Result, IfOk, IfErr, OnOk, OnErr}
use Rattle.std.specs.Io.KnownBytes.{Appends}
use Rattle.definitions.specs.Rules.{Today}
use Rattle.definitions.specs.Accepted.{reply_to, after}
use Rattle.definitions.specs.Moments.{Moment}
use Rattle.definitions.specs.Register.{Command, Enrol, Interchange}
use Rattle.store.specs.Standing.{Standing, IsUsable, LeavesEither, OfKept, OfUsable}
use Rattle.commands.specs.Clerks.{command_of}
use Rattle.commands.specs.Enrolling.{IsEnrolling}
use Rattle.commands.specs.Stops.{IsStopped}
use Rattle.commands.specs.Takes.{IsTaking}
use Rattle.commands.specs.TakesInto.{IsInboxTaking}
use Rattle.commands.specs.Telling.{IsPrinted, said_of, printed_of}
use Rattle.commands.specs.declared.acts.Ready.{Ready}
use Rattle.commands.specs.declared.acts.Ready.TheVariants as ready
use Rattle.commands.specs.declared.told.CommandError.{CommandError}
use Rattle.commands.specs.declared.told.ExitStatus.{ExitStatus}

-- how a command ended
abbrev pub Ending : Type 0
Ending = Result ExitStatus CommandError

-- One command was handed in: its reply is printed, the register is the one after it, and a stop, of
-- which it is said what it was and what is printed, leaves the one before it or that one.
pub record IsHandedIn
    (old new : Standing) (c : Command) (t : Moment) (before later : Option (List ℕ))
    (ending : Ending) : Type 0 where
  pub printed : OfKept old new
      (λ L. IfOk ending (IsPrinted (reply_to Today old.warehouse L c t) before later))
  pub done : OfUsable old new
      (λ L. OnOk ending (IsUsable new (after Today old.warehouse L (c, t))))
  pub left : OfUsable old new
      (λ L. OnErr ending (LeavesEither new L (after Today old.warehouse L (c, t))))
  pub stopped : IfErr ending (IsStopped old new c t printed_of before later)

-- what was made ready was done; a list of depositors and a folder are many commands
abbrev pub IsPerformed : Standing → Standing → Ready → Moment → Option (List ℕ) → Option (List ℕ)
    → Ending → Type 0
IsPerformed old new (ready.Enrol who) t before later ending =
    IsHandedIn old new (Enrol who) t before later ending
IsPerformed old new (ready.Roster partners) t before later ending =
    IsEnrolling old new partners.items t before later ending
IsPerformed old new (ready.Send bytes) t before later ending =
    IsHandedIn old new (Interchange bytes.items) t before later ending
IsPerformed old new (ready.Take dir) t before later ending = IsTaking old new t before later ending
IsPerformed old new (ready.TakeInto inbox) t before later ending =
    IsInboxTaking old new t before later ending
IsPerformed old new (ready.Clerk slip) t before later ending =
    IsHandedIn old new (command_of slip.who slip.words slip.sheet) t before later ending

-- of the command's reply this is told on standard error
abbrev pub IsSaid : Standing → Standing → Command → Moment → Option (List ℕ) → Option (List ℕ)
    → Ending → Type 0
IsSaid old new c t before later ending =
    OfKept old new
    (λ L. OnOk ending (Appends before later (said_of (reply_to Today old.warehouse L c t))))

-- the same of what was made ready; what is refused of a list is printed, and of what `take` tells
-- nothing is said here
abbrev pub IsSaidOf : Standing → Standing → Ready → Moment → Option (List ℕ) → Option (List ℕ)
    → Ending → Type 0
IsSaidOf old new (ready.Enrol who) t before later ending =
    IsSaid old new (Enrol who) t before later ending
IsSaidOf old new (ready.Roster partners) t before later ending =
    OnOk ending (Appends before later [])
IsSaidOf old new (ready.Send bytes) t before later ending =
    IsSaid old new (Interchange bytes.items) t before later ending
IsSaidOf old new (ready.Take dir) t before later ending = Unit {0}
IsSaidOf old new (ready.TakeInto inbox) t before later ending = Unit {0}
IsSaidOf old new (ready.Clerk slip) t before later ending =
    IsSaid old new (command_of slip.who slip.words slip.sheet) t before later ending
