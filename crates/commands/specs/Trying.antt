-- What a command is told to come to that is tried, and not done.
use Rattle.std.specs.Prelude.{◌≡◌, ◌++◌, ℕ, List, [], Option, Err, OnOk, IfErr, codes}
use Rattle.std.specs.Io.KnownBytes.{Appends}
use Rattle.definitions.specs.Rules.{Today}
use Rattle.definitions.specs.Accepted.{reply_to}
use Rattle.definitions.specs.Moments.{Moment}
use Rattle.definitions.specs.Register.{Command, Enrol, Interchange}
use Rattle.definitions.specs.Reply as replies
use Rattle.store.specs.Standing.{Standing, IsUnchanged, OfKept}
use Rattle.commands.specs.Acting.{Ending}
use Rattle.commands.specs.Clerks.{command_of}
use Rattle.commands.specs.Shown.{IsLookAt, Shown}
use Rattle.commands.specs.Stops.{IsUsageStop}
use Rattle.commands.specs.Telling.{printed_of, said_of, status_of}
use Rattle.commands.specs.declared.acts.Ready.{Ready}
use Rattle.commands.specs.declared.acts.Ready.TheVariants as ready

-- what is printed of a reply, and the status that it gives
abbrev pub shown_reply : replies.Reply → Shown
shown_reply reply = (printed_of reply, status_of reply)

-- The reply that the command would be given now is printed as if it had been given, and the book is
-- as before.
abbrev pub IsTried : Standing → Standing → Command → Moment → Option (List ℕ) → Option (List ℕ)
    → Ending → Type 0
IsTried old new c t before later ending =
    IsLookAt old new (λ L. shown_reply (reply_to Today old.warehouse L c t)) before later ending

-- what says that nothing was done
abbrev pub tried_line : List ℕ
tried_line = codes "tried\n"

-- on standard error it tells the refusal, if it is one, and that nothing was done
abbrev pub IsTrialSaid : Standing → Standing → Command → Moment → Option (List ℕ)
    → Option (List ℕ) → Ending → Type 0
IsTrialSaid old new c t before later ending =
    OfKept old new
    (λ L. OnOk ending (Appends before later
    (said_of (reply_to Today old.warehouse L c t) ++ tried_line)))

-- many commands aren't tried at once: the words can't be read so
pub record AreManyTried (old new : Standing) (before later : Option (List ℕ)) (ending : Ending)
    : Type 0 where
  pub same : IsUnchanged old new
  pub printed : Appends before later []
  pub never : OnOk ending ⊥
  pub why : IfErr ending IsUsageStop

-- what was made ready was tried
abbrev pub IsTriedOf : Standing → Standing → Ready → Moment → Option (List ℕ) → Option (List ℕ)
    → Ending → Type 0
IsTriedOf old new (ready.Enrol who) t before later ending =
    IsTried old new (Enrol who) t before later ending
IsTriedOf old new (ready.Send bytes) t before later ending =
    IsTried old new (Interchange bytes.items) t before later ending
IsTriedOf old new (ready.Clerk slip) t before later ending =
    IsTried old new (command_of slip.who slip.words slip.sheet) t before later ending
IsTriedOf old new other t before later ending = AreManyTried old new before later ending

-- and told so
abbrev pub IsTrialSaidOf : Standing → Standing → Ready → Moment → Option (List ℕ)
    → Option (List ℕ) → Ending → Type 0
IsTrialSaidOf old new (ready.Enrol who) t before later ending =
    IsTrialSaid old new (Enrol who) t before later ending
IsTrialSaidOf old new (ready.Send bytes) t before later ending =
    IsTrialSaid old new (Interchange bytes.items) t before later ending
IsTrialSaidOf old new (ready.Clerk slip) t before later ending =
    IsTrialSaid old new (command_of slip.who slip.words slip.sheet) t before later ending
IsTrialSaidOf old new other t before later ending = OnOk ending ⊥
