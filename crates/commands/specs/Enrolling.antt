-- What comes of the depositors of a list, who are enrolled one after another.
use Rattle.std.specs.Prelude.{◌≡◌, ◌⊎◌, ◌<◌, ◌+◌, ◌++◌, ◌∷◌, [], ℕ, Bool, true, false, List, Option, Result, Ok, Err, codes, decimal, length, map, take, if◌then◌else◌}
use Rattle.std.specs.Io.KnownBytes.{Appends}
use Rattle.std.specs.List.{list_any}
use Rattle.definitions.specs.Rules.{Today}
use Rattle.definitions.specs.Accepted.{accepted_on, replies_on, after, reply_to}
use Rattle.definitions.specs.Header.{Who, who_text}
use Rattle.definitions.specs.Moments.{Moment}
use Rattle.definitions.specs.Refusals.{refusal_number}
use Rattle.definitions.specs.Register.{Entry, Command, Enrol}
use Rattle.definitions.specs.Reply as replies
use Rattle.store.specs.Standing.{Standing, IsUsable, KeepsLegal, LeavesEither, IsRunFault, OfKept, OfUsable}
use Rattle.commands.specs.Printing.{AppendsFront}
use Rattle.commands.specs.Stops.{IsDeviceStop, IsFaultThat}
use Rattle.commands.specs.declared.told.CommandError.{CommandError}
use Rattle.commands.specs.declared.told.ExitStatus.{ExitStatus}
use Rattle.commands.specs.declared.told.ExitStatus.TheVariants.{Done, Refused}

-- their enrolments, each at the moment
abbrev pub enrolments : Moment → List Who → List (Command × Moment)
enrolments t whos = map (λ (w : Who). (Enrol w, t)) whos

abbrev pub was_refused : replies.Reply → Bool
was_refused (replies.Refused r text) = true
was_refused other = false

-- one that was refused is enough
abbrev pub status_of_replies : List replies.Reply → ExitStatus
status_of_replies told = if list_any was_refused told then Refused else Done

-- the line that is printed of one
abbrev pub line_of : Who → replies.Reply → List ℕ
line_of who (replies.Refused r text) = who_text who ++ codes " refused "
    ++ decimal (refusal_number r) ++ codes "\n"
line_of who other = who_text who ++ codes " enrolled\n"

-- the lines of all, each after what those before it left
unfoldable pub lines_of : Who → List Entry → Moment → List Who → List ℕ
lines_of W L t [] = []
lines_of W L t (who ∷ whos) = line_of who (reply_to Today W L (Enrol who) t)
    ++ lines_of W (after Today W L (Enrol who, t)) t whos

-- each of them was handed in: the register is the one after all, this is the status, and a line is
-- printed of each
pub record AreEnrolled
    (old new : Standing) (whos : List Who) (t : Moment) (before later : Option (List ℕ))
    (status : ExitStatus) : Type 0 where
  pub usable : OfUsable old new
      (λ L. IsUsable new (accepted_on Today old.warehouse L (enrolments t whos)))
  pub keeps : OfKept old new (λ L. KeepsLegal new
      (accepted_on Today old.warehouse L (enrolments t whos)))
  pub says : OfUsable old new
      (λ L. status ≡ status_of_replies (replies_on Today old.warehouse L (enrolments t whos)))
  pub printed : OfUsable old new (λ L. Appends before later (lines_of old.warehouse L t whos))

-- after these the book gave no answer, and the lines of these are printed
pub record IsUnenrolled
    (old new : Standing) (whos : List Who) (t : Moment) (before later : Option (List ℕ))
    (stop : CommandError) : Type 0 where
  pub why : IsFaultThat stop (λ fault. IsRunFault fault true old new)
  pub printed : OfUsable old new (λ L. Appends before later (lines_of old.warehouse L t whos))

-- these were handed in, and the line of the last couldn't be printed: of their lines, there is a
-- beginning
pub record IsUnlisted
    (old new : Standing) (whos : List Who) (t : Moment) (before later : Option (List ℕ))
    (stop : CommandError) : Type 0 where
  pub opened : new.shut ≡ false
  pub done : OfUsable old new
      (λ L. IsUsable new (accepted_on Today old.warehouse L (enrolments t whos)))
  pub printed : OfUsable old new (λ L. AppendsFront before later (lines_of old.warehouse L t whos))
  pub why : IsDeviceStop stop

-- what stopped a list after so many of these: a fault of the book by which the next wasn't
-- answered, or one of a device after that
abbrev pub IsListStopped : Standing → Standing → List Who → ℕ → Moment → Option (List ℕ)
    → Option (List ℕ) → CommandError → Type 0
IsListStopped old new whos count t before later stop =
    IsUnenrolled old new (take count whos) t before later stop
    ⊎ IsUnlisted old new (take (count + 1) whos) t before later stop

-- so many were handed in, and one more perhaps: a crash leaves the register after those, or after
-- that one too
pub record AreEnrolledUntil
    (old new : Standing) (whos : List Who) (t : Moment) (before later : Option (List ℕ))
    (stop : CommandError) : Type 0 where
  pub count : ℕ
  pub within : count < length whos
  pub left : OfUsable old new
      (λ L. LeavesEither new (accepted_on Today old.warehouse L (enrolments t (take count whos)))
      (accepted_on Today old.warehouse L (enrolments t (take (count + 1) whos))))
  pub stopped : IsListStopped old new whos count t before later stop

-- how a list ended
abbrev pub IsEnrolling : Standing → Standing → List Who → Moment → Option (List ℕ) → Option (List ℕ)
    → Result ExitStatus CommandError → Type 0
IsEnrolling old new whos t before later (Ok status) = AreEnrolled old new whos t before later status
IsEnrolling old new whos t before later (Err stop) =
    AreEnrolledUntil old new whos t before later stop
