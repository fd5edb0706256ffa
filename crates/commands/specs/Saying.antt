-- What the rows of a batch tell of refusals on standard error, where no more is asked for.
use Rattle.std.specs.Prelude.{◌≡◌, ◌⊎◌, ℕ, false, List, Option, Ok, IfSome, OnOk}
use Rattle.std.specs.List.{FoldsTo}
use Rattle.std.specs.Io.KnownBytes.{Appends}
use Rattle.definitions.specs.Moments.{Moment}
use Rattle.store.specs.Refusal.{Refusal}
use Rattle.store.specs.Refusal.TheVariants.{BadText}
use Rattle.store.specs.Standing.{Standing}
use Rattle.command_line.specs.declared.words.BookAct.{BookAct}
use Rattle.command_line.specs.declared.words.Show.{Show}
use Rattle.command_line.specs.declared.words.Task.{Task}
use Rattle.command_line.specs.declared.words.Task.TheVariants as task
use Rattle.command_line.specs.declared.words.Words.{Words}
use Rattle.command_line.specs.declared.words.Words.TheVariants as words
use Rattle.commands.specs.Acting.{Ending, IsSaidOf}
use Rattle.commands.specs.Files.{Reads}
use Rattle.commands.specs.Looking.{IsAskedFor, is_readable}
use Rattle.commands.specs.Playing.{IsRowRead}
use Rattle.commands.specs.Readying.{IsMadeReady, IsUnready}
use Rattle.commands.specs.Refused.{IsLookSaid}
use Rattle.commands.specs.Telling.{refused_line}
use Rattle.commands.specs.Trying.{IsTrialSaidOf}
use Rattle.commands.specs.declared.acts.Ready.{Ready}
use Rattle.commands.specs.declared.shows.Look.{Look}
use Rattle.commands.specs.declared.told.ExitStatus.{ExitStatus}

module _ (reads : Reads) (old new : Standing) (before later : Option (List ℕ)) (ending : Ending) where
  -- what was made ready tells its own refusal
  pub record IsActSaid (a : BookAct) (at : Option Moment) : Type 0 where
    pub ready : Ready
    pub made : IsMadeReady reads a ready
    pub moment : Moment
    pub given : IfSome at (λ t. moment ≡ t)
    pub said : IsSaidOf old new ready moment before later ending

  -- what was made ready is tried, and tells so
  pub record IsTrialTold (a : BookAct) (at : Option Moment) : Type 0 where
    pub ready : Ready
    pub made : IsMadeReady reads a ready
    pub moment : Moment
    pub given : IfSome at (λ t. moment ≡ t)
    pub said : IsTrialSaidOf old new ready moment before later ending

  -- words that aren't made ready are refused for a reason that holds of them
  pub record IsUnreadySaid (a : BookAct) : Type 0 where
    pub refusal : Refusal
    pub why : IsUnready reads a refusal
    pub said : Appends before later (refused_line refusal)

  -- what is shown tells its own refusal, and a word that can't be read is refused
  abbrev pub IsViewSaid : Show → Type 0
  IsViewSaid s = ((asked : Look) × IsAskedFor s asked × IsLookSaid old new asked before later ending)
      ⊎ ((is_readable s ≡ false) × Appends before later (refused_line BadText))

  abbrev pub IsTaskSaid : Task → Type 0
  IsTaskSaid (task.Act a at) = IsActSaid a at ⊎ IsUnreadySaid a
  IsTaskSaid (task.Try a at) = IsTrialTold a at ⊎ IsUnreadySaid a
  IsTaskSaid (task.Show s) = IsViewSaid s
  IsTaskSaid other = Unit {0}

  -- what a line tells that came to an end
  abbrev pub IsLineSaid : Words → Type 0
  IsLineSaid (words.Over book opening t) = OnOk ending (IsTaskSaid t)
  IsLineSaid other = Unit {0}

-- a row was done, or refused, and told so
pub record IsRowSaid
    {K : Type 0} (reads : Reads) (standing : K → Standing) (p : K × Option (List ℕ))
    (row : List ℕ) (q : K × Option (List ℕ)) : Type 0 where
  pub asked : Words
  pub read : IsRowRead row asked
  pub status : ExitStatus
  pub said : IsLineSaid reads (standing p.0) (standing q.0) p.1 q.1 (Ok status) asked

-- and so was each of these, one after the other
abbrev pub AreRowsSaid : {K : Type 0} → Reads → (K → Standing) → K × Option (List ℕ)
    → List (List ℕ) → K × Option (List ℕ) → Type 0
AreRowsSaid reads standing p rows q = FoldsTo (IsRowSaid reads standing) p rows q
