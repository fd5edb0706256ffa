-- What a job leaves of the book in the files, whatever the job is and wherever it is stopped: all
-- that stood there, and after it only entries of commands that were accepted on it.
use Rattle.std.specs.Prelude.{◌≡◌, ℕ, List, Option, Ok, Err, ◌∷◌, ◌++◌, false, Some}
use Rattle.sqlite_disk.specs.declared.Disk.{Ghosts as Disks}
use Rattle.sqlite.specs.declared.FileStore.{FileStore}
use Rattle.sqlite.specs.FileStore as files
use Rattle.sqlite.specs.Files.{over_files}
use Rattle.sqlite.specs.Held.{Held, state}
use Rattle.sqlite.specs.Recovery.{Image}
use Rattle.sqlite.specs.State.{HasCleanDisk}
use Rattle.sqlite.specs.Store.{Ghosts}
use Rattle.sqlite_trees.specs.View.{IsClean}
use Rattle.definitions.specs.declared.rules.Rules.{Rules}
use Rattle.definitions.specs.Rules.{Today}
use Rattle.definitions.specs.Accepted.{accepted_on, reply_to}
use Rattle.definitions.specs.Header.{Who}
use Rattle.definitions.specs.Moments.{Moment}
use Rattle.definitions.specs.Register.{Command, Entry}
use Rattle.definitions.specs.Reply.{Accepted, Stored}
use Rattle.store.specs.Again.{is_enrolment}
use Rattle.store.specs.Standing.{Standing, IsUsable}
use Rattle.books.specs.Opened.{standing_of}
use Rattle.commands.specs.Acting.{Ending}
use Rattle.commands.specs.Telling.{IsPrinted}
use Rattle.commands.specs.declared.told.ExitStatus.{ExitStatus}
use Rattle.app.specs.FromFile.{HoldsBook, IsDoneFrom, IsOfBook}
use Rattle.app.specs.Rerun.{IsDoneOver, MayHold, command_in}
use Rattle.app.specs.declared.over_file.Job.{Job}

-- the register M is the one after some commands on the register L
abbrev pub IsGrown : Who → List Entry → List Entry → Type 0
IsGrown W L M = (cs : List (Command × Moment)) × (M ≡ accepted_on Today W L cs)

-- a crash leaves such a register, and nothing else
pub record LeavesGrown (s : Standing) (W : Who) (L : List Entry) : Type 0 where
  pub stand : s.all_stand
  pub each : (M : List Entry) → s.left M → IsGrown W L M

-- the book serves with such a register
pub record ServesGrown (s : Standing) (W : Who) (L : List Entry) : Type 0 where
  pub register : List Entry
  pub grown : IsGrown W L register
  pub usable : IsUsable s register

-- The files hold the book of the warehouse, in one version or the other, with a register that is
-- the one after some commands on L, and of which this is so.
pub record HoldsGrown (image : Image) (W : Who) (L : List Entry) (P : List Entry → Type 0) : Type 0 where
  pub version : Rules
  pub register : List Entry
  pub grown : IsGrown W L register
  pub so : P register
  pub holds : HoldsBook image version W register

module _ {D : Type 0} {disk : Disks D} where
  -- of whatever book the files held, the files hold such a one where the process stops, if the job
  -- was over a book
  abbrev pub KeepsGrown : Image → Job → FileStore D disk → (List Entry → Type 0) → Type 0
  KeepsGrown first j stopped P = IsClean (files.view stopped) → IsOfBook j
      → (q : Rules) (W : Who) (L : List Entry) → HoldsBook first q W L
      → (then : Image) → MayHold stopped then → ∥ HoldsGrown then W L P ∥₁

  module _ {W : Type 0} (contents : W → Option (List ℕ)) (first : Image) where
    -- a job was done over the files, and they hold then the book with a register that its work left
    pub record IsWorkKept
        (j : Job) (before later : W) (status : ExitStatus) (stopped : FileStore D disk)
        : Type 0 where
      pub left : Held (FileStore D disk)
      pub done : IsDoneFrom over_files contents first left j before later status
      pub kept : KeepsGrown first j stopped
          (λ M. let s = standing_of over_files (done.done.worked) in s.left M)

    -- the same, and where a job was stopped, they hold one that grew
    abbrev pub KeepsBook : Job → W → W → Ending → FileStore D disk → Type 0
    KeepsBook j before later (Ok status) stopped = IsWorkKept j before later status stopped
    KeepsBook j before later (Err stop) stopped = KeepsGrown first j stopped (λ M. Unit {0})

-- The job of a run is done over the book with all that stood before the run before it, and entries of
-- commands that were accepted on it. If it gives one of these again, an interchange or an act, it is
-- answered by the text that went out for it.
pub record IsDoneAfter
    {S W : Type 0} (store : Ghosts S) (contents : W → Option (List ℕ)) (left : Held S) (j : Job)
    (before later : W) (status : ExitStatus) (V : Who) (L : List Entry) : Type 0 where
  pub commands : List (Command × Moment)
  pub done : IsDoneOver store contents left j before later status V (accepted_on Today V L commands)
  pub stored : (first others : List (Command × Moment)) (c : Command) (t s : Moment)
      (text : List ℕ) → commands ≡ first ++ (c, t) ∷ others → is_enrolment c ≡ false
      → reply_to Today V (accepted_on Today V L first) c t ≡ Accepted text
      → command_in j ≡ Some (c, s)
      → IsPrinted (Stored text) (contents before) (contents later) status

-- What any job left is there for the next run.
abbrev pub FindsKept : {D S W : Type 0} {disk : Disks D} → Ghosts S → (W → Option (List ℕ)) → Image
    → Image → FileStore D disk → Held S → Job → Job → W → W → ExitStatus → Type 0
FindsKept store contents first then stopped left one two before later status =
    IsClean (files.view stopped) → MayHold stopped then → HasCleanDisk (state store left)
    → IsOfBook one → IsOfBook two
    → (q : Rules) (V : Who) (L : List Entry) → HoldsBook first q V L
    → ∥ IsDoneAfter store contents left two before later status V L ∥₁
