-- A run over the files of a book, stopped before they were closed, and the next run over what the
-- files then hold.
use Rattle.std.specs.Prelude.{◌≡◌, ◌⊎◌, ◌≤◌, IsTrue, false, ℕ, List, Option, Some, None, OnErr, OnOk}
use Rattle.sqlite_disk.specs.declared.Disk.{Ghosts as Disks}
use Rattle.sqlite.specs.declared.FileStore.{FileStore}
use Rattle.sqlite.specs.FileStore as files
use Rattle.sqlite.specs.Files.{over_files}
use Rattle.sqlite.specs.Held.{AreDatabases, Held, state}
use Rattle.sqlite.specs.Recovery.{Image}
use Rattle.sqlite.specs.State.{HasCleanDisk}
use Rattle.sqlite.specs.Store.{Ghosts}
use Rattle.sqlite.specs.Tree.{Trees}
use Rattle.sqlite_trees.specs.View.{IsClean, doubt}
use Rattle.definitions.specs.declared.rules.Rules.{Rules}
use Rattle.definitions.specs.Rules.{Today}
use Rattle.definitions.specs.Header.{Who}
use Rattle.definitions.specs.Moments.{Moment}
use Rattle.definitions.specs.Register.{Command, Entry, Enrol, Interchange}
use Rattle.definitions.specs.Reply.{Accepted, Stored}
use Rattle.definitions.specs.Accepted.{after, reply_to}
use Rattle.store.specs.Again.{is_enrolment}
use Rattle.commands.specs.Acting.{Ending}
use Rattle.commands.specs.Clerks.{command_of}
use Rattle.commands.specs.Telling.{IsPrinted}
use Rattle.commands.specs.declared.acts.Ready.TheVariants as ready
use Rattle.commands.specs.declared.told.ExitStatus.{ExitStatus}
use Rattle.app.specs.Done.{IsJobDone}
use Rattle.app.specs.FromFile.{HoldsBook, IsOfBook}
use Rattle.app.specs.Opening.{IsBookOf}
use Rattle.app.specs.declared.over_file.Job.{Job}
use Rattle.app.specs.declared.over_file.Job.TheVariants as job

-- the command that a job gives to a book, and its moment; a list, a folder, a batch and a server
-- give many
abbrev pub command_in : Job → Option (Command × Moment)
command_in (job.Change (ready.Enrol who) t) = Some (Enrol who, t)
command_in (job.Change (ready.Send bytes) t) = Some (Interchange bytes.items, t)
command_in (job.Change (ready.Clerk slip) t) =
    Some (command_of slip.who slip.words slip.sheet, t)
command_in other = None

-- a database was let go of as it was: its store has no wrong answer that it hadn't, a crash leaves
-- nothing of it that it might not have left before, and what a crash leaves is a database
pub record IsLetGo {D : Type 0} {disk : Disks D} (left : Held (FileStore D disk)) (it : FileStore D disk) : Type 0 where
  pub quiet : doubt (state over_files left).is_clean ≤ doubt (files.view it).is_clean
  pub fewer : (db : Trees) → files.recovers it db → (state over_files left).may_leave db
  pub numbered : IsClean (files.view it) → IsTrue (files.view it).is_numbered
  pub sound : IsClean (files.view it) → AreDatabases (files.recovers it)

-- what the two files may hold where the process stops at this moment
abbrev pub MayHold : {D : Type 0} {disk : Disks D} → FileStore D disk → Image → Type 0
MayHold it image = (files.state it).may_leave image

-- The files hold the book of the warehouse with this register. (That they do is all that is known:
-- the model of a crash doesn't say how.)
abbrev pub HoldBook : Image → Who → List Entry → Type 0
HoldBook image W L = ∥ HoldsBook image Today W L ∥₁

-- the files hold the book with the one register, in one version or the other, or with the other
abbrev pub HoldEither : Image → Who → List Entry → List Entry → Type 0
HoldEither image W L M = ∥ ((q : Rules) × HoldsBook image q W L) ⊎ HoldsBook image Today W M ∥₁

-- A job that gives one command was done over the book that the files held, or was stopped over it,
-- and then the process stopped. Whatever the files hold then, it is the book with what was answered;
-- where the job was stopped, the book as it was or with that command.
abbrev pub LeavesBook : {D : Type 0} {disk : Disks D} → Image → Job → Ending → FileStore D disk
    → Type 0
LeavesBook image j ending left = IsClean (files.view left)
    → (q : Rules) (W : Who) (L : List Entry) → HoldsBook image q W L
    → (c : Command) (t : Moment) → command_in j ≡ Some (c, t)
    → (then : Image) → MayHold left then
    → OnOk ending (HoldBook then W (after Today W L (c, t)))
    × OnErr ending (HoldEither then W L (after Today W L (c, t)))

-- the job was done, once, over the book of the warehouse with this register
pub record IsDoneOver
    {S W : Type 0} (store : Ghosts S) (contents : W → Option (List ℕ)) (left : Held S) (j : Job)
    (before later : W) (status : ExitStatus) (V : Who) (L : List Entry) : Type 0 where
  pub database : Held S
  pub done : IsJobDone store contents database left j before later status
  pub book : IsBookOf store done.opened V L

-- What a command left is there for the next run: the job of that is done over the book with what
-- was answered.
abbrev pub FindsAnswered : {D S W : Type 0} {disk : Disks D} → Ghosts S → (W → Option (List ℕ))
    → Image → Image → FileStore D disk → Held S → Job → Job → W → W → ExitStatus → Type 0
FindsAnswered store contents first then stopped left one two before later status =
    IsClean (files.view stopped) → MayHold stopped then → HasCleanDisk (state store left)
    → (q : Rules) (W : Who) (L : List Entry) → HoldsBook first q W L
    → (c : Command) (t : Moment) → command_in one ≡ Some (c, t) → IsOfBook two
    → ∥ IsDoneOver store contents left two before later status W (after Today W L (c, t)) ∥₁

-- An interchange or an act that was accepted is answered by the next run, at whatever moment it is
-- given again, by the text that went out for it.
abbrev pub ResendIsStored : {D S W : Type 0} {disk : Disks D} → Ghosts S → (W → Option (List ℕ))
    → Image → Image → FileStore D disk → Held S → Job → Job → W → W → ExitStatus → Type 0
ResendIsStored store contents first then stopped left one two before later status =
    IsClean (files.view stopped) → MayHold stopped then → HasCleanDisk (state store left)
    → (q : Rules) (W : Who) (L : List Entry) → HoldsBook first q W L
    → (c : Command) (t s : Moment) (text : List ℕ) → is_enrolment c ≡ false
    → command_in one ≡ Some (c, t) → command_in two ≡ Some (c, s)
    → reply_to Today W L c t ≡ Accepted text
    → ∥ IsPrinted (Stored text) (contents before) (contents later) status ∥₁
