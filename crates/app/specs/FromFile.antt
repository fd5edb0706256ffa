-- A job over the book in files, from what the files held as they were opened.
use Rattle.std.specs.Prelude.{◌≡◌, ◌≢◌, ◌⊎◌, ◌<◌, ℕ, List, Option, None, IfSome}
use Rattle.sqlite.specs.declared.error.Error.{Error}
use Rattle.sqlite.specs.declared.file.Leftover.{Leftover}
use Rattle.sqlite_disk.specs.declared.Disk.{Ghosts as Disks}
use Rattle.sqlite.specs.Files.{HoldsDatabase, IsCleanLeft, IsEmpty, IsNothing, faults_left}
use Rattle.sqlite.specs.Held.{Held, state}
use Rattle.sqlite.specs.Recovery.{Image}
use Rattle.sqlite.specs.State.{HasCleanDisk}
use Rattle.sqlite.specs.Store.{Ghosts}
use Rattle.sqlite.specs.Tree.{Trees}
use Rattle.definitions.specs.declared.rules.Rules.{Rules}
use Rattle.definitions.specs.Header.{Who}
use Rattle.definitions.specs.Register.{Entry}
use Rattle.store.specs.Fault.TheVariants.{NotThisBook}
use Rattle.book_statements.specs.Carrying.{LeavesCarried, StandsInAs}
use Rattle.commands.specs.declared.told.CommandError.{CommandError}
use Rattle.commands.specs.declared.told.ExitStatus.{ExitStatus}
use Rattle.app.specs.Done.{IsJobBroken, IsJobDone, IsJobStopped, IsNoBook}
use Rattle.app.specs.Faults.{fault_of}
use Rattle.app.specs.Opening.{IsBookOf}
use Rattle.app.specs.declared.over_file.Job.{Job}
use Rattle.app.specs.declared.over_file.Job.TheVariants as job

-- The files hold the book of a warehouse: they recover to a database whose tables stand for this
-- register, in one of the two versions.
pub record HoldsBook (image : Image) (q : Rules) (W : Who) (L : List Entry) : Type 0 where
  pub db : Trees
  pub held : HoldsDatabase image db
  pub stands : StandsInAs q W L db

-- The files hold nothing yet: there is no file, or an empty one, or what is left of one whose making
-- was stopped, or a database without a table.
abbrev pub HoldNothing : Image → Type 0
HoldNothing image = IsNothing image ⊎ ((db : Trees) × HoldsDatabase image db × IsEmpty db)

-- what is so of each book that the files held, if no answer of the disk was wrong until now
abbrev pub OfHeld : {S : Type 0} → Ghosts S → Image → Held S → (Who → List Entry → Type 0) → Type 0
OfHeld store image now P = HasCleanDisk (state store now)
    → (q : Rules) (W : Who) (L : List Entry) → HoldsBook image q W L → P W L

-- a job over a book that is there already
abbrev pub IsOfBook : Job → Type 0
IsOfBook j = (W : Who) → j ≢ job.Make W

-- The job was done, once, over the database in the files: over the book that these held, if the job
-- isn't to make one.
pub record IsDoneFrom
    {S W : Type 0} (store : Ghosts S) (contents : W → Option (List ℕ)) (image : Image)
    (left : Held S) (job : Job) (before later : W) (status : ExitStatus) : Type 0 where
  pub database : Held S
  pub done : IsJobDone store contents database left job before later status
  pub book : IsOfBook job → OfHeld store image left (λ W L. IsBookOf store (done.opened) W L)

-- The job was stopped over the database in the files: over the book that these held. Or there was
-- no book in it: that isn't said to be another's (43) if the files held a book, and then a crash
-- leaves that book, as it was or carried over. Nor is it where a book is made of files that hold
-- nothing.
pub record IsStoppedFrom
    {S W : Type 0} (store : Ghosts S) (contents : W → Option (List ℕ)) (image : Image)
    (left : Held S) (j : Job) (before later : W) (stop : CommandError) : Type 0 where
  pub database : Held S
  pub stopped : IsJobStopped store contents database left j before later stop
  pub book : (b : IsJobBroken store contents database left j before later stop) → IsOfBook j
      → OfHeld store image left (λ W L. IsBookOf store (b.opened) W L)
  pub this : (no : IsNoBook store database left j before later stop) → IsOfBook j
      → OfHeld store image left (λ W L. no.fault ≢ NotThisBook)
  pub kept : (no : IsNoBook store database left j before later stop) → IsOfBook j
      → OfHeld store image left (λ W L. (db : Trees) → (state store left).may_leave db
      → LeavesCarried W L db)
  pub free : (no : IsNoBook store database left j before later stop) → (W : Who)
      → j ≡ job.Make W → HasCleanDisk (state store left) → HoldNothing image
      → no.fault ≢ NotThisBook

-- The files can be opened: they recover to a database, as those of a book do, or nothing was made of
-- them yet.
abbrev pub CanBeOpened : Image → Type 0
CanBeOpened image = ((db : Trees) × HoldsDatabase image db) ⊎ IsNothing image

-- The files couldn't be opened as a database, and nothing was printed. That is said to be another's
-- (43) of files that can be opened only where the disk itself told of a fault.
pub record IsUnopened
    {D W : Type 0} {disk : Disks D} (image : Image) (error : Error)
    (leftover : Option (Leftover D disk)) (before later : W) : Type 0 where
  pub printed : later ≡ before
  pub none : leftover ≡ None → fault_of error ≢ NotThisBook
  pub this : IfSome leftover (λ left. IsCleanLeft left → CanBeOpened image
      → fault_of error ≡ NotThisBook → 0 < faults_left left)
