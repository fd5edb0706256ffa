-- What a line over the book in a file came to: its job was done once; but a server that serves until
-- it is stopped opens its book again, where that may mend what stopped it.
use Rattle.std.specs.Prelude.{◌≡◌, ◌⊎◌, Bool, ℕ, true, false, List, Option, Some, None, is_none, Err, OnOk}
use Rattle.std.specs.List.{FoldsTo}
use Rattle.sqlite_disk.specs.declared.Disk.{Ghosts as Disks}
use Rattle.sqlite.specs.Recovery.{Image}
use Rattle.store.specs.Fault.{Fault}
use Rattle.store.specs.Fault.TheVariants.{NotThisBook}
use Rattle.store.specs.Refusal.{Refusal}
use Rattle.command_line.specs.declared.words.Task.{Task}
use Rattle.command_line.specs.declared.words.Task.TheVariants as task
use Rattle.command_line.specs.declared.words.Words.{Words}
use Rattle.command_line.specs.declared.words.Words.TheVariants as words
use Rattle.commands.specs.Acting.{Ending}
use Rattle.commands.specs.Files.{reads_any}
use Rattle.commands.specs.Scripts.{IsScriptRun}
use Rattle.commands.specs.Stops.{fault_in}
use Rattle.commands.specs.declared.told.CommandError.{CommandError}
use Rattle.app.specs.Asking.{IsServerAsked}
use Rattle.app.specs.Ended.{IsJobEnded}
use Rattle.app.specs.Working.{IsJobFor, IsNoJobFor}
use Rattle.app.specs.declared.from_file.FilesLeft.{FilesLeft}
use Rattle.app.specs.declared.from_file.FilesLeft.TheVariants as left
use Rattle.app.specs.declared.over_file.Job.{Job}

-- whether a line serves until it is stopped
abbrev pub serves_on : Task → Bool
serves_on (task.Serve service at) = is_none service.count
serves_on other = false

-- whether what stopped a server may mend: it is a fault, and not that the book is damaged
abbrev pub may_mend_of : Option Fault → Bool
may_mend_of None = false
may_mend_of (Some NotThisBook) = false
may_mend_of (Some fault) = true

abbrev pub may_mend : CommandError → Bool
may_mend stop = may_mend_of (fault_in stop)

module _ {D : Type 0} {disk : Disks D} {W : Type 0} (contents : W → Option (List ℕ)) where
  -- the job that a line asks for was done, over files that held so much
  pub record IsDoneOver
      (image : Image) (t : Task) (before later : W) (ending : Ending) (files : FilesLeft D disk)
      : Type 0 where
    pub asked : Job
    pub for : IsJobFor reads_any t asked
    pub ended : IsJobEnded contents image asked before later ending files

module _ {D : Type 0} (disk : Disks D) {W : Type 0} (contents : W → Option (List ℕ)) where
  -- a server was stopped so, for what may mend, over files that held so much
  pub record IsSession (image : Image) (t : Task) (before : W) (stop : CommandError) (later : W)
      : Type 0 where
    pub files : FilesLeft D disk
    pub done : IsDoneOver contents image t before later (Err stop) files
    pub mends : may_mend stop ≡ true

  -- the same, whatever the files held then
  abbrev pub IsNextSession : Task → W → CommandError → W → Type 0
  IsNextSession t before stop later = (image : Image) × IsSession image t before stop later

module _ {D : Type 0} {disk : Disks D} {W : Type 0} (contents : W → Option (List ℕ)) where
  -- a server was begun anew, perhaps several times, each time over what its files held then
  pub record HasServedAgain
      (image : Image) (t : Task) (before later : W) (ending : Ending) (files : FilesLeft D disk)
      : Type 0 where
    pub first : CommandError
    pub mid : W
    pub session : IsSession disk contents image t before first mid
    pub stops : List CommandError
    pub begun : W
    pub others : FoldsTo (IsNextSession disk contents t) mid stops begun
    pub held : Image
    pub last : IsDoneOver contents held t begun later ending files

  -- the job that a line asks for was done, once; or a server was begun anew
  abbrev pub HasJobEnded : Image → Task → W → W → Ending → FilesLeft D disk → Type 0
  HasJobEnded image t before later ending files =
      IsDoneOver contents image t before later ending files
      ⊎ ((serves_on t ≡ true) × HasServedAgain image t before later ending files)

  -- it wasn't made ready: it is refused, or a fault came first, and nothing is printed
  pub record IsNoJob
      (t : Task) (before later : W) (ending : Ending) (files : FilesLeft D disk) : Type 0 where
    pub untouched : files ≡ left.Untouched
    pub printed : later ≡ before
    pub why : OnOk ending ((refusal : Refusal) × IsNoJobFor reads_any t refusal)

  abbrev pub IsTaskEnded : Image → Task → W → W → Ending → FilesLeft D disk → Type 0
  IsTaskEnded image t before later ending files = HasJobEnded image t before later ending files
      ⊎ IsNoJob t before later ending files

  -- What the words of a line came to: over a book in its file its job; a script was played over a
  -- book in memory, and a server was asked, and no file of a book was opened.
  abbrev pub IsWordsEnded : Image → Words → W → W → Ending → FilesLeft D disk → Type 0
  IsWordsEnded image (words.Over (Some file) opening task) before later ending files =
      IsTaskEnded image task before later ending files
  IsWordsEnded image (words.Script file) before later ending files = (files ≡ left.Untouched)
      × IsScriptRun reads_any contents file.now before later ending
  IsWordsEnded image (words.Remote server task) before later ending files =
      (files ≡ left.Untouched) × IsServerAsked contents task before later ending
  IsWordsEnded image other before later ending files = files ≡ left.Untouched
