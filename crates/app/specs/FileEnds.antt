-- How a job over the book in files ended, and what is left of these.
use Rattle.std.specs.Prelude.{◌≡◌, ℕ, true, List, Option, Ok, Err, length}
use Rattle.std.specs.Io.KnownBytes.{Appends}
use Rattle.sqlite_disk.specs.declared.Disk.{Ghosts as Disks}
use Rattle.sqlite.specs.declared.FileStore.{FileStore}
use Rattle.sqlite.specs.Closing.{IsCopied}
use Rattle.sqlite.specs.Effect.{Database, IsDatabase}
use Rattle.sqlite.specs.Files.{HoldsDatabase, IsClosed, over_files}
use Rattle.sqlite.specs.Held.{Held}
use Rattle.sqlite.specs.Recovery.{Image}
use Rattle.sqlite.specs.Tree.{Trees}
use Rattle.sqlite.specs.WalReads.{AreClean}
use Rattle.book_statements.specs.Asking.{IsOfFirst}
use Rattle.book_statements.specs.Layout.{IsLayout}
use Rattle.commands.specs.Acting.{Ending}
use Rattle.commands.specs.declared.told.CommandError.{CommandError}
use Rattle.commands.specs.declared.told.CommandError.TheVariants as stopped
use Rattle.commands.specs.declared.told.ExitStatus.{ExitStatus}
use Rattle.seals.specs.declared.beginning.Beginning.{Beginning}
use Rattle.app.specs.Checking.{TellsWhole, begins_as, told_whole}
use Rattle.app.specs.Faults.{IsClosingFault, fault_of}
use Rattle.app.specs.FromFile.{IsDoneFrom, IsStoppedFrom, IsUnopened}
use Rattle.app.specs.Unchecked.{IsNoneWhole, OfBooksIn}
use Rattle.app.specs.declared.from_file.FilesLeft.{FilesLeft}
use Rattle.app.specs.declared.from_file.FilesLeft.TheVariants as left
use Rattle.app.specs.declared.over_file.Job.{Job}
use Rattle.app.specs.declared.over_file.Job.TheVariants as job

-- What files that recover to a database were found to hold by a check: where that is laid out as a
-- book of version 2, it stands for a register of so many entries as are printed.
pub record IsWholeFrom (image : Image) (before later : Option (List ℕ)) : Type 0 where
  pub read : Database
  pub sound : IsDatabase read
  pub trees : (db : Trees) → HoldsDatabase image db → read.trees ≡ db
  pub told : IsLayout read.schema → (IsOfFirst read → ⊥) → TellsWhole read before later

-- a book that the files held is told by the number of its entries, and begins as it was noted
abbrev pub TellsBooks : {W : Type 0} → (W → Option (List ℕ)) → Image → Option Beginning → W → W
    → Type 0
TellsBooks contents image noted before later = OfBooksIn image
    (λ _ L. Appends (contents before) (contents later) (told_whole (length L))
    × (begins_as noted L ≡ true))

module _ {D : Type 0} {disk : Disks D} where
  -- The files of a database were closed: what was committed is in the file, as it reads now and
  -- after a crash, also without its log. Or they couldn't be, and a crash leaves nothing that it
  -- might not have left before.
  abbrev pub IsClosing : Held (FileStore D disk) → ExitStatus → Ending → FilesLeft D disk → Type 0
  IsClosing database status ending (left.Closed files) = (ending ≡ Ok status)
      × (AreClean disk files.log files.db → IsCopied database files)
  IsClosing database status ending (left.Unclosed store) = IsClosed database store
      × ((stop : CommandError) × (ending ≡ Err stop) × IsClosingFault stop)
  IsClosing database status ending other = ⊥

  module _ {W : Type 0} (contents : W → Option (List ℕ)) (image : Image) where
    -- the book in the files was checked whole, or it couldn't be, or it isn't whole
    abbrev pub IsChecked : Option Beginning → W → W → Ending → FilesLeft D disk → Type 0
    IsChecked noted before later ending (left.Closed files) = AreClean disk files.log files.db
        → IsWholeFrom image (contents before) (contents later) × TellsBooks contents image noted before later
    IsChecked noted before later ending (left.Unopened error leftover) =
        (ending ≡ Err (stopped.Fault (fault_of error)))
        × IsUnopened image error leftover before later
    IsChecked noted before later ending left.Unchecked = (stop : CommandError)
        × (ending ≡ Err stop) × IsNoneWhole (over_files {D = D} {g = disk}) image noted stop
    IsChecked noted before later ending (left.Unclosed store) = (stop : CommandError)
        × (ending ≡ Err stop) × IsClosingFault stop
    IsChecked noted before later ending other = ⊥

    -- the files couldn't be opened, or the job was stopped over the book in them
    abbrev pub IsWorkStop : Job → W → W → CommandError → FilesLeft D disk → Type 0
    IsWorkStop j before later stop (left.Unopened error leftover) =
        (stop ≡ stopped.Fault (fault_of error)) × IsUnopened image error leftover before later
    IsWorkStop j before later stop (left.Open database) =
        IsStoppedFrom over_files contents image database j before later stop
    IsWorkStop j before later stop other = ⊥

    -- the job was done over the book in the files, and then these were closed, or couldn't be
    pub record IsJobClosed
        (j : Job) (before later : W) (ending : Ending) (files : FilesLeft D disk) : Type 0 where
      pub status : ExitStatus
      pub database : Held (FileStore D disk)
      pub done : IsDoneFrom over_files contents image database j before later status
      pub closing : IsClosing database status ending files

    -- the job was done and the files were closed, or it wasn't
    abbrev pub IsJobEnd : Job → W → W → Ending → FilesLeft D disk → Type 0
    IsJobEnd j before later (Ok status) files = IsJobClosed j before later (Ok status) files
    IsJobEnd j before later (Err stop) (left.Unclosed store) =
        IsJobClosed j before later (Err stop) (left.Unclosed store)
    IsJobEnd j before later (Err stop) files = IsWorkStop j before later stop files

    -- the same of a check, or of another job
    abbrev pub IsRunEnd : Job → W → W → Ending → FilesLeft D disk → Type 0
    IsRunEnd (job.Check noted) before later ending files =
        IsChecked noted before later ending files
    IsRunEnd j before later ending files = IsJobEnd j before later ending files
