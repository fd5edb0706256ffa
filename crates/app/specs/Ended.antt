-- How a line of words ended, from what the files of its book held.
use Rattle.std.specs.Prelude.{◌≡◌, Bool, ◌||◌, ℕ, true, false, List, [], ◌∷◌, Option, Some, Ok, Err, bytes_eq, codes}
use Rattle.std.specs.Borrow.{Bor}
use Rattle.std.specs.Option.{option_map_or}
use Rattle.sqlite_disk.specs.declared.Disk.{Ghosts as Disks}
use Rattle.sqlite.specs.Recovery.{Image}
use Rattle.command_line.specs.declared.words.Words.{Words}
use Rattle.command_line.specs.declared.words.Words.TheVariants as words
use Rattle.commands.specs.Acting.{Ending}
use Rattle.commands.specs.Statuses.{status_of_stop}
use Rattle.commands.specs.Stops.{HasDeviceFault, fault_in}
use Rattle.commands.specs.declared.told.ExitStatus.{ExitStatus}
use Rattle.app.specs.Explaining.{without_asking}
use Rattle.app.specs.Faults.{is_in_use}
use Rattle.app.specs.FileEnds.{IsRunEnd}
use Rattle.app.specs.declared.from_file.FilesLeft.{FilesLeft}
use Rattle.app.specs.declared.from_file.FilesLeft.TheVariants as left
use Rattle.app.specs.declared.over_file.Job.{Job}

-- the same status, or the same fault, whatever is said of it
abbrev pub IsToldAs : Ending → Ending → Type 0
IsToldAs (Ok status) (Ok told) = told ≡ status
IsToldAs (Err stop) (Err told) = fault_in told ≡ fault_in stop
IsToldAs first other = ⊥

-- whether a line asks for help, or for the version, which are shown
abbrev pub asks_for_help : List (Bor (List ℕ)) → Bool
asks_for_help [] = false
asks_for_help (word ∷ words) = bytes_eq word.now (codes "help")
    || bytes_eq word.now (codes "--version")

-- the words of a line but for the one that asks for explanations
abbrev pub line_of : List (Bor (List ℕ)) → List (Bor (List ℕ))
line_of said = option_map_or (λ line. line) (without_asking said) said

-- whether the words of a line, over a book in its file, say that nothing is supposed of what its disk
-- leaves of a torn write
abbrev pub says_wary : Words → Bool
says_wary (words.Over (Some file) opening task) = opening.is_wary
says_wary other = false

-- the exit status of an ending
abbrev pub status_of_ending : Ending → ExitStatus
status_of_ending (Ok status) = status
status_of_ending (Err stop) = status_of_stop stop

module _ {D : Type 0} {disk : Disks D} where
  -- the files weren't opened, since somebody else has them open
  abbrev pub IsBusy : FilesLeft D disk → Type 0
  IsBusy (left.Unopened error leftover) = is_in_use error ≡ true
  IsBusy files = ⊥

  module _ {W : Type 0} (contents : W → Option (List ℕ)) (image : Image) where
    -- the job was run over the files once, and its ending is told
    pub record IsRunOnce
        (j : Job) (before later : W) (ending : Ending) (files : FilesLeft D disk) : Type 0 where
      pub first : Ending
      pub told : IsToldAs first ending
      pub run : IsRunEnd contents image j before later first files

    -- the files weren't opened, for a fault of a device or for want of memory, and nothing is
    -- printed; or the job was run over them
    abbrev pub IsJobEnded : Job → W → W → Ending → FilesLeft D disk → Type 0
    IsJobEnded j before later (Err stop) left.Untouched = (later ≡ before) × HasDeviceFault stop
    IsJobEnded j before later ending files = IsRunOnce j before later ending files
