-- What a line of the program came to, from what the files of its book held, whichever start it asks
-- for.
use Rattle.std.specs.Prelude.{◌≡◌, ◌⊎◌, ◌<◌, ℕ, true, false, List, Option, Err, map}
use Rattle.std.specs.Borrow.{Bor}
use Rattle.sqlite_disk.specs.declared.Disk.{Ghosts as Disks}
use Rattle.sqlite.specs.Recovery.{Image}
use Rattle.store.specs.Fault.TheVariants.{OutOfMemory}
use Rattle.command_line.specs.Asked.{CanBeRead, IsLineRead}
use Rattle.command_line.specs.declared.words.Place.TheVariants.{Program}
use Rattle.command_line.specs.declared.words.Words.{Words}
use Rattle.commands.specs.Acting.{Ending}
use Rattle.commands.specs.Statuses.{code_of}
use Rattle.commands.specs.declared.told.CommandError.TheVariants as stops
use Rattle.app.specs.Ended.{asks_for_help, line_of, says_wary, status_of_ending}
use Rattle.app.specs.Sessions.{IsWordsEnded}
use Rattle.app.specs.declared.from_file.FilesLeft.TheVariants as left
use Rattle.app.specs.declared.run.FilesBehind.{FilesBehind}
use Rattle.app.specs.declared.run.FilesBehind.TheVariants as behind

module _ {D E : Type 0} {disk : Disks D} {other : Disks E} where
  -- no file was opened
  abbrev pub AreUntouched : FilesBehind D E disk other → Type 0
  AreUntouched files = files ≡ behind.Supposed left.Untouched

module _ {D E : Type 0} {disk : Disks D} {other : Disks E} {W : Type 0}
    (contents : W → Option (List ℕ)) (supposed wary : Image) where
  -- What the words of a line came to, by the start that they ask for: the files held one image if a
  -- torn write is supposed to leave each byte old or new, and the other if nothing is supposed.
  abbrev pub IsWordsRun : Words → W → W → Ending → FilesBehind D E disk other → Type 0
  IsWordsRun asked before later ending (behind.Supposed files) = (says_wary asked ≡ false)
      × IsWordsEnded contents supposed asked before later ending files
  IsWordsRun asked before later ending (behind.Wary files) = (says_wary asked ≡ true)
      × IsWordsEnded contents wary asked before later ending files

  -- the words of a line were read, and this came of them
  pub record HasLineEnded
      (said : List (Bor (List ℕ))) (before later : W) (ending : Ending) (files : FilesBehind D E disk other)
      : Type 0 where
    pub asked : Words
    pub read : IsLineRead Program (map (λ w. w.now) said) asked
    pub ended : IsWordsRun asked before later ending files

  -- no book was opened: the line can't be read, or it asks for help, or memory was wanting
  pub record IsPassedOver
      (said : List (Bor (List ℕ))) (ending : Ending) (files : FilesBehind D E disk other) : Type 0 where
    pub untouched : AreUntouched files
    pub why : asks_for_help said ≡ false → CanBeRead Program (map (λ w. w.now) said)
        → ending ≡ Err (stops.Fault OutOfMemory)

  -- what a line came to
  abbrev pub IsLineEnded : List (Bor (List ℕ)) → W → W → Ending → FilesBehind D E disk other → Type 0
  IsLineEnded said before later ending files = HasLineEnded said before later ending files
      ⊎ IsPassedOver said ending files

  -- what the words of a line came to, with the exit status
  pub record IsLineRun
      (line : List (Bor (List ℕ))) (before later : W) (code : ℕ) (files : FilesBehind D E disk other)
      : Type 0 where
    pub ending : Ending
    pub ended : IsLineEnded line before later ending files
    pub says : code ≡ code_of (status_of_ending ending)

  -- the same of a line of the program, one of whose words may ask for explanations
  abbrev pub IsCommandRun : List (Bor (List ℕ)) → W → W → ℕ → FilesBehind D E disk other → Type 0
  IsCommandRun said before later code files = IsLineRun (line_of said) before later code files

module _ {D E : Type 0} (disk : Disks D) (other : Disks E) {W : Type 0}
    (contents : W → Option (List ℕ)) (supposed wary : Image) where
  -- a line of words was run, and something is left of its files
  pub record IsCommand (said : List (Bor (List ℕ))) (before later : W) (code : ℕ) : Type 0 where
    pub files : FilesBehind D E disk other
    pub run : IsCommandRun contents supposed wary said before later code files

  -- a line of words was run, with this exit status; or there were none to run, which is no 0 and no
  -- 1, and nothing was opened and nothing printed
  abbrev pub IsProgram : W → W → ℕ → Type 0
  IsProgram before later code =
      ((said : List (Bor (List ℕ))) × IsCommand said before later code)
      ⊎ ((later ≡ before) × (1 < code))
