-- What a script comes to: its first row makes a book, and the others are played over it.
use Rattle.std.specs.Prelude.{◌≡◌, ◌⊎◌, ◌∷◌, [], ℕ, false, List, Option, Some, None, IfOk, IfErr, IsUtf8}
use Rattle.definitions.specs.Accepted.{IsLegal}
use Rattle.definitions.specs.Header.{Who, who_of}
use Rattle.definitions.specs.Rules.{Today}
use Rattle.definitions.specs.Readings.{parts_at}
use Rattle.store.specs.Fault.TheVariants.{OutOfMemory}
use Rattle.store.specs.Replayed.{all_written}
use Rattle.store.specs.Standing.{Standing, IsUsable}
use Rattle.store.specs.declared.replaying.ReplayBook.{ReplayBook}
use Rattle.command_line.specs.Asked.{CanBeRead}
use Rattle.command_line.specs.declared.words.Place.TheVariants.{Script}
use Rattle.command_line.specs.declared.words.Words.{Words}
use Rattle.command_line.specs.declared.words.Words.TheVariants as words
use Rattle.command_line.specs.declared.words.Task.TheVariants as task
use Rattle.commands.specs.Acting.{Ending}
use Rattle.commands.specs.Files.{Reads, IsLonger, IsWithin}
use Rattle.commands.specs.Playing.{HasPlayed, HasStopped, IsRowRead, asking}
use Rattle.commands.specs.Stops.{HasDeviceFault, IsUsageStop}
use Rattle.commands.specs.declared.files.TheConstants.{MOST_SCRIPT}
use Rattle.commands.specs.declared.told.CommandError.{CommandError}
use Rattle.commands.specs.declared.told.CommandError.TheVariants as stops
use Rattle.commands.specs.declared.told.ExitStatus.{ExitStatus}
use Rattle.commands.specs.declared.told.ExitStatus.TheVariants.{Done, Refused}

-- why a script or a batch in a file can't be read: the file can't, or it is too long or no text
abbrev pub IsTextUnread : Reads → List ℕ → CommandError → Type 0
IsTextUnread reads file stop = HasDeviceFault stop
    ⊎ (IsUsageStop stop × (IsLonger reads file MOST_SCRIPT
    ⊎ ((bytes : List ℕ) × IsWithin reads file MOST_SCRIPT bytes × ¬ IsUtf8 bytes)))

-- the words ask for a book of this name
abbrev pub IsInit : Words → List ℕ → Type 0
IsInit (words.Over book wait (task.Init who)) name = who.now ≡ name
IsInit asked name = ⊥

-- the row asks for a book of this name
pub record AsksForBook (row name : List ℕ) : Type 0 where
  pub asked : Words
  pub read : IsRowRead row asked
  pub init : IsInit asked name

-- the book of the name that the row asks for, with the empty register
pub record IsMadeBy {K : Type 0} (standing : K → Standing) (row : List ℕ) (book : K) : Type 0 where
  pub name : List ℕ
  pub asks : AsksForBook row name
  pub named : who_of name ≡ Some (standing book).warehouse
  pub usable : IsUsable (standing book) []

-- the row asks for a book of a name that can't be read
pub record IsUnnamed (row : List ℕ) : Type 0 where
  pub name : List ℕ
  pub asks : AsksForBook row name
  pub unread : who_of name ≡ None

-- the row can be read, and asks for a book of a name that can be read too
pub record CanMakeBook (row : List ℕ) : Type 0 where
  pub readable : CanBeRead Script (parts_at 32 row)
  pub name : List ℕ
  pub asks : AsksForBook row name
  pub house : Who
  pub named : who_of name ≡ Some house

-- Of the rows of a script that ask for something the first made a book, and the others were played
-- over it, one after the other, each once.
pub record IsPlayedOver
    {K W : Type 0} (reads : Reads) (standing : K → Standing)
    (contents : W → Option (List ℕ)) (rows : List (List ℕ)) (before later : W)
    (status : ExitStatus) : Type 0 where
  pub first : List ℕ
  pub others : List (List ℕ)
  pub are : rows ≡ first ∷ others
  pub made : K
  pub by : IsMadeBy standing first made
  pub left : K
  pub played : HasPlayed reads standing contents (made, (before, Done)) others (left, (later, status))

-- The first of the rows was refused, since its name can't be read, and nothing was done.
pub record IsNotBegun
    {W : Type 0} (rows : List (List ℕ)) (before later : W) (status : ExitStatus) : Type 0 where
  pub first : List ℕ
  pub others : List (List ℕ)
  pub are : rows ≡ first ∷ others
  pub unnamed : IsUnnamed first
  pub refused : status ≡ Refused
  pub same : later ≡ before

abbrev pub IsScriptDone : {K W : Type 0} → Reads → (K → Standing) → (W → Option (List ℕ))
    → List (List ℕ) → W → W → ExitStatus → Type 0
IsScriptDone reads standing contents rows before later status =
    IsPlayedOver reads standing contents rows before later status
    ⊎ IsNotBegun rows before later status

-- No book was made, and nothing was printed: there was no row, or the first one asked for none. One
-- that could be done lacked memory.
pub record IsNotMade
    {W : Type 0} (rows : List (List ℕ)) (before later : W) (stop : CommandError) : Type 0 where
  pub silent : later ≡ before
  pub lacks : (first : List ℕ) (others : List (List ℕ)) → rows ≡ first ∷ others
      → CanMakeBook first → stop ≡ stops.Fault OutOfMemory

-- the first row made a book, and one of the others stopped what was played over it
pub record IsStoppedOver
    {K W : Type 0} (reads : Reads) (standing : K → Standing)
    (contents : W → Option (List ℕ)) (rows : List (List ℕ)) (before later : W)
    (stop : CommandError) : Type 0 where
  pub first : List ℕ
  pub others : List (List ℕ)
  pub are : rows ≡ first ∷ others
  pub made : K
  pub by : IsMadeBy standing first made
  pub left : K
  pub stopped : HasStopped reads standing contents (made, (before, Done)) others left later stop

abbrev pub IsScriptStopped : {K W : Type 0} → Reads → (K → Standing)
    → (W → Option (List ℕ)) → List (List ℕ) → W → W → CommandError → Type 0
IsScriptStopped reads standing contents rows before later stop =
    IsNotMade rows before later stop
    ⊎ IsStoppedOver reads standing contents rows before later stop

-- The script in a file was played: its text, as it was read, was done so.
abbrev pub IsScriptPlayed : {K W : Type 0} → Reads → (K → Standing) → (W → Option (List ℕ))
    → List ℕ → W → W → ExitStatus → Type 0
IsScriptPlayed reads standing contents file before later status =
    (text : List ℕ) × IsWithin reads file MOST_SCRIPT text
    × IsScriptDone reads standing contents (asking text) before later status

-- The script in a file wasn't played to its end: it can't be read, and nothing was printed, or one
-- of its lines stopped it.
abbrev pub IsScriptHalted : {K W : Type 0} → Reads → (K → Standing) → (W → Option (List ℕ))
    → List ℕ → W → W → CommandError → Type 0
IsScriptHalted reads standing contents file before later stop =
    (IsTextUnread reads file stop × (later ≡ before))
    ⊎ ((text : List ℕ) × IsWithin reads file MOST_SCRIPT text
    × IsScriptStopped reads standing contents (asking text) before later stop)

-- what a book in memory stands for
abbrev pub in_memory : ReplayBook → Standing
in_memory b = record {
  warehouse = b.warehouse;
  keeps = λ L. b.entries ≡ all_written L;
  left = λ L. (b.entries ≡ all_written L) × IsLegal Today b.warehouse L;
  all_stand = Unit {0};
  doubt = 0;
  refusals = 0;
  shut = false;
}

-- What a line that names a script came to.
pub record IsScriptRun
    {W : Type 0} (reads : Reads) (contents : W → Option (List ℕ)) (file : List ℕ)
    (before later : W) (ending : Ending) : Type 0 where
  pub played : IfOk ending (IsScriptPlayed reads in_memory contents file before later)
  pub halted : IfErr ending (IsScriptHalted reads in_memory contents file before later)
