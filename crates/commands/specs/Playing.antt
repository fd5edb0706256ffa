-- What a script or a batch comes to: its rows, one after another.
use Rattle.std.specs.Prelude.{◌≡◌, ◌⊎◌, ◌++◌, ◌∷◌, [], ℕ, Bool, true, false, List, Option, Some, None, Ok, Err, OnErr, filter}
use Rattle.std.specs.Borrow.{Bor}
use Rattle.std.specs.List.{FoldsTo}
use Rattle.std.specs.Io.KnownBytes.{Appends}
use Rattle.definitions.specs.Readings.{parts_at}
use Rattle.store.specs.Fault.TheVariants.{OutOfMemory}
use Rattle.store.specs.Standing.{Standing, IsUnchanged, GoesOn}
use Rattle.command_line.specs.Asked.{IsLineRead, CanBeRead}
use Rattle.command_line.specs.declared.words.Place.TheVariants.{Script}
use Rattle.command_line.specs.declared.words.Words.{Words}
use Rattle.commands.specs.Acting.{Ending}
use Rattle.commands.specs.Files.{Reads}
use Rattle.commands.specs.Looking.{IsLineDone}
use Rattle.commands.specs.Statuses.{and_then}
use Rattle.commands.specs.declared.told.CommandError.{CommandError}
use Rattle.commands.specs.declared.told.CommandError.TheVariants as stops
use Rattle.commands.specs.declared.told.ExitStatus.{ExitStatus}

-- the rows of a text, between its LF; none of what isn't there
abbrev pub rows_left : Option (Bor (List ℕ)) → List (List ℕ)
rows_left None = []
rows_left (Some text) = parts_at 10 text.now

-- an empty row asks for nothing
abbrev pub asks : List ℕ → Bool
asks [] = false
asks (byte ∷ row) = true

-- the rows of a text that ask for something
abbrev pub asking : List ℕ → List (List ℕ)
asking text = filter asks (parts_at 10 text)

-- these words were read of the row, which has one between any two spaces
abbrev pub IsRowRead : List ℕ → Words → Type 0
IsRowRead row asked = IsLineRead Script (parts_at 32 row) asked

-- A row was answered: its words were read, what they ask for was done with this ending, which left
-- the book so, and telling why it was refused changed nothing; after a stop nothing more was asked.
-- No count falls meanwhile.
pub record IsRowAnswered
    {K : Type 0} (reads : Reads) (standing : K → Standing) (old new : K) (row : List ℕ)
    (before later : Option (List ℕ)) (ending : Ending) : Type 0 where
  pub asked : Words
  pub read : IsRowRead row asked
  pub left : K
  pub done : IsLineDone reads (standing old) (standing left) asked before later ending
  pub goes : GoesOn (standing old) (standing left)
  pub same : IsUnchanged (standing left) (standing new)
  pub last : OnErr ending (new ≡ left)

-- A row was done, or refused: of a book, what was printed and the status so far the row makes those
-- after it.
pub record IsRowDone
    {K W : Type 0} (reads : Reads) (standing : K → Standing) (contents : W → Option (List ℕ))
    (p : K × (W × ExitStatus)) (row : List ℕ) (q : K × (W × ExitStatus)) : Type 0 where
  pub status : ExitStatus
  pub answered : IsRowAnswered reads standing p.0 q.0 row (contents p.1.0) (contents q.1.0) (Ok status)
  pub ends : q.1.1 ≡ and_then p.1.1 status

-- A row can't be read, and the book is as it was. One that could be read lacked memory.
pub record IsRowUnread
    {K W : Type 0} (standing : K → Standing) (contents : W → Option (List ℕ)) (old : K) (out : W)
    (row : List ℕ) (new : K) (after : W) (stop : CommandError) : Type 0 where
  pub same : IsUnchanged (standing old) (standing new)
  pub silent : Appends (contents out) (contents after) []
  pub lacks : CanBeRead Script (parts_at 32 row) → stop ≡ stops.Fault OutOfMemory

-- a row stopped what was played: it can't be read, or what it asks for ended so
abbrev pub IsRowStopped : {K W : Type 0} → Reads → (K → Standing) → (W → Option (List ℕ)) → K → W → List ℕ
    → K → W → CommandError → Type 0
IsRowStopped reads standing contents old out row new after stop =
    IsRowUnread standing contents old out row new after stop
    ⊎ IsRowAnswered reads standing old new row (contents out) (contents after) (Err stop)

-- Rows were played to their end, one after the other, each once.
abbrev pub HasPlayed : {K W : Type 0} → Reads → (K → Standing) → (W → Option (List ℕ)) → K
    × (W × ExitStatus) → List (List ℕ) → K × (W × ExitStatus) → Type 0
HasPlayed reads standing contents p rows q = FoldsTo (IsRowDone reads standing contents) p rows q

-- Rows were played, one after the other, up to one that stopped it.
pub record HasStopped
    {K W : Type 0} (reads : Reads) (standing : K → Standing) (contents : W → Option (List ℕ))
    (p : K × (W × ExitStatus)) (rows : List (List ℕ)) (new : K) (after : W) (stop : CommandError)
    : Type 0 where
  pub front : List (List ℕ)
  pub row : List ℕ
  pub others : List (List ℕ)
  pub are : rows ≡ front ++ row ∷ others
  pub reached : K × (W × ExitStatus)
  pub played : HasPlayed reads standing contents p front reached
  pub stopped : IsRowStopped reads standing contents reached.0 reached.1.0 row new after stop
