-- What was read of a file.
use Rattle.std.specs.Prelude.{◌≡◌, ◌+◌, ◌<◌, ◌≤◌, ℕ, List, length}

-- relates the path of a file, a number, and the first bytes of the file, so many where it has so
-- many
abbrev pub Reads : Type 1
Reads = List ℕ → ℕ → List ℕ → Type 0

-- every file has just these bytes
abbrev pub reads_as : List ℕ → Reads
reads_as text file most bytes = bytes ≡ text

-- nothing is said of files
abbrev pub reads_any : Reads
reads_any file most bytes = Unit {0}

-- these are the bytes of a file, which has so many at most
pub record IsWithin (reads : Reads) (file : List ℕ) (most : ℕ) (bytes : List ℕ) : Type 0 where
  pub read : reads file (most + 1) bytes
  pub within : length bytes ≤ most

-- a file has more bytes than so many: one more was read
pub record IsLonger (reads : Reads) (file : List ℕ) (most : ℕ) : Type 0 where
  pub bytes : List ℕ
  pub read : reads file (most + 1) bytes
  pub longer : most < length bytes
