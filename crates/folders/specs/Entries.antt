-- What stands under a path, and what was read there.
use Rattle.std.specs.Prelude.{◌≡◌, ◌+◌, ℕ, Bool, true, false, List, length}
use Rattle.folders.specs.declared.file_system.EntryKind.{EntryKind}
use Rattle.folders.specs.declared.file_system.EntryKind.TheVariants.{NoEntry}

abbrev pub is_there : EntryKind → Bool
is_there NoEntry = false
is_there kind = true

-- nothing stood there
abbrev pub IsFree : (List ℕ → EntryKind → Type 0) → List ℕ → Type 0
IsFree finds path = finds path NoEntry

-- something stood there
pub record IsStanding (finds : List ℕ → EntryKind → Type 0) (path : List ℕ) : Type 0 where
  pub kind : EntryKind
  pub found : finds path kind
  pub there : is_there kind ≡ true

-- what was read of a file, up to one byte more than this text has
abbrev pub IsRead : (List ℕ → ℕ → List ℕ → Type 0) → List ℕ → List ℕ → List ℕ → Type 0
IsRead reads path text bytes = reads path (length text + 1) bytes
