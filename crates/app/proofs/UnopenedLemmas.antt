-- Files that couldn't be opened as a database.
use Rattle.std.proofs.Common.{◌≡◌, ◌≢◌, ◌⊎◌, ◌<◌, ℕ, Bool, List, cond, Option, None, Some, IfSome, ap, sym, refl, subst, ◌∙◌, inl, inr, arith}
use Rattle.sqlite_disk.specs.declared.Disk.{Ghosts as Disks}
use Rattle.sqlite_disk.specs.Events.{Event, replay}
use Rattle.sqlite_disk.specs.declared.Files.{Files}
use Rattle.sqlite.specs.declared.error.Error.{Error}
use Rattle.sqlite.specs.declared.error.Error.TheVariants.{SqliteFailure}
use Rattle.sqlite.specs.declared.error.ErrorCode.TheVariants as code
use Rattle.sqlite.specs.declared.file.Leftover.{Leftover}
use Rattle.sqlite.specs.Files.{FailsToOpenFiles, IsCleanLeft, LeavesFiles, faults_left, image_of}
use Rattle.sqlite.specs.Recovery.{Image}
use Rattle.store.specs.Fault.{Fault}
use Rattle.store.specs.Fault.TheVariants.{Device, NotThisBook, OutOfMemory}
use Rattle.app.specs.Faults.{fault_of}
use Rattle.app.specs.FromFile.{CanBeOpened, IsUnopened}

-- what the two files held as they were opened, by the calls made of them since
abbrev pub image : List ℕ → List ℕ → Image
image log db = record { log = log; db = db }

abbrev pub seen : List ℕ → List ℕ → Bool → List Event → List ℕ
seen log db is_log history = (replay (cond is_log log db) history).seen

-- no error is told so that is another one
other : (e f : Error) (told : Fault) → e ≡ f → fault_of f ≡ told → told ≢ NotThisBook → fault_of e ≢ NotThisBook
other e f told is says never this = never (sym says ∙ ap fault_of (sym is) ∙ this)

memory_is_other : OutOfMemory ≢ NotThisBook
memory_is_other is = absurd (cc)

device_is_other : Device ≢ NotThisBook
device_is_other is = absurd (cc)

-- nothing is left of files that the system itself didn't open
names_another : (e : Error) → (e ≡ SqliteFailure code.CannotOpen) ⊎ ((e ≡ SqliteFailure code.OutOfMemory) ⊎ (e ≡ SqliteFailure code.DatabaseBusy))
    → fault_of e ≢ NotThisBook
names_another e (inl cannot) = other e (SqliteFailure code.CannotOpen) Device cannot refl device_is_other
names_another e (inr (inl memory)) = other e (SqliteFailure code.OutOfMemory) OutOfMemory memory refl memory_is_other
names_another e (inr (inr busy)) = other e (SqliteFailure code.DatabaseBusy) Device busy refl device_is_other

module _ {D : Type 0} {disk : Disks D} where
  -- files that can be opened are told to be another's where their disk told of a fault
  blames_disk : (files : Files D) (left : Leftover D disk) (e : Error) → FailsToOpenFiles {g = disk} files left e → CanBeOpened (image_of disk files)
      → fault_of e ≡ NotThisBook → 0 < faults_left left
  blames_disk files left e fails can is = elim fails [
    | inl memory ↦ absurd (other e (SqliteFailure code.OutOfMemory) OutOfMemory memory refl memory_is_other is)
    | inr more ↦ elim more [
      | inl refused ↦ absurd (refused.1 can)
      | inr last ↦ elim last [
        | inl told ↦ let rose = told.1 in omega (arith, rose)
        | inr full ↦ absurd (other e (SqliteFailure code.DiskFull) Device full.0 refl device_is_other is)
      ]
    ]
  ]

  pub unopened : {W : Type 0} {A B : Files D → Type 0} (image : Image) (w : W) (e : Error) (leftover : Option (Leftover D disk))
      → ((files : Files D) → A files → B files → image_of disk files ≡ image)
      → (leftover ≡ None → (e ≡ SqliteFailure code.CannotOpen) ⊎ ((e ≡ SqliteFailure code.OutOfMemory) ⊎ (e ≡ SqliteFailure code.DatabaseBusy)))
      → IfSome leftover (λ left. (files : Files D) × A files × B files × (IsCleanLeft left → FailsToOpenFiles {g = disk} files left e × LeavesFiles {g = disk} files left))
      → IsUnopened {disk = disk} image e leftover w w
  unopened image w e None same none some = record { printed = refl; none = λ is. names_another e (none refl); this = tt }
  unopened image w e (Some left) same none some = record {
    printed = refl;
    none = λ is. absurd (cc);
    this = λ clean can is.
        blames_disk some.0 left e (some.3 clean).0 (subst CanBeOpened (sym (same some.0 some.1 some.2)) can) is;
  }
