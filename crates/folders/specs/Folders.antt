-- What taking the files of a folder comes to.
use Rattle.std.specs.Prelude.{◌≡◌, ◌⊎◌, ◌∷◌, ◌++◌, [], true, false, ℕ, List, map}
use Rattle.std.specs.declared.io.ErrorKind.{ErrorKind}
use Rattle.std.specs.declared.io.ErrorKind.TheVariants as kinds
use Rattle.definitions.specs.Rules.{Today}
use Rattle.definitions.specs.Moments.{Moment}
use Rattle.definitions.specs.Register.{Command, Interchange}
use Rattle.definitions.specs.Reply as replies
use Rattle.definitions.specs.declared.refusals.Refusal.{Refusal}
use Rattle.definitions.specs.Accepted.{accepted_on, replies_on}
use Rattle.store.specs.Standing.{Standing, IsUsable, KeepsLegal, LeavesEither, OfKept, OfUsable, Refused}
use Rattle.store.specs.Fault.{Fault}
use Rattle.store.specs.Fault.TheVariants.{OutOfMemory, Store, Reopen, NotThisBook, Device}
use Rattle.folders.specs.declared.folder.FileOutcome.{FileOutcome}
use Rattle.folders.specs.declared.folder.FileOutcome.TheVariants as outcomes

-- what became of an interchange
pub data Became : Type 0 where
  WasAccepted : Became
  WasStored : Became
  WasRefused : Refusal → Became

abbrev pub became : replies.Reply → Became
became (replies.Accepted text) = WasAccepted
became (replies.Stored text) = WasStored
became (replies.Refused r text) = WasRefused r

abbrev pub became_of : FileOutcome → Became
became_of outcomes.Accepted = WasAccepted
became_of outcomes.Stored = WasStored
became_of (outcomes.Refused r) = WasRefused r

-- interchanges of these texts, handed in at the moment
abbrev pub handed : Moment → List (List ℕ) → List (Command × Moment)
handed t texts = map (λ (text : List ℕ). (Interchange text, t)) texts

-- the fault that an error of a file or a folder is: want of memory, and else one of a device
abbrev pub fault_of_kind : ErrorKind → Fault
fault_of_kind kinds.OutOfMemory = OutOfMemory
fault_of_kind kind = Device

-- a device that doesn't serve, or want of memory
abbrev pub IsDeviceFault : Fault → Type 0
IsDeviceFault fault = (fault ≡ OutOfMemory) ⊎ (fault ≡ Device)

-- a call about this path failed with this kind of error, or memory was wanting
abbrev pub IsErrorAt : (List ℕ → ErrorKind → Type 0) → List ℕ → ErrorKind → Type 0
IsErrorAt fails path kind = fails path kind ⊎ (kind ≡ kinds.OutOfMemory)

-- a fault of a device is that of a call which failed, about a file or a folder
abbrev pub HasCause : (List ℕ → ErrorKind → Type 0) → Fault → Type 0
HasCause fails fault = fault ≡ Device
    → (path : List ℕ) × (kind : ErrorKind) × fails path kind × (fault_of_kind kind ≡ Device)

-- The texts were handed in one after the other: this became of them, and the register is the one
-- after them.
pub record AreTextsTaken
    (old new : Standing) (t : Moment) (texts : List (List ℕ)) (told : List Became) : Type 0 where
  pub told_is : OfUsable old new
      (λ L. told ≡ map became (replies_on Today old.warehouse L (handed t texts)))
  pub usable : OfUsable old new
      (λ L. IsUsable new (accepted_on Today old.warehouse L (handed t texts)))
  pub keeps : OfKept old new (λ L. KeepsLegal new
      (accepted_on Today old.warehouse L (handed t texts)))

-- The texts were handed in, and one more perhaps. The register is the one after those, or after
-- that one too; a crash leaves one of the two, also where the book has to be opened again.
pub record AreTakenUntil
    (old new : Standing) (t : Moment) (texts : List (List ℕ)) (last : List ℕ) : Type 0 where
  pub usable : OfUsable old new (λ L. new.shut ≡ false
      → IsUsable new (accepted_on Today old.warehouse L (handed t texts))
      ⊎ IsUsable new (accepted_on Today old.warehouse L (handed t (texts ++ last ∷ []))))
  pub left : OfUsable old new
      (λ L. LeavesEither new (accepted_on Today old.warehouse L (handed t texts))
      (accepted_on Today old.warehouse L (handed t (texts ++ last ∷ []))))

-- Why the rest of a folder wasn't taken.
pub record IsFolderFault (fault : Fault) (old new : Standing) : Type 0 where
  pub grew : old.shut ≡ false → new.shut ≡ true → Refused old new
  pub store : fault ≡ Store → Refused old new
  pub reopen : fault ≡ Reopen → old.shut ≡ true
  pub not_this : fault ≡ NotThisBook → OfKept old new (λ L. ⊥)

-- A folder that wasn't taken to its end.
pub record IsFolderStopped (fault : Fault) (old new : Standing) (t : Moment) : Type 0 where
  pub texts : List (List ℕ)
  pub last : List ℕ
  pub taken : AreTakenUntil old new t texts last
  pub why : IsFolderFault fault old new
