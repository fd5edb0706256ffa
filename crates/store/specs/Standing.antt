-- How a book stands, whichever way it is kept.
use Rattle.std.specs.Prelude.{ℕ, ◌-◌, ◌^◌, ◌<◌, ◌≤◌, ◌≡◌, ◌⊎◌, ◌++◌, ◌∷◌, [], List, Bool, true, false, Result, IfErr, IsErrOf}
use Rattle.definitions.specs.Rules.{Today}
use Rattle.definitions.specs.Header.{Who}
use Rattle.definitions.specs.Register.{Entry, own}
use Rattle.definitions.specs.Reply.{out}
use Rattle.definitions.specs.Accepted.{IsLegal}
use Rattle.definitions.specs.Changes.{LeadOn}
use Rattle.rules.specs.Change.{Change}
use Rattle.rules.specs.Tabled.{table_changes}
use Rattle.rules.specs.Written.{Written, written}
use Rattle.store.specs.Fault.{Fault}
use Rattle.store.specs.Fault.TheVariants.{OutOfMemory, Store, Reopen, NotThisBook, Device}

-- the warehouse; the registers that the store stands for (one at most, while it is open); those
-- that a crash may leave, and that it leaves nothing else; how far the disk is in doubt; how many
-- calls the store refused; and whether the book has to be opened again
pub record Standing : Type 1 where
  pub warehouse : Who
  pub keeps : List Entry → Type 0
  pub left : List Entry → Type 0
  pub all_stand : Type 0
  pub doubt : ℕ
  pub refusals : ℕ
  pub shut : Bool

-- a crash leaves one of the two
pub record LeavesEither (s : Standing) (first second : List Entry) : Type 0 where
  pub stand : s.all_stand
  pub each : (M : List Entry) → s.left M → (M ≡ first) ⊎ (M ≡ second)

-- a book that serves: its store stands for a legal register, and a crash leaves what stands for
-- that register alone
pub record IsUsable (s : Standing) (L : List Entry) : Type 0 where
  pub opened : s.shut ≡ false
  pub legal : IsLegal Today s.warehouse L
  pub keeps : s.keeps L
  pub stand : s.all_stand
  pub only : (M : List Entry) → s.left M → M ≡ L

-- a book whose store stands for a legal register, whether it serves or not, and whatever a crash
-- leaves
pub record KeepsLegal (s : Standing) (L : List Entry) : Type 0 where
  pub keeps : s.keeps L
  pub legal : IsLegal Today s.warehouse L

-- of any register that the book keeps, if the disk is in no doubt after the call
abbrev pub OfAnyKept : Standing → Standing → (List Entry → Type 0) → Type 0
OfAnyKept old new P = new.doubt ≡ 0 → (L : List Entry) → old.keeps L → P L

-- of one that is legal
abbrev pub OfKept : Standing → Standing → (List Entry → Type 0) → Type 0
OfKept old new P = OfAnyKept old new (λ L. IsLegal Today old.warehouse L → P L)

-- of the register of a book that serves, if the disk is in no doubt after the call
abbrev pub OfUsable : Standing → Standing → (List Entry → Type 0) → Type 0
OfUsable old new P = new.doubt ≡ 0 → (L : List Entry) → IsUsable old L → P L

-- no count falls, and the warehouse is the same
pub record GoesOn (old new : Standing) : Type 0 where
  pub warehouse : new.warehouse ≡ old.warehouse
  pub doubt : old.doubt ≤ new.doubt
  pub refusals : old.refusals ≤ new.refusals

-- all is as it was, but for the count of refused calls
pub record IsUnchanged (old new : Standing) : Type 0 where
  pub goes : GoesOn old new
  pub shut : new.shut ≡ old.shut
  pub keeps : OfAnyKept old new (λ L. new.keeps L)
  pub stand : OfAnyKept old new (λ L. old.all_stand → new.all_stand)
  pub no_more : OfAnyKept old new (λ L. (M : List Entry) → new.left M → old.left M)

-- the store refused a call, or its count is at its greatest
abbrev pub Refused : Standing → Standing → Type 0
Refused old new = (old.refusals < new.refusals) ⊎ (new.refusals ≡ 2 ^ 64 - 1)

-- why a query failed
pub record IsQueryFault (fault : Fault) (old new : Standing) : Type 0 where
  pub store : fault ≡ Store → Refused old new
  pub reopen : fault ≡ Reopen → old.shut ≡ true
  pub not_this : fault ≡ NotThisBook → OfAnyKept old new (λ L. ⊥)
  pub device : fault ≡ Device → ⊥

-- what a call leaves that only reads, which is all as it was, and why it failed
pub record IsReading {T : Type 0} (old new : Standing) (result : Result T Fault) : Type 0 where
  pub same : IsUnchanged old new
  pub fault : IfErr result (λ fault. IsQueryFault fault old new)

-- a query, which only reads, and is answered by no book that has to be opened again
pub record IsQuery {T : Type 0} (old new : Standing) (result : Result T Fault) : Type 0 where
  pub reading : IsReading old new result
  pub shut : old.shut ≡ true → IsErrOf result Reopen

-- why a command failed, and what it left: all as it was, or a book that has to be opened again
pub record IsFault (fault : Fault) (old new : Standing) : Type 0 where
  pub clean : new.shut ≡ old.shut → IsUnchanged old new
  pub broken : old.shut ≡ false → new.shut ≡ true → Refused old new
  pub why : IsQueryFault fault old new

-- the faults of a commit
abbrev pub IsCommitFault : Fault → Type 0
IsCommitFault OutOfMemory = Unit {0}
IsCommitFault Store = Unit {0}
IsCommitFault Reopen = Unit {0}
IsCommitFault NotThisBook = ⊥
IsCommitFault Device = ⊥

-- why a run of commands that can be given, or not, stopped
pub record IsRunFault (fault : Fault) (given : Bool) (old new : Standing) : Type 0 where
  pub grew : old.shut ≡ false → new.shut ≡ true → Refused old new
  pub store : fault ≡ Store → Refused old new
  pub reopen : fault ≡ Reopen → old.shut ≡ true
  pub not_this : fault ≡ NotThisBook → given ≡ true → OfKept old new (λ L. ⊥)
  pub device : fault ≡ Device → ⊥

-- what a book is given to append: the entry as it is written down after the register, which stays
-- legal with it, the changes that lead from the tables of the register to those with the entry, and
-- the text that goes out for it
pub record IsNext
    (W : Who) (L : List Entry) (e : Entry) (row : Written) (changes : List Change) (text : List ℕ)
    : Type 0 where
  pub entry : row ≡ written L e
  pub legal : IsLegal Today W (L ++ e ∷ [])
  pub leads : LeadOn Today W L e (table_changes e.who changes)
  pub outgoing : text ≡ out W (own L e.who) e
