-- What asking the tables tells, what it leaves, and why it fails.
use Rattle.std.specs.Prelude.{◌≡◌, ◌≢◌, ◌≤◌, ℕ, List, [], None, Some, Ok, Result, IfErr, OnOk, codes}
use Rattle.sqlite.specs.Order.{Row}
use Rattle.sqlite.specs.Schema.{Schema}
use Rattle.sqlite.specs.Clock.{timed}
use Rattle.sqlite.specs.Effect.{Database, Reads}
use Rattle.sqlite.specs.Held.{state}
use Rattle.sqlite.specs.Store.{Ghosts}
use Rattle.sqlite.specs.Listing.{understood, reads_listing, IsSourceOf}
use Rattle.sqlite.specs.State.{State, HasCleanDisk, Survives}
use Rattle.sqlite_resolve.specs.declared.compiled.Compiled.{Compiled}
use Rattle.definitions.specs.declared.rules.Rules.{Rules}
use Rattle.definitions.specs.declared.rules.Rules.TheVariants.{One}
use Rattle.definitions.specs.Header.{Who}
use Rattle.definitions.specs.Register.{Entry}
use Rattle.store.specs.Fault.{Fault}
use Rattle.store.specs.Fault.TheVariants.{Store, Reopen, NotThisBook, Device}
use Rattle.book_statements.specs.Carrying.{StandsOpenAs}
use Rattle.book_statements.specs.Exits.{IsAsBefore, StandsWhileOpen}
use Rattle.book_statements.specs.Kept.{Kept}
use Rattle.book_statements.specs.Limits.{Counts}
use Rattle.book_statements.specs.Recorded.{IsHouse}
use Rattle.book_statements.specs.Rises.{Rises}

-- the text is a statement under the schema that is there, and where it is a query these rows are
-- its answer
pub record Finds (sql : List ℕ) (params : Row) (db : Database) (rows : List Row) : Type 0 where
  pub compiled : Compiled
  pub is : understood db.schema sql ≡ Ok compiled
  pub moment : ℕ
  pub answer : compiled.returning ≡ None → (source : Database)
      × IsSourceOf (reads_listing db.schema sql) db source
      × Reads compiled.command source (timed params compiled.formats moment) rows

-- the text that asks for the warehouse
abbrev pub house_text : List ℕ
house_text = codes "SELECT version, qualifier, id FROM book"

-- of each register that the tables stand for while they are open, if the disk is clean after the
-- call
abbrev pub OfStanding : {S : Type 0} → Ghosts S → Kept S → Kept S → (Who → List Entry → Type 0)
    → Type 0
OfStanding store old new P = HasCleanDisk (state store new.conn) → (W : Who) (L : List Entry)
    → StandsWhileOpen (state store old.conn) W L → P W L

-- the same of tables of a version
abbrev pub OfStandingAs : {S : Type 0} → Ghosts S → Kept S → Kept S
    → (Rules → Who → List Entry → Type 0) → Type 0
OfStandingAs store old new P = HasCleanDisk (state store new.conn)
    → (q : Rules) (W : Who) (L : List Entry) → StandsOpenAs q (state store old.conn) W L → P q W L

-- under any schema under which the text is understood, it gives nothing back of a write, and asks
-- for no time
abbrev pub OnlyReads : List ℕ → Type 0
OnlyReads sql = (schema : Schema) (c : Compiled) → understood schema sql ≡ Ok c
    → (c.returning ≡ None) × (c.formats ≡ [])

-- the tables are as before, whatever they are, and a crash leaves no more
pub record IsAsked (old new : State) : Type 0 where
  pub same : HasCleanDisk new → IsAsBefore old new
  pub crash : Survives old new (λ _. ⊥)

-- the rows of `book` name version 1
abbrev pub IsOfFirst : Database → Type 0
IsOfFirst db = (rows : List Row) × Finds house_text [] db rows × ((W : Who) × IsHouse One rows W)

-- Why a query failed: 41 where a call was refused, 43 only where the tables stand for no register,
-- and neither 42 nor 44.
pub record IsAskFault (fault : Fault) (old new : State) (refused more : ℕ) : Type 0 where
  pub store : fault ≡ Store → Rises refused more
  pub not_this : fault ≡ NotThisBook → HasCleanDisk new → (W : Who) (L : List Entry)
      → StandsWhileOpen old W L → ⊥
  pub reopen : fault ≡ Reopen → ⊥
  pub device : fault ≡ Device → ⊥

-- What queries leave, any number of them and whatever they tell: the tables as they were, a refused
-- call counted and no other, and as many fewer calls left as were made.
pub record Went
    {S T : Type 0} (store : Ghosts S) (old new : Kept S) (result : Result T Fault) : Type 0 where
  pub left : IsAsked (state store old.conn) (state store new.conn)
  pub fault : IfErr result
      (λ f. IsAskFault f (state store old.conn) (state store new.conn) old.refused new.refused)
  pub counts : old.refused ≤ new.refused
  pub uncounted : OnOk result (new.refused ≡ old.refused)
  pub limit : Counts old new

-- The same of at least one: there was a call left where it answers Ok.
pub record Asked
    {S T : Type 0} (store : Ghosts S) (old new : Kept S) (result : Result T Fault) : Type 0 where
  pub left : IsAsked (state store old.conn) (state store new.conn)
  pub fault : IfErr result
      (λ f. IsAskFault f (state store old.conn) (state store new.conn) old.refused new.refused)
  pub counts : old.refused ≤ new.refused
  pub uncounted : OnOk result (new.refused ≡ old.refused)
  pub limit : Counts old new
  pub allowed : OnOk result (old.limit ≢ Some 0)
