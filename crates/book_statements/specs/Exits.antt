-- What a call leaves of the tables at its exits.
use Rattle.std.specs.Prelude.{◌≡◌, ℕ, List, [], ◌∷◌, ◌++◌, IsTrue}
use Rattle.sqlite.specs.Tree.{Trees}
use Rattle.sqlite.specs.State.{State}
use Rattle.sqlite.specs.Effect.{IsDatabase}
use Rattle.definitions.specs.Rules.{Today}
use Rattle.definitions.specs.Header.{Who, who_text}
use Rattle.definitions.specs.Register.{Entry}
use Rattle.definitions.specs.Accepted.{IsLegal}
use Rattle.rules.specs.Written.{Written}
use Rattle.rules.specs.Change.{Change}
use Rattle.book_statements.specs.Standing.{StandsSecond, StandsIn, AreOrdered, filled}
use Rattle.book_statements.specs.Appending.{Appends}

-- the database stands for the register, unless the store is shut and shows nothing
abbrev pub StandsWhileOpen : State → Who → List Entry → Type 0
StandsWhileOpen s W L = IsTrue s.is_open → StandsSecond W L s.now

-- the tables stood for a register whose rows are in order, and this entry is appended to it, which
-- leaves it legal
pub record IsAppended
    (s : State) (W : Who) (L : List Entry) (e : Entry) (seq : ℕ) (who : List ℕ) (row : Written)
    (changes : List Change) (text : List ℕ) : Type 0 where
  pub stood : StandsWhileOpen s W L
  pub ordered : AreOrdered (filled W L)
  pub legal : IsLegal Today W (L ++ e ∷ [])
  pub whose : who ≡ who_text e.who
  pub appends : Appends W L e seq row changes text

-- the trees stand for the register with the entry
abbrev pub StandsWithEntry : State → ℕ → List ℕ → Written → List Change → List ℕ → Trees → Type 0
StandsWithEntry s seq who row changes text db = (W : Who) (L : List Entry) (e : Entry)
    → IsAppended s W L e seq who row changes text → StandsIn W (L ++ e ∷ []) db

-- the tables stand for the register with the entry, whose rows are in order
pub record HasGrown (s : State) (W : Who) (L : List Entry) : Type 0 where
  pub stands : StandsSecond W L s.now
  pub sound : IsDatabase s.now
  pub ordered : AreOrdered (filled W L)

-- while the connection is open it shows what it showed, which is the last commit
pub record IsAsBefore (old new : State) : Type 0 where
  pub was_open : IsTrue new.is_open → IsTrue old.is_open
  pub now : IsTrue new.is_open → new.now ≡ old.now
  pub committed : IsTrue new.is_open → new.committed ≡ old.committed

-- a crash at this moment may leave a database that stands for the register
abbrev pub LeavesStanding : State → Who → List Entry → Type 0
LeavesStanding s W L = (db : Trees) × s.may_leave db × StandsIn W L db

-- and it leaves no other
abbrev pub AllStand : State → Who → Type 0
AllStand s W = (db : Trees) → s.may_leave db → (L : List Entry) × StandsIn W L db

-- a crash leaves what is there, and nothing else
abbrev pub LeavesIt : State → Type 0
LeavesIt s = (db : Trees) → s.may_leave db → db ≡ s.now.trees
