-- How a book in tables stands.
use Rattle.std.specs.Prelude.{◌≡◌, ℕ, Bool, List, length}
use Rattle.sqlite.specs.State.{State}
use Rattle.sqlite_trees.specs.View.{doubt}
use Rattle.definitions.specs.Rules.{Today}
use Rattle.definitions.specs.Header.{Who}
use Rattle.definitions.specs.Register.{Entry}
use Rattle.definitions.specs.Accepted.{IsLegal}
use Rattle.store.specs.Standing.{Standing}
use Rattle.book_statements.specs.Exits.{AllStand, LeavesStanding, StandsWhileOpen}

-- the register has so many entries, and the tables stand for it while the store is open
pub record IsKept (s : State) (W : Who) (entries : ℕ) (L : List Entry) : Type 0 where
  pub count : entries ≡ length L
  pub stands : StandsWhileOpen s W L

-- how a book of the warehouse stands, which knows of so many entries
abbrev pub standing_in : State → Who → ℕ → ℕ → Bool → Standing
standing_in s W entries refused shut = record {
  warehouse = W;
  keeps = IsKept s W entries;
  left = LeavesStanding s W;
  all_stand = AllStand s W;
  doubt = doubt s.is_clean;
  refusals = refused;
  shut = shut;
}

-- the tables stand for the legal register while the store is open, and a crash leaves what stands
-- for it alone
pub record IsSettled (s : State) (W : Who) (L : List Entry) : Type 0 where
  pub legal : IsLegal Today W L
  pub stands : StandsWhileOpen s W L
  pub stand : AllStand s W
  pub only : (M : List Entry) → LeavesStanding s W M → M ≡ L
