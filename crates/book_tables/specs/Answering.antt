-- By what rows a text is answered, whether the tables stand for a register or not.
use Rattle.std.specs.Prelude.{ℕ, List, IsTrue}
use Rattle.sqlite.specs.Order.{Row}
use Rattle.sqlite.specs.State.{State}
use Rattle.book_statements.specs.Asking.{Finds}

-- the store is open, and its database answers the text by rows of which this holds
abbrev pub Answers : List ℕ → Row → (List Row → Type 0) → State → Type 0
Answers text params P s = IsTrue s.is_open × (rows : List Row) × Finds text params s.now rows
    × P rows
