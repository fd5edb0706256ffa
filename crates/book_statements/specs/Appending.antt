-- What appending an entry changes in the tables, besides what its command changes.
use Rattle.std.specs.Prelude.{◌≡◌, ℕ, ◌+◌, List, [], ◌∷◌, length, codes, if◌then◌else◌}
use Rattle.definitions.specs.Rules.{Today}
use Rattle.definitions.specs.Header.{Who}
use Rattle.definitions.specs.Register.{Deed, Performed, Entry, is_numbered, own}
use Rattle.definitions.specs.Reply.{out}
use Rattle.definitions.specs.Rows.{new_out_row}
use Rattle.definitions.specs.Tables.{entry_row, entry_rules_row, outgoing_row}
use Rattle.definitions.specs.Changes as tables
use Rattle.rules.specs.Written.{Written, written}
use Rattle.rules.specs.Tabled.{table_changes}
use Rattle.rules.specs.Change.{Change}

-- the state of what has just gone out for a deed
abbrev pub first_state : Deed → List ℕ
first_state (Performed ticket act) = codes "open"
first_state d = codes "-"

-- the row of a numbered entry's text
abbrev pub sent_changes : Who → List Entry → Entry → List tables.Change
sent_changes W L e =
    if is_numbered e
    then tables.Puts (codes "outgoing") (outgoing_row e.who (new_out_row W (own L e.who) e)) ∷ []
    else []

-- the entry's row, that of its rules, and that
abbrev pub entry_changes : Who → List Entry → Entry → List tables.Change
entry_changes W L e = tables.Puts (codes "entry") (entry_row L e)
    ∷ tables.Puts (codes "entry_rules") (entry_rules_row L e) ∷ sent_changes W L e

-- what is given to be appended: the entry as it is written down after the register, under the next
-- number, with the text that goes out for it, and with changes that lead from the register's tables
-- to those with the entry
pub record Appends
    (W : Who) (L : List Entry) (e : Entry) (n : ℕ) (row : Written) (changes : List Change)
    (text : List ℕ) : Type 0 where
  pub next : n ≡ length L + 1
  pub entry : row ≡ written L e
  pub outgoing : text ≡ out W (own L e.who) e
  pub leads : tables.LeadOn Today W L e (table_changes e.who changes)
