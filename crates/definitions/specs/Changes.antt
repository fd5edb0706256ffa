-- What an accepted command changes in the tables: its entry, its outgoing text, and changes of
-- rows.
use Rattle.std.specs.Prelude.{◌≡◌, ℕ, Bool, false, not, ◌&&◌, List, [], ◌∷◌, ◌++◌, map, if◌then◌else◌, ◌==◌, codes, bytes_eq, fold, filter, Option}
use Rattle.definitions.specs.declared.rules.Rules.{Rules}
use Rattle.definitions.specs.declared.rules.Rules.TheVariants.{One, Two}
use Rattle.definitions.specs.Header.{Who}
use Rattle.definitions.specs.Register.{Entry, is_numbered, own}
use Rattle.definitions.specs.Rows.{state_text, new_out_row}
use Rattle.definitions.specs.Tables.{tables, Number, Text, TableRow, entry_row, entry_rules_row, outgoing_row, AllTables}
use Rattle.definitions.specs.Schema.{schema_named, put_row}

pub data Change : Type 0 where
  -- puts a whole row into the table of this name, by its key
  Puts : List ℕ → TableRow → Change
  -- sets the state of a depositor's document
  SetsState : List ℕ → ℕ → Option Bool → Change
  -- takes all that is reserved for a depositor's order away
  Frees : List ℕ → List ℕ → Change

abbrev pub in_table : List ℕ → (List TableRow → List TableRow) → AllTables → AllTables
in_table name f ts = map (λ t. if bytes_eq t.0 name then (t.0, f t.1) else t) ts

-- an `outgoing` row with the state, where it is the document's
abbrev pub with_state : List ℕ → ℕ → List ℕ → TableRow → TableRow
with_state who n state (Text w ∷ Number m ∷ kind ∷ content ∷ old ∷ []) =
    Text w ∷ Number m ∷ kind ∷ content ∷ (if bytes_eq w who && m == n then Text state else old) ∷ []
with_state who n state row = row

-- a `reservation` row of the order
abbrev pub is_reserved_for : List ℕ → List ℕ → TableRow → Bool
is_reserved_for who order (Text w ∷ Text o ∷ cells) = bytes_eq w who && bytes_eq o order
is_reserved_for who order row = false

abbrev pub changed : AllTables → Change → AllTables
changed ts (Puts name row) = in_table name (put_row (schema_named name) row) ts
changed ts (SetsState who n said) =
    in_table (codes "outgoing") (map (with_state who n (state_text said))) ts
changed ts (Frees who order) =
    in_table (codes "reservation") (filter (λ row. not (is_reserved_for who order row))) ts

abbrev pub changed_by : AllTables → List Change → AllTables
changed_by ts cs = fold changed ts cs

-- what tells an entry's rules, in the book of a version: version 1 has no table of it
abbrev pub rules_put : Rules → List Entry → Entry → List Change
rules_put One L e = []
rules_put Two L e = Puts (codes "entry_rules") (entry_rules_row L e) ∷ []

-- the tables of a version with one entry more, whose outgoing text is this, before anything else is
-- changed
abbrev pub with_entry : Rules → Who → List Entry → Entry → AllTables → AllTables
with_entry r W L e ts =
    let M = own L e.who in
    let entered = changed_by ts (Puts (codes "entry") (entry_row L e) ∷ rules_put r L e) in
    if is_numbered e
    then changed entered (Puts (codes "outgoing") (outgoing_row e.who (new_out_row W M e)))
    else entered

-- changes with which the tables of a register become those of one entry more
abbrev pub LeadOn : Rules → Who → List Entry → Entry → List Change → Type 0
LeadOn r W L e cs = changed_by (with_entry r W L e (tables r W L)) cs ≡ tables r W (L ++ e ∷ [])
