-- A keyed table that shows the rows of another that holds a set of rows holds that set.
use Rattle.std.proofs.Common.{◌≡◌, inl, inr, ℕ, ◌+◌, ℤ, List, [], ◌∷◌, length, map, drop, codes, refl, sym, ap, subst, ◌∙◌, arith}
use Rattle.sqlite.specs.declared.types.Value.TheVariants as value
use Rattle.sqlite.specs.Order.{Row, column}
use Rattle.sqlite.specs.Query.{IsAnswer, output}
use Rattle.sqlite.specs.Program.{overlay}
use Rattle.sqlite.specs.Term.{Term, eval_all}
use Rattle.sqlite.specs.Table.{Table}
use Rattle.sqlite.specs.Tree.{Trees}
use Rattle.sqlite_trees.specs.declared.store.Shape.TheVariants as shape
use Rattle.sqlite_trees.specs.View.{IsShaped}
use Rattle.sqlite_value.specs.declared.keys.Key.{Key}
use Rattle.sqlite_catalog.specs.Listing.{IsSound}
use Rattle.sqlite_rules.specs.Lists.{Has}
use Rattle.sqlite_rules.proofs.ListLemmas.{all_has}
use Rattle.definitions.specs.Tables.{TableRow}
use Rattle.book_tables.specs.Comparing.{AreTables}
use Rattle.book_statements.specs.Held.{values, Holds}
use Rattle.sqlite.specs.Schema.{Schema}
use Rattle.sqlite.specs.Effect.{Database, IsDatabase}
use Rattle.book_statements.specs.Layout.{IsLayout, book_tables, book_trees, placed, rules_tree, expiry_tree, entry_rules_at, lot_expiry_at, text, number, blob, book_layout, entry_layout, outgoing_layout, stock_layout, advice_layout, advice_line_layout, orders_layout, order_line_layout, reservation_layout}
use Rattle.book_statements.specs.declared.names.TableName.{TableName}
use Rattle.book_statements.specs.declared.names.TableName.TheVariants.{Book, Entry, Outgoing, Stock, Advice, AdviceLine, Orders, OrderLine, Reservation, EntryRules, LotExpiry}
use Rattle.book_statements.specs.Standing.{layout_of, tree_of, width_of}
use Rattle.book_statements.proofs.KeyLemmas.{places}
use Rattle.book_statements.proofs.EachTable.{listed}
use Rattle.book_tables.proofs.WholeFound.{row_stored, stored_shown}
use Rattle.book_tables.proofs.WholeRows.{row_full, columns_later, all_columns, numbered_row}
use Rattle.book_statements.proofs.WholeTexts.{columns_at, rising_at, columns_of, keyed_query}

pub table_lies : (t : TableName) (db : Trees) → overlay db [] (tree_of t) ≡ db (tree_of t)
table_lies Book db = refl
table_lies Entry db = refl
table_lies Outgoing db = refl
table_lies Stock db = refl
table_lies Advice db = refl
table_lies AdviceLine db = refl
table_lies Orders db = refl
table_lies OrderLine db = refl
table_lies Reservation db = refl
table_lies EntryRules db = refl
table_lies LotExpiry db = refl

-- columns as terms
pub columns_out : (r : Row) (at : List ℕ) → eval_all (columns_at at) ([] ∷ r ∷ []) ≡ map (column r) at
columns_out r [] = refl
columns_out r (p ∷ at) = ap (λ (rs : Row). column r p ∷ rs) (columns_out r at)

pub sorted_out : (r : Row) (at : List ℕ) → eval_all (map (λ (k : Term × Key). k.0) (rising_at at)) ([] ∷ r ∷ []) ≡ map (column r) at
sorted_out r [] = refl
sorted_out r (p ∷ at) = ap (λ (rs : Row). column r p ∷ rs) (sorted_out r at)

later_columns : (row : Row) (w : ℕ) → length row ≡ w + 1 → map (column row) (places 1 w) ≡ drop 1 row
later_columns [] w h = absurd (omega (arith, h))
later_columns (x ∷ row) w h = columns_later x row w 0 ∙ all_columns row w (omega (arith, h))

module _ (t : TableName) where
  abbrev pub shown : Row → Row
  shown r = (output (keyed_query t) ([] ∷ r ∷ [])).1

pub table_full : (t : TableName) (schema : Schema) → IsLayout schema → (db : Trees) → IsSound schema db → (row : Row) → Has (placed schema db (tree_of t)) row → length row ≡ columns_of t + 1
table_full Book schema lies db sound row there = row_full schema lies db book_layout (inl refl) sound row there 2 (text (codes "id")) refl refl refl refl refl
table_full Entry schema lies db sound row there = row_full schema lies db entry_layout (inr (inl refl)) sound row there 5 (blob (codes "body")) refl refl refl refl refl
table_full Outgoing schema lies db sound row there = row_full schema lies db outgoing_layout (inr (inr (inl refl))) sound row there 4 (text (codes "state")) refl refl refl refl refl
table_full Stock schema lies db sound row there = row_full schema lies db stock_layout (inr (inr (inr (inl refl)))) sound row there 7 (number (codes "shipped")) refl refl refl refl refl
table_full Advice schema lies db sound row there = row_full schema lies db advice_layout (inr (inr (inr (inr (inl refl))))) sound row there 3 (number (codes "is_open")) refl refl refl refl refl
table_full AdviceLine schema lies db sound row there = row_full schema lies db advice_line_layout (inr (inr (inr (inr (inr (inl refl)))))) sound row there 5 (number (codes "quantity")) refl refl refl refl refl
table_full Orders schema lies db sound row there = row_full schema lies db orders_layout (inr (inr (inr (inr (inr (inr (inl refl))))))) sound row there 6 (text (codes "to_place")) refl refl refl refl refl
table_full OrderLine schema lies db sound row there = row_full schema lies db order_line_layout (inr (inr (inr (inr (inr (inr (inr (inl refl)))))))) sound row there 5 (number (codes "quantity")) refl refl refl refl refl
table_full Reservation schema lies db sound row there = row_full schema lies db reservation_layout (inr (inr (inr (inr (inr (inr (inr (inr (inl refl))))))))) sound row there 4 (number (codes "quantity")) refl refl refl refl refl
table_full EntryRules schema lies db sound row there = row_full schema lies db (entry_rules_at (rules_tree schema)) (inr (inr (inr (inr (inr (inr (inr (inr (inr (inl refl)))))))))) sound row there 1 (number (codes "rules")) refl refl refl refl refl
table_full LotExpiry schema lies db sound row there = row_full schema lies db (lot_expiry_at (expiry_tree schema)) (inr (inr (inr (inr (inr (inr (inr (inr (inr (inr (inl refl))))))))))) sound row there 3 (text (codes "expiry")) refl refl refl refl refl

-- what is shown of a row is all but its rowid
pub shown_is : (t : TableName) (schema : Schema) → IsLayout schema → (db : Trees) → IsSound schema db → (row : Row) → Has (placed schema db (tree_of t)) row → shown t row ≡ drop 1 row
shown_is t schema lies db sound row there = columns_out row (places 1 (columns_of t)) ∙ later_columns row (columns_of t) (table_full t schema lies db sound row there)

-- the rows of each table stand in the order of their rowids
pub shaped_at : (t : TableName) (db : Database) → AreTables db → IsShaped shape.Table (book_trees db (tree_of t))
shaped_at t db tables = all_has (λ (u : Table). IsShaped shape.Table (book_trees db u.tree)) book_tables (layout_of t) tables (listed t)

module _ (t : TableName) (one two : Database) (lies : IsLayout one.schema) (its_lies : IsLayout two.schema) (sound : IsDatabase one) (its_sound : IsDatabase two) (tables : AreTables one) (rows : List Row)
    (answer : IsAnswer (keyed_query t) (overlay (book_trees one) []) [] rows) (its_answer : IsAnswer (keyed_query t) (overlay (book_trees two) []) [] rows) (cells : List TableRow) (held : Holds cells (book_trees two (tree_of t))) where
  abbrev db : Trees
  db = book_trees one

  abbrev its : Trees
  its = book_trees two

  shaped : IsShaped shape.Table (db (tree_of t))
  shaped = shaped_at t one tables

  abbrev project : List Term
  project = columns_at (places 1 (columns_of t))

  abbrev order : List (Term × Key)
  order = rising_at (places 1 (width_of t))

  from_stored : (row : Row) → Has (db (tree_of t)) row → (id : ℤ) × (c : TableRow) × Has cells c × (row ≡ value.Int id ∷ values c)
  from_stored row there =
      let mine = numbered_row (db (tree_of t)) shaped row there in
      let listed = stored_shown (tree_of t) project order (table_lies t) db rows answer row there in
      let other = row_stored (tree_of t) project order (table_lies t) its rows its_answer (shown t row) listed in
      let it = held.sound other.0 other.1 in
      let same : drop 1 row ≡ values it.1 = sym (shown_is t one.schema lies one.trees sound row there) ∙ other.2 ∙ shown_is t two.schema its_lies two.trees its_sound other.0 other.1 ∙ ap (drop 1) it.3 in
      (mine.0, it.1, it.2, mine.1 ∙ ap (λ (r : Row). value.Int mine.0 ∷ r) same)

  to_stored : (c : TableRow) → Has cells c → (id : ℤ) × Has (db (tree_of t)) (value.Int id ∷ values c)
  to_stored c there =
      let other = held.complete c there in
      let its_row : Row = value.Int other.0 ∷ values c in
      let listed = stored_shown (tree_of t) project order (table_lies t) its rows its_answer its_row other.1 in
      let mine = row_stored (tree_of t) project order (table_lies t) db rows answer (shown t its_row) listed in
      let row = numbered_row (db (tree_of t)) shaped mine.0 mine.1 in
      let same : drop 1 mine.0 ≡ values c = sym (shown_is t one.schema lies one.trees sound mine.0 mine.1) ∙ sym mine.2 ∙ shown_is t two.schema its_lies two.trees its_sound its_row other.1 in
      (row.0, subst (Has (db (tree_of t))) (row.1 ∙ ap (λ (r : Row). value.Int row.0 ∷ r) same) mine.1)

  pub holds_too : Holds cells (db (tree_of t))
  holds_too = record { rise = shaped.0; sound = from_stored; complete = to_stored }
