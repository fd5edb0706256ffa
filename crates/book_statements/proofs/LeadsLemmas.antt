-- What each statement leads to, as a change of the definitions' tables.
use Rattle.std.proofs.Common.{◌≡◌, ◌≢◌, inl, inr, ℕ, pos, List, [], ◌∷◌, map, filter, not, Bool, false, refl, sym, ap, subst, ◌∙◌}
use Rattle.std.specs.Prelude.{nat_eq, Option}
use Rattle.sqlite.specs.Tree.{Trees, put_row}
use Rattle.sqlite.specs.Effect.{Database}
use Rattle.sqlite.specs.Order.{Row}
use Rattle.sqlite.specs.Table.{Table}
use Rattle.sqlite_rules.specs.Lists.{Has}
use Rattle.sqlite_rules.proofs.ListLemmas.{all_has}
use Rattle.sqlite.specs.declared.types.Value.TheVariants as value
use Rattle.definitions.specs.Tables.{TableRow}
use Rattle.definitions.specs.Schema as schema
use Rattle.definitions.specs.Schema.{Schema}
use Rattle.definitions.specs.Changes.{changed_by, Puts, SetsState as Sets, Frees, with_state, is_reserved_for}
use Rattle.definitions.specs.Rows.{state_text}
use Rattle.book_statements.specs.declared.names.TableName.{TableName}
use Rattle.book_statements.specs.declared.names.TableName.TheVariants as table
use Rattle.book_statements.specs.Held.{values, entry_values}
use Rattle.book_statements.specs.Layout.{book_tables, book_trees}
use Rattle.book_statements.specs.Leading.{Keeps}
use Rattle.book_statements.specs.Standing.{Keying, Alone, ByRowid, ByColumns, keying_of, schema_of, layout_of, name_of, tree_of, width_of}
use Rattle.book_statements.specs.Standing.{Filled, TreesHold, HeldAs, AreOrdered, OrderedAs, with_rows, named, HasKey, IsRowIn, IsBySeq}
use Rattle.book_statements.specs.Steps.{WritesInto, Spares, PutByKey, TakenByKey, SetsState}
use Rattle.book_statements.proofs.Beside.{still_lies}
use Rattle.book_statements.proofs.EachTable.{listed, apart, each_table}
use Rattle.book_statements.proofs.PutRows.{put_old}
use Rattle.book_statements.proofs.HoldsLemmas.{put_ordered, put_holds, freed_ordered, freed_holds, stated_each, stated_ordered, stated_holds, seq_put}

-- a statement on one table leaves each other one as it was
pub spared : (t : TableName) (tree : ℕ) (old new : Database) → Spares tree old new → tree_of t ≢ tree → book_trees new (tree_of t) ≡ book_trees old (tree_of t)
spared t tree old new others = all_has (λ (u : Table). u.tree ≢ tree → book_trees new u.tree ≡ book_trees old u.tree) book_tables (layout_of t) others (listed t)

-- The trees hold these rows, but for one of them, of which that isn't said.
abbrev pub HeldBut : ℕ → Filled → Trees → Type 0
HeldBut tree f db = (t : TableName) → nat_eq tree (tree_of t) ≡ false → HeldAs (keying_of t) (f t) (db (tree_of t))

-- a statement on one table leaves the rows of the others
pub held_but : (tree : ℕ) (f : Filled) (old new : Database) → Spares tree old new → TreesHold f (book_trees old) → HeldBut tree f (book_trees new)
held_but tree f old new others held t other = subst (λ stored. HeldAs (keying_of t) (f t) stored) (sym (spared t tree old new others (λ e. apart tree (tree_of t) other (sym e)))) (held t)

-- rows in their order, among tables whose rows are
pub rows_ordered : (t : TableName) (rows : List TableRow) (f : Filled) → OrderedAs (keying_of t) (schema_of t) (width_of t) rows → ((row : TableRow) → Has rows row → IsRowIn t row) → AreOrdered f
    → AreOrdered (with_rows t rows f)
rows_ordered t rows f sorted shaped old = record {
  each = each_table (λ u us. OrderedAs (keying_of u) (schema_of u) (width_of u) us) t rows f sorted (λ u other. old.each u);
  shaped = each_table (λ u us. (row : TableRow) → Has us row → IsRowIn u row) t rows f shaped (λ u other. old.shaped u);
}

-- the rows of one table are replaced
module _ (t : TableName) (rows : List TableRow) (Rows : List Row → List Row → Type 0) (f : Filled) (old new : Database) (k : Keeps f old) (did : WritesInto (tree_of t) Rows old new) where
  pub keeps_with : HeldAs (keying_of t) rows (book_trees new (tree_of t)) → OrderedAs (keying_of t) (schema_of t) (width_of t) rows
      → ((row : TableRow) → Has rows row → IsRowIn t row) → Keeps (with_rows t rows f) new
  keeps_with held sorted shaped = record {
    schema = still_lies old.schema new.schema did.schema k.schema;
    sound = did.sound;
    rows = each_table (λ u us. HeldAs (keying_of u) us (book_trees new (tree_of u))) t rows f held (held_but (tree_of t) f old new did.others k.rows);
    ordered = rows_ordered t rows f sorted shaped k.ordered;
  }

-- A row is put into a table.

-- it fits the table's key, and it is stored as the table's rows are; that of `book` is never put
abbrev pub FitsAs : Keying → Schema → ℕ → TableRow → Type 0
FitsAs Alone s k row = ⊥
FitsAs ByRowid s k row = IsBySeq s row
FitsAs ByColumns s k row = HasKey s k row

abbrev pub PutAs : Keying → ℕ → TableRow → (List Row → List Row → Type 0)
PutAs Alone k row = λ before after. ⊥
PutAs ByRowid k row = λ before after. after ≡ put_row (entry_values row) before
PutAs ByColumns k row = PutByKey k (values row)

module _ (s : Schema) (k : ℕ) (row : TableRow) (rows : List TableRow) where
  put_held : (g : Keying) → OrderedAs g s k rows → FitsAs g s k row → (before after : List Row) → HeldAs g rows before → PutAs g k row before after → HeldAs g (schema.put_row s row rows) after
  put_held Alone sorted fits before after held put = absurd put
  put_held ByRowid sorted fits before after held put = put ∙ ap (put_row (entry_values row)) held ∙ sym (seq_put s row rows fits sorted)
  put_held ByColumns sorted fits before after held put = put_holds s k row rows sorted fits before after held put

  put_sorted : (g : Keying) → OrderedAs g s k rows → FitsAs g s k row → OrderedAs g s k (schema.put_row s row rows)
  put_sorted Alone sorted fits = tt
  put_sorted ByRowid sorted fits = λ r there. elim (put_old s row rows r there) [ inl new ↦ subst (IsBySeq s) (sym new) fits | inr old ↦ sorted r old ]
  put_sorted ByColumns sorted fits = put_ordered s k row rows sorted fits

put_named : (t : TableName) (row : TableRow) (f : Filled) → changed_by (named f) (Puts (name_of t) row ∷ []) ≡ named (with_rows t (schema.put_row (schema_of t) row (f t)) f)
put_named table.Book row f = refl
put_named table.Entry row f = refl
put_named table.Outgoing row f = refl
put_named table.Stock row f = refl
put_named table.Advice row f = refl
put_named table.AdviceLine row f = refl
put_named table.Orders row f = refl
put_named table.OrderLine row f = refl
put_named table.Reservation row f = refl
put_named table.EntryRules row f = refl
put_named table.LotExpiry row f = refl

pub leads_put : (t : TableName) (row : TableRow) (f : Filled) (old new : Database) → FitsAs (keying_of t) (schema_of t) (width_of t) row → IsRowIn t row → Keeps f old
    → WritesInto (tree_of t) (PutAs (keying_of t) (width_of t) row) old new → (g : Filled) × (changed_by (named f) (Puts (name_of t) row ∷ []) ≡ named g) × Keeps g new
leads_put t row f old new fits is k did =
    let rows = f t in
    let sorted = k.ordered.each t in
    let more = schema.put_row (schema_of t) row rows in (
      with_rows t more f,
      put_named t row f,
      keeps_with t more (PutAs (keying_of t) (width_of t) row) f old new k did
          (put_held (schema_of t) (width_of t) row rows (keying_of t) sorted fits (book_trees old (tree_of t)) (book_trees new (tree_of t)) (k.rows t) did.rows)
          (put_sorted (schema_of t) (width_of t) row rows (keying_of t) sorted fits)
          (λ r there. elim (put_old (schema_of t) row rows r there) [ inl new ↦ subst (IsRowIn t) (sym new) is | inr old ↦ k.ordered.shaped t r old ]),
    )

pub leads_state : (who : List ℕ) (n : ℕ) (said : Option Bool) (f : Filled) (old new : Database) → Keeps f old → WritesInto 4 (SetsState who (pos n) (state_text said)) old new
    → (g : Filled) × (changed_by (named f) (Sets who n said ∷ []) ≡ named g) × Keeps g new
leads_state who n said f old new k did =
    let rows = f table.Outgoing in
    let each = k.ordered.shaped table.Outgoing in
    let sorted = k.ordered.each table.Outgoing in (
      with_rows table.Outgoing (map (with_state who n (state_text said)) rows) f,
      refl,
      keeps_with table.Outgoing (map (with_state who n (state_text said)) rows) (SetsState who (pos n) (state_text said)) f old new k did
          (stated_holds who n (state_text said) rows each sorted (book_trees old 4) (book_trees new 4) (k.rows table.Outgoing) did.rows)
          (stated_ordered who n (state_text said) rows each sorted) (stated_each who n (state_text said) rows each sorted),
    )

pub leads_free : (who order : List ℕ) (f : Filled) (old new : Database) → Keeps f old → WritesInto 16 (TakenByKey 2 (value.Text who ∷ value.Text order ∷ [])) old new
    → (g : Filled) × (changed_by (named f) (Frees who order ∷ []) ≡ named g) × Keeps g new
leads_free who order f old new k did =
    let rows = f table.Reservation in (
      with_rows table.Reservation (filter (λ row. not (is_reserved_for who order row)) rows) f,
      refl,
      keeps_with table.Reservation (filter (λ row. not (is_reserved_for who order row)) rows) (TakenByKey 2 (value.Text who ∷ value.Text order ∷ [])) f old new k did
          (freed_holds who order rows (book_trees old 16) (book_trees new 16) (k.rows table.Reservation) did.rows)
          (freed_ordered who order rows (k.ordered.each table.Reservation)) (λ row there. tt),
    )
