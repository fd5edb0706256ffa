-- What making the tables does.
use Rattle.std.proofs.Common.{◌≡◌, codes, inl, inr, ℕ, pos, ◌≢◌, List, [], ◌∷◌, ◌++◌, take, drop, map, false, None, Ok, refl, sym, ap, subst, ◌∙◌}
use Rattle.std.specs.Prelude.{nat_eq}
use Rattle.std.specs.List.{AllByRecursion}
use Rattle.sqlite.specs.declared.types.Value.TheVariants as value
use Rattle.sqlite.specs.Table.{Table}
use Rattle.sqlite.specs.Schema.{Schema}
use Rattle.definitions.specs.Rules.{Today}
use Rattle.definitions.specs.Header.{Who}
use Rattle.definitions.specs.Accepted.{IsLegal}
use Rattle.book_statements.specs.Held.{Holds, entry_values}
use Rattle.book_statements.specs.declared.names.TableName.{TableName}
use Rattle.book_statements.specs.declared.names.TableName.TheVariants as table
use Rattle.book_statements.specs.Standing.{Keying, Alone, ByRowid, ByColumns, keying_of, layout_of, tree_of, all_tables, Filled, filled, HeldAs, TreesHold}
use Rattle.book_statements.specs.Exits.{HasGrown}
use Rattle.sqlite.specs.Order.{Row}
use Rattle.sqlite.specs.Command.TheVariants.{CreateTable}
use Rattle.sqlite.specs.Change.{created}
use Rattle.sqlite.specs.Does.{Tally, lacks_sequence}
use Rattle.sqlite.specs.Effect.{Database, IsDatabase}
use Rattle.sqlite.specs.State.{State, Writes, ExecutesIn, Executes}
use Rattle.sqlite.specs.Listing.{understood}
use Rattle.sqlite.specs.Given.{IsPlain}
use Rattle.sqlite.specs.Compile.{table_defined_by}
use Rattle.sqlite_catalog.specs.Calls.{CreatesTable}
use Rattle.sqlite_catalog.specs.Change.{next_tree, is_used}
use Rattle.sqlite_catalog.specs.Listing.{IsSound}
use Rattle.sqlite_resolve.specs.declared.compiled.Compiled.{Compiled}
use Rattle.sqlite_rules.specs.Lists.{Has}
use Rattle.sqlite_rules.proofs.ListLemmas.{all_has}
use Rattle.sqlite_rules.proofs.ProbeLemmas.{mapped_has}
use Rattle.sqlite.proofs.Callers.{command_of, statement_of, runs_as}
use Rattle.book_statements.specs.Layout.{book_text, entry_text, outgoing_text, stock_text, advice_text, advice_line_text, orders_text, order_line_text, reservation_text, entry_rules_text, lot_expiry_text}
use Rattle.book_statements.specs.Layout.{book_layout, entry_layout, outgoing_layout, stock_layout, advice_layout, advice_line_layout, orders_layout, order_line_layout, reservation_layout, entry_rules_layout, lot_expiry_layout}
use Rattle.book_statements.specs.Layout.{first_layouts, first_tables, book_tables, book_trees, rules_tree, expiry_tree, entry_rules_at, lot_expiry_at, IsLayout}
use Rattle.book_statements.specs.Making.{HasMade, HasBook}
use Rattle.book_statements.specs.Carrying.{Widens}
use Rattle.book_statements.proofs.MakingTexts.{at_first, Makes, compiles, defines}
use Rattle.book_statements.proofs.MakingTexts.{book_makes, entry_makes, outgoing_makes, stock_makes, advice_makes, advice_line_makes, orders_makes, order_line_makes, reservation_makes, entry_rules_makes, lot_expiry_makes}
use Rattle.book_statements.proofs.Understood.{command_is, statement_is, plain_is}
use Rattle.book_statements.proofs.WritingTexts.{insert_book_text}
use Rattle.book_statements.proofs.Beside.{lies_alone, empty_alone, has_first}
use Rattle.book_statements.proofs.ListsGrown.{has_last}
use Rattle.book_statements.proofs.Widening.{rules_tree_is, expiry_tree_is, widened_layout, still_counted}
use Rattle.book_statements.proofs.MakingAnywhere.{MakesTable, entry_rules_made, lot_expiry_made}
use Rattle.book_statements.proofs.Inserts.{inserts_book}
use Rattle.book_statements.proofs.EachTable.{apart, listed}
use Rattle.book_statements.proofs.Ordered.{all_ordered}
use Rattle.sqlite.specs.Edit.{next_rowid}
use Rattle.sqlite.specs.Tree.{Trees, put_row}
use Rattle.book_statements.proofs.Values.{went, same_value}

-- a table was made, and no other was written
creates : (sql : List ℕ) (before after : Schema) (table : Table) (old new : State) (count : ℕ) → old.now.schema ≡ before
    → (command_of (understood before sql) ≡ CreateTable) × (statement_of sql (understood before sql) ≡ sql) → IsPlain (understood before sql) → table_defined_by sql ≡ Ok table
    → created before table ≡ after → lacks_sequence after ≡ false
    → Executes sql [] old new (Ok count)
    → IsDatabase new.now × (new.now.schema ≡ after) × CreatesTable before sql old.now.trees after new.now.trees
creates sql before after table old new count has is plain_text defined makes lone h =
    let w = subst (λ t. Writes old new None CreateTable t [] count) is.1 (runs_as sql [] old new before has CreateTable is.0 plain_text count h) in
    let all = went w.changed in
    let first = went all.1 in
    let made = subst (λ s. CreatesTable s sql old.now.trees first.0.schema first.0.trees) has first.1 in
    let both : Ok made.table ≡ Ok table = sym made.defined ∙ defined in
    let same : made.table ≡ table = same_value both in
    let schema : first.0.schema ≡ after = made.is ∙ ap (created before) same ∙ makes in
    let plain : lacks_sequence first.0.schema ≡ false = ap lacks_sequence schema ∙ lone in
    let now : new.now ≡ first.0 = ap (λ (p : Tally × Database). p.1) (same_value all.2) ∙ same_value (rw plain at first.2) in (
      w.sound,
      ap (λ (d : Database). d.schema) now ∙ schema,
      subst (λ (d : Database). CreatesTable before sql old.now.trees after d.trees) (sym now) (subst (λ s. CreatesTable before sql old.now.trees s first.0.trees) schema made),
    )

-- the same under the schema that the tables before it have
creates_next : (sql : List ℕ) (before after : Schema) (table : Table) (old new : State) (count : ℕ) → old.now.schema ≡ before
    → Makes before sql table → created before (at_first table) ≡ after → lacks_sequence after ≡ false
    → Executes sql [] old new (Ok count)
    → IsDatabase new.now × (new.now.schema ≡ after) × CreatesTable before sql old.now.trees after new.now.trees
creates_next sql before after table old new count has makes =
    let is = compiles before sql table makes in
    creates sql before after (at_first table) old new count has (command_is before sql 0 CreateTable is, statement_is before sql 0 CreateTable is)
    (plain_is before sql 0 CreateTable is) (defines before sql table makes)

-- the tables that were empty are so still, and so is one more
empty_after : (ts : List Table) (t : Table) (old new : Trees) → AllByRecursion (λ (u : Table). new u.tree ≡ old u.tree) ts → AllByRecursion (λ (u : Table). old u.tree ≡ []) ts → new t.tree ≡ []
    → AllByRecursion (λ (u : Table). new u.tree ≡ []) (ts ++ t ∷ [])
empty_after [] t old new same was here = (here, tt)
empty_after (u ∷ ts) t old new same was here = (same.0 ∙ was.0, empty_after ts t old new same.1 was.1 here)

-- and so are those that a write elsewhere spares
empty_still : (ts : List Table) (n : ℕ) (old new : Trees) → AllByRecursion (λ (t : Table). nat_eq t.tree n ≡ false) ts → AllByRecursion (λ (t : Table). t.tree ≢ n → new t.tree ≡ old t.tree) ts
    → AllByRecursion (λ (t : Table). old t.tree ≡ []) ts → AllByRecursion (λ (t : Table). new t.tree ≡ []) ts
empty_still [] n old new others same was = tt
empty_still (t ∷ ts) n old new others same was = (same.0 (apart t.tree n others.0) ∙ was.0, empty_still ts n old new others.1 same.1 was.1)

pub made_first : (a b c d : State) (m n o : ℕ) → HasMade 0 0 a.now → Executes book_text [] a b (Ok m) → Executes entry_text [] b c (Ok n) → Executes outgoing_text [] c d (Ok o)
    → HasMade 3 3 d.now × IsDatabase d.now
made_first a b c d m n o was p q r =
    let x = creates_next book_text (first_layouts 0 0) (first_layouts 1 0) book_layout a b m was.schema book_makes refl refl p in
    let y = creates_next entry_text (first_layouts 1 0) (first_layouts 2 2) entry_layout b c n x.1 entry_makes refl refl q in
    let z = creates_next outgoing_text (first_layouts 2 2) (first_layouts 3 3) outgoing_layout c d o y.1 outgoing_makes refl refl r in
    let one = empty_after (take 0 book_tables) book_layout a.now.trees b.now.trees x.2.others was.empty x.2.empty in
    let two = empty_after (take 1 book_tables) entry_layout b.now.trees c.now.trees y.2.others one y.2.empty in (
      record {
        schema = z.1;
        empty = empty_after (take 2 book_tables) outgoing_layout c.now.trees d.now.trees z.2.others two z.2.empty;
      },
      z.0,
    )

pub made_second : (a b c d : State) (m n o : ℕ) → HasMade 3 3 a.now → Executes stock_text [] a b (Ok m) → Executes advice_text [] b c (Ok n) → Executes advice_line_text [] c d (Ok o)
    → HasMade 6 6 d.now × IsDatabase d.now
made_second a b c d m n o was p q r =
    let x = creates_next stock_text (first_layouts 3 3) (first_layouts 4 4) stock_layout a b m was.schema stock_makes refl refl p in
    let y = creates_next advice_text (first_layouts 4 4) (first_layouts 5 5) advice_layout b c n x.1 advice_makes refl refl q in
    let z = creates_next advice_line_text (first_layouts 5 5) (first_layouts 6 6) advice_line_layout c d o y.1 advice_line_makes refl refl r in
    let one = empty_after (take 3 book_tables) stock_layout a.now.trees b.now.trees x.2.others was.empty x.2.empty in
    let two = empty_after (take 4 book_tables) advice_layout b.now.trees c.now.trees y.2.others one y.2.empty in (
      record {
        schema = z.1;
        empty = empty_after (take 5 book_tables) advice_line_layout c.now.trees d.now.trees z.2.others two z.2.empty;
      },
      z.0,
    )

pub made_third : (a b c d : State) (m n o : ℕ) → HasMade 6 6 a.now → Executes orders_text [] a b (Ok m) → Executes order_line_text [] b c (Ok n) → Executes reservation_text [] c d (Ok o)
    → HasMade 9 9 d.now × IsDatabase d.now
made_third a b c d m n o was p q r =
    let x = creates_next orders_text (first_layouts 6 6) (first_layouts 7 7) orders_layout a b m was.schema orders_makes refl refl p in
    let y = creates_next order_line_text (first_layouts 7 7) (first_layouts 8 8) order_line_layout b c n x.1 order_line_makes refl refl q in
    let z = creates_next reservation_text (first_layouts 8 8) (first_layouts 9 9) reservation_layout c d o y.1 reservation_makes refl refl r in
    let one = empty_after (take 6 book_tables) orders_layout a.now.trees b.now.trees x.2.others was.empty x.2.empty in
    let two = empty_after (take 7 book_tables) order_line_layout b.now.trees c.now.trees y.2.others one y.2.empty in (
      record {
        schema = z.1;
        empty = empty_after (take 8 book_tables) reservation_layout c.now.trees d.now.trees z.2.others two z.2.empty;
      },
      z.0,
    )

pub made_fourth : (a b c : State) (m n : ℕ) → HasMade 9 9 a.now → Executes entry_rules_text [] a b (Ok m) → Executes lot_expiry_text [] b c (Ok n) → HasMade 11 10 c.now × IsDatabase c.now
made_fourth a b c m n was p q =
    let x = creates_next entry_rules_text (first_layouts 9 9) (first_layouts 10 9) entry_rules_layout a b m was.schema entry_rules_makes refl refl p in
    let y = creates_next lot_expiry_text (first_layouts 10 9) (first_layouts 11 10) lot_expiry_layout b c n x.1 lot_expiry_makes refl refl q in
    let one = empty_after (take 9 book_tables) entry_rules_layout a.now.trees b.now.trees x.2.others was.empty x.2.empty in (
      record {
        schema = y.1;
        empty = empty_after (take 10 book_tables) lot_expiry_layout b.now.trees c.now.trees y.2.others one y.2.empty;
      },
      y.0,
    )

-- a table that holds nothing
holds_none : Holds [] []
holds_none = record { rise = tt; sound = λ row none. absurd none; complete = λ cells none. absurd none }

-- the same under any schema
creates_any : (sql : List ℕ) (table : Table) (old new : State) (count : ℕ) → ((c : Compiled) → understood old.now.schema sql ≡ Ok c → MakesTable old.now.schema sql table.name c)
    → table_defined_by sql ≡ Ok table → lacks_sequence (created old.now.schema table) ≡ false → Executes sql [] old new (Ok count)
    → IsDatabase new.now × (new.now.schema ≡ created old.now.schema table) × CreatesTable old.now.schema sql old.now.trees (created old.now.schema table) new.now.trees × (is_used old.now.schema table.name ≡ false)
unfolding ExecutesIn
creates_any sql table old new count meant defined lone h =
    let before = old.now.schema in
    let is = meant h.0 h.1.is in
    let known : understood before sql ≡ Ok h.0 = h.1.is in
    let made = creates sql before (created before table) table old new count refl (ap command_of known ∙ is.0, ap (statement_of sql) known ∙ is.3) (subst IsPlain (sym known) (is.1, is.2)) defined refl lone h in
    (made.0, made.1, made.2, is.4)

-- the two tables that version 2 has come to those of version 1, whatever these hold and whatever
-- stands after them
pub widened : (a b c : State) (m n : ℕ) → Executes entry_rules_text [] a b (Ok m) → Executes lot_expiry_text [] b c (Ok n) → Widens a.now c.now
widened a b c m n p q f was =
    let lies = was.schema in
    let s = a.now.schema in
    let one = created s (entry_rules_at 0) in
    let lone = still_counted s (entry_rules_at 0) refl lies.counted in
    let x = creates_any entry_rules_text (entry_rules_at 0) a b m (entry_rules_made s) (defines (first_layouts 9 9) entry_rules_text entry_rules_layout entry_rules_makes) lone p in
    let lone_too = subst (λ (z : Schema). lacks_sequence (created z (lot_expiry_at 0)) ≡ false) (sym x.1) (still_counted one (lot_expiry_at 0) refl lone) in
    let y = creates_any lot_expiry_text (lot_expiry_at 0) b c n (lot_expiry_made b.now.schema) (defines (first_layouts 10 9) lot_expiry_text lot_expiry_layout lot_expiry_makes) lone_too q in
    let two = created one (lot_expiry_at 0) in
    let last : c.now.schema ≡ two = y.1 ∙ ap (λ (z : Schema). created z (lot_expiry_at 0)) x.1 in
    let free_too = subst (λ (z : Schema). is_used z (codes "lot_expiry") ≡ false) x.1 y.3 in
    let sound_after : IsSound two c.now.trees = subst (λ (z : Schema). IsSound z c.now.trees) last y.0 in
    let layout = widened_layout s lies a.now.trees was.sound x.3 free_too c.now.trees sound_after in
    let kept : (t : Table) → Has s.tables t → c.now.trees t.tree ≡ a.now.trees t.tree = λ t h.
    all_has (λ (u : Table). c.now.trees u.tree ≡ b.now.trees u.tree) b.now.schema.tables t (let made = y.2 in made.others) (subst (λ (z : Schema). Has z.tables t) (sym x.1) (has_first s.tables (entry_rules_at (next_tree s) ∷ []) t h))
    ∙ all_has (λ (u : Table). b.now.trees u.tree ≡ a.now.trees u.tree) s.tables t (let made = x.2 in made.others) h in
    let first : (t : Table) → Has first_tables t → c.now.trees t.tree ≡ a.now.trees t.tree = λ t h. kept t (let others = lies.others in subst (λ (z : Schema). Has z.tables t) (sym lies.is) (has_first first_tables others.tables t h)) in
    let rules_empty : c.now.trees (next_tree s) ≡ [] =
    all_has (λ (u : Table). c.now.trees u.tree ≡ b.now.trees u.tree) b.now.schema.tables (entry_rules_at (next_tree s)) (let made = y.2 in made.others) (subst (λ (z : Schema). Has z.tables (entry_rules_at (next_tree s))) (sym x.1) (has_last s.tables (entry_rules_at (next_tree s) ∷ []) (entry_rules_at (next_tree s)) (inl refl)))
    ∙ (let made = x.2 in made.empty) in
    let dates_empty : c.now.trees (next_tree one) ≡ [] = subst (λ (z : Schema). c.now.trees (next_tree z) ≡ []) x.1 (let made = y.2 in made.empty) in
    let rules_at : rules_tree c.now.schema ≡ next_tree s = ap rules_tree last ∙ rules_tree_is s lies a.now.trees was.sound x.3 free_too c.now.trees sound_after in
    let dates_at : expiry_tree c.now.schema ≡ next_tree one = ap expiry_tree last ∙ expiry_tree_is s lies a.now.trees was.sound x.3 free_too c.now.trees sound_after in
    let still : (t : TableName) → Has (take 9 all_tables) t → HeldAs (keying_of t) (f t) (c.now.trees (tree_of t)) = λ t there.
    subst (λ stored. HeldAs (keying_of t) (f t) stored) (sym (first (layout_of t) (mapped_has layout_of (take 9 all_tables) t there)))
    (all_has (λ (u : TableName). HeldAs (keying_of u) (f u) (a.now.trees (tree_of u))) (take 9 all_tables) t was.rows there) in
    record {
      schema = subst IsLayout (sym last) layout;
      sound = y.0;
      rows = each_held f c.now still (ap c.now.trees rules_at ∙ rules_empty ∙ sym (ap (map entry_values) was.rules))
          (subst (λ rows. Holds rows (c.now.trees (expiry_tree c.now.schema))) (sym was.dates) (subst (Holds []) (sym (ap c.now.trees dates_at ∙ dates_empty)) holds_none));
      ordered = was.ordered;
    }
  where
    each_held : (f : Filled) (c : Database) → ((t : TableName) → Has (take 9 all_tables) t → HeldAs (keying_of t) (f t) (c.trees (tree_of t)))
        → c.trees (rules_tree c.schema) ≡ map entry_values (f table.EntryRules) → Holds (f table.LotExpiry) (c.trees (expiry_tree c.schema)) → TreesHold f (book_trees c)
    each_held f c still rules dates table.Book = still table.Book (inl refl)
    each_held f c still rules dates table.Entry = still table.Entry (inr (inl refl))
    each_held f c still rules dates table.Outgoing = still table.Outgoing (inr (inr (inl refl)))
    each_held f c still rules dates table.Stock = still table.Stock (inr (inr (inr (inl refl))))
    each_held f c still rules dates table.Advice = still table.Advice (inr (inr (inr (inr (inl refl)))))
    each_held f c still rules dates table.AdviceLine = still table.AdviceLine (inr (inr (inr (inr (inr (inl refl))))))
    each_held f c still rules dates table.Orders = still table.Orders (inr (inr (inr (inr (inr (inr (inl refl)))))))
    each_held f c still rules dates table.OrderLine = still table.OrderLine (inr (inr (inr (inr (inr (inr (inr (inl refl))))))))
    each_held f c still rules dates table.Reservation = still table.Reservation (inr (inr (inr (inr (inr (inr (inr (inr (inl refl)))))))))
    each_held f c still rules dates table.EntryRules = rules
    each_held f c still rules dates table.LotExpiry = dates

-- the row of `book`
pub made_book : (a b : State) (m : ℕ) (qualifier id : List ℕ) → HasMade 11 10 a.now → Executes insert_book_text (value.Int (pos 2) ∷ value.Text qualifier ∷ value.Text id ∷ []) a b (Ok m) → HasBook qualifier id b.now
made_book a b m qualifier id was h =
    let it = inserts_book (pos 2) qualifier id a b m (lies_alone a.now.schema was.schema) h in
    record {
      schema = it.schema ∙ was.schema;
      sound = it.sound;
      book = it.rows ∙ ap (λ (rows : List Row). put_row (value.Int (next_rowid rows) ∷ value.Int (pos 2) ∷ value.Text qualifier ∷ value.Text id ∷ []) rows) (let all = was.empty in all.0);
      empty = empty_still (drop 1 book_tables) 0 (book_trees a.now) (book_trees b.now) (refl, (refl, (refl, (refl, (refl, (refl, (refl, (refl, (refl, (refl, tt)))))))))) it.others.1
          (empty_alone a.now.schema a.now.trees was.schema was.empty.1);
    }

-- the tables of an empty register

-- no rows are held by a table that holds nothing
holds_nothing : (g : Keying) (stored : List Row) → stored ≡ [] → HeldAs g [] stored
holds_nothing Alone stored none = none
holds_nothing ByRowid stored none = none
holds_nothing ByColumns stored none = subst (Holds []) (sym none) holds_none

pub stands_empty : (W : Who) (s : State) → IsLegal Today W [] → HasBook W.qualifier W.id s.now → HasGrown s W []
stands_empty W s legal h =
    record {
      stands = record { legal = legal; schema = lies_alone s.now.schema h.schema; rows = by };
      sound = h.sound;
      ordered = all_ordered W [];
    }
  where
    -- all but the first, which is `book`
    others : (t : TableName) → nat_eq (tree_of t) 0 ≡ false → Has (drop 1 book_tables) (layout_of t)
    others t other = elim (listed t) [
      | inl first ↦ absurd (apart (tree_of t) 0 other (ap (λ (u : Table). u.tree) first))
      | inr there ↦ there
    ]

    none : (t : TableName) → nat_eq (tree_of t) 0 ≡ false → HeldAs (keying_of t) [] (book_trees s.now (tree_of t))
    none t other = holds_nothing (keying_of t) (book_trees s.now (tree_of t)) (all_has (λ (u : Table). book_trees s.now u.tree ≡ []) (drop 1 book_tables) (layout_of t) h.empty (others t other))

    by : TreesHold (filled W []) (book_trees s.now)
    by table.Book = h.book
    by table.Entry = none table.Entry refl
    by table.Outgoing = none table.Outgoing refl
    by table.Stock = none table.Stock refl
    by table.Advice = none table.Advice refl
    by table.AdviceLine = none table.AdviceLine refl
    by table.Orders = none table.Orders refl
    by table.OrderLine = none table.OrderLine refl
    by table.Reservation = none table.Reservation refl
    by table.EntryRules = none table.EntryRules refl
    by table.LotExpiry = none table.LotExpiry refl
