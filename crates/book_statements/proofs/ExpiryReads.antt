-- The texts that choose rows of lot_expiry, under any schema in which the table stands.
use Rattle.std.proofs.Common.{◌≡◌, codes, ℕ, suc, ◌-◌, List, [], ◌∷◌, ◌++◌, refl, Some, None, Option, length, Ok, true, false, ◌∙◌, ap}
use Rattle.std.specs.Prelude.{nat_lt}
use Rattle.sqlite.specs.declared.types.Value.TheVariants.{Null}
use Rattle.sqlite.specs.Command.TheVariants.{Select}
use Rattle.sqlite.specs.Collation.TheVariants.{Binary}
use Rattle.sqlite.specs.Kind.TheVariants.{Text}
use Rattle.sqlite.specs.Schema.{Schema}
use Rattle.sqlite.specs.Term.{Term, col, op2}
use Rattle.sqlite.specs.Listing.{understood, reads_listing}
use Rattle.sqlite.proofs.Callers.{command_of}
use Rattle.sqlite_value.specs.declared.keys.Key.{Key}
use Rattle.sqlite_value.specs.Keys.{ascending}
use Rattle.sqlite_sql.specs.declared.ops.BinaryOp.TheVariants.{Compare, And}
use Rattle.sqlite_sql.specs.declared.ops.CompareOp.TheVariants.{Eq}
use Rattle.sqlite_schema.specs.Names.{same_name}
use Rattle.sqlite_schema.specs.declared.schema.Column.{Column}
use Rattle.sqlite_ast.specs.declared.Expr.{Expr}
use Rattle.sqlite_ast.specs.declared.Expr.TheVariants as expr
use Rattle.sqlite_ast.specs.declared.Binary.TheVariants as binary
use Rattle.sqlite_resolve.specs.declared.scope.Bound.{Bound}
use Rattle.sqlite_resolve.specs.declared.scope.Output.{Output}
use Rattle.sqlite_resolve.specs.declared.state.Carried.{Carried}
use Rattle.sqlite_resolve.specs.declared.compare.Affinity.TheVariants as affinity
use Rattle.sqlite_resolve.specs.Lowering.{nothing, alone, chosen, first_found}
use Rattle.sqlite_resolve.specs.Scope.{Name, Context, alias_of}
use Rattle.sqlite_resolve.specs.Body as body
use Rattle.sqlite_resolve.specs.Order as ordering
use Rattle.sqlite_resolve.specs.Compare.{compared, converted, affinity_of, of_column, spelled}
use Rattle.sqlite_resolve.specs.Select.{outermost}
use Rattle.sqlite_resolve.specs.Expr.{lower, lower_to}
use Rattle.book_statements.specs.Layout.{StandsAt, lot_expiry_at}
use Rattle.book_statements.proofs.SelectedViews.{views}
use Rattle.book_statements.proofs.NeedTexts.{dates_text}
use Rattle.book_statements.proofs.SelectedTexts.{equals, core_from, sorts, shows, whole_dates_text, whole_dates_first, dates_first}
use Rattle.book_statements.proofs.ShowingTexts.{all_dates_text}
use Rattle.book_statements.proofs.SelectedTexts.{all_dates_first}
use Rattle.book_statements.proofs.SelectedColumns.{bound_at, context_in, state_of, HasColumn, affinity_is, lower_level, node_and}
use Rattle.book_statements.proofs.SelectedParts.{matching_all, matching_some, of_tree, Opens}
use Rattle.book_statements.proofs.ReadingTexts.{ordered_from}
use Rattle.book_statements.proofs.RulesReads.{columns_more, keys_more, one_equals, chosen_is}

-- The table.

abbrev pub text_column : Name → Column
text_column name = record { name = name; kind = Text; is_strict = true; not_null = true; default = Null; collation = Binary }

abbrev who : Name
who = codes "who"

abbrev item : Name
item = codes "item"

abbrev lot : Name
lot = codes "lot"

abbrev expiry : Name
expiry = codes "expiry"

has_who : (tree : ℕ) → HasColumn (lot_expiry_at tree) who 0 (text_column who)
unfolding same_name
has_who tree = record { found = refl; there = refl }

has_item : (tree : ℕ) → HasColumn (lot_expiry_at tree) item 1 (text_column item)
unfolding same_name
has_item tree = record { found = refl; there = refl }

has_lot : (tree : ℕ) → HasColumn (lot_expiry_at tree) lot 2 (text_column lot)
unfolding same_name
has_lot tree = record { found = refl; there = refl }

has_expiry : (tree : ℕ) → HasColumn (lot_expiry_at tree) expiry 3 (text_column expiry)
unfolding same_name
has_expiry tree = record { found = refl; there = refl }

abbrev text_carried : Carried
text_carried = record { collation = Some Binary; is_written = false }

-- a column of the row, from the least to the greatest
abbrev pub rising : ℕ → Term × Key
rising at = (col 1 at, ascending Binary)

-- a column of the row is a parameter
abbrev pub is_given : ℕ → ℕ → Term
is_given at n = op2 (Compare Eq Binary) (col 1 at) (col 0 n)

module _ (schema : Schema) (at tree : ℕ) (s : StandsAt schema at (lot_expiry_at tree)) where
  abbrev inside_with : List Output → Context
  inside_with outputs = context_in schema (codes "lot_expiry") at outputs false

  abbrev text_output : ℕ → Name → Output
  text_output at name = record { name = name; is_alias = false; is_column = true; term = col 1 at; carried = text_carried }

  -- a text is compared with a parameter as it is
  text_compared : (k n : ℕ) (outputs : List Output) → affinity_of (inside_with outputs) (col 0 n) ≡ affinity.None → affinity_of (inside_with outputs)
      (col 1 (suc k)) ≡ affinity.Text
      → compared (inside_with outputs) (Compare Eq (chosen text_carried nothing)) (col 1 (suc k)) (col 0 n) ≡ is_given (suc k) n
  unfolding compared converted spelled chosen first_found
  text_compared k n outputs free is = rw (is) (rw (free) refl)

  first_free : (outputs : List Output) → affinity_of (inside_with outputs) (col 0 0) ≡ affinity.None
  unfolding affinity_of of_column
  first_free outputs = refl

  second_free : (outputs : List Output) → affinity_of (inside_with outputs) (col 0 1) ≡ affinity.None
  unfolding affinity_of of_column
  second_free outputs = refl

  -- who = ?1
  who_given : (depth budget : ℕ) (last : Carried) (outputs : List Output) → nat_lt 1 budget ≡ true → nat_lt 1 (budget - 1) ≡ true
      → nat_lt 1 (budget - 1 - 1) ≡ true
      → lower_to (suc (suc depth)) (inside_with outputs) (equals who 1) (state_of 2 budget last)
      ≡ Ok (is_given 1 0, state_of 2 (budget - 1 - 1 - 1) nothing)
  who_given depth budget last outputs first second third =
      one_equals schema at (lot_expiry_at tree) s who 0 (text_column who) (has_who tree) budget last first depth outputs 1 second third
      ∙ ap (λ (x : Term). Ok (x, state_of 2 (budget - 1 - 1 - 1) nothing)) (text_compared 0 0 outputs (first_free outputs)
      (affinity_is schema at (lot_expiry_at tree) s 0 (text_column who) outputs false refl))

  -- item = ?2
  item_given : (depth budget : ℕ) (last : Carried) (outputs : List Output) → nat_lt 1 budget ≡ true → nat_lt 1 (budget - 1) ≡ true
      → nat_lt 1 (budget - 1 - 1) ≡ true
      → lower_to (suc (suc depth)) (inside_with outputs) (equals item 2) (state_of 2 budget last)
      ≡ Ok (is_given 2 1, state_of 2 (budget - 1 - 1 - 1) nothing)
  item_given depth budget last outputs first second third =
      one_equals schema at (lot_expiry_at tree) s item 1 (text_column item) (has_item tree) budget last first depth outputs 2 second third
      ∙ ap (λ (x : Term). Ok (x, state_of 2 (budget - 1 - 1 - 1) nothing)) (text_compared 1 1 outputs (second_free outputs)
      (affinity_is schema at (lot_expiry_at tree) s 1 (text_column item) outputs false refl))

  -- who = ?1 AND item = ?2
  both_given : (outputs : List Output)
      → lower (inside_with outputs) (expr.Binary binary.And (equals who 1) (equals item 2)) (state_of 2 99997 text_carried)
      ≡ Ok (op2 And (is_given 1 0) (is_given 2 1), state_of 2 99990 nothing)
  both_given outputs =
      lower_level 699 (inside_with outputs) (expr.Binary binary.And (equals who 1) (equals item 2)) (state_of 2 99997 text_carried)
      ∙ node_and (lower_to 699) (inside_with outputs) (equals who 1) (equals item 2) (is_given 1 0) (is_given 2 1) 2 99997 99993 99990 text_carried nothing
      nothing refl
      (who_given 697 99996 nothing outputs refl refl refl) (item_given 697 99993 nothing outputs refl refl refl)

  -- The columns of the result.

  abbrev tables_from : List Bound
  tables_from = bound_at (codes "lot_expiry") at ∷ []

  abbrev dates_outputs : List Output
  dates_outputs = text_output 2 item ∷ text_output 3 lot ∷ text_output 4 expiry ∷ []

  abbrev whole_outputs : List Output
  whole_outputs = text_output 1 who ∷ dates_outputs

  later_shown : (done : List Output) (budget : ℕ) → nat_lt 1 budget ≡ true → nat_lt 1 (budget - 1) ≡ true → nat_lt 1 (budget - 1 - 1) ≡ true
      → (last : Carried)
      → body.outputs_from lower (context_in schema (codes "lot_expiry") at [] true) tables_from done (shows (item ∷ lot ∷ expiry ∷ []))
      (state_of 2 budget last)
      ≡ Ok (((done ++ text_output 2 item ∷ []) ++ text_output 3 lot ∷ []) ++ text_output 4 expiry ∷ [], state_of 2 (budget - 1 - 1 - 1) text_carried)
  later_shown done budget first second third last =
      columns_more schema at (lot_expiry_at tree) s item 1 (text_column item) (has_item tree) budget last first tables_from done (lot ∷ expiry ∷ []) _
      (columns_more schema at (lot_expiry_at tree) s lot 2 (text_column lot) (has_lot tree) (budget - 1) text_carried second tables_from
      (done ++ text_output 2 item ∷ []) (expiry ∷ []) _
      (columns_more schema at (lot_expiry_at tree) s expiry 3 (text_column expiry) (has_expiry tree) (budget - 1 - 1) text_carried third tables_from
      ((done ++ text_output 2 item ∷ []) ++ text_output 3 lot ∷ []) [] _ refl))

  dates_shown : (filter : Option Expr)
      → body.result lower (outermost schema) (record { tables = tables_from; shown = [] }) (core_from (codes "lot_expiry") (item ∷ lot ∷ expiry ∷ [])
      filter) (state_of 2 100000 nothing)
      ≡ Ok (dates_outputs, state_of 2 99997 text_carried)
  unfolding body.result body.outputs views
  dates_shown filter = later_shown [] 100000 refl refl refl nothing

  whole_shown : body.result lower (outermost schema) (record { tables = tables_from; shown = [] })
      (core_from (codes "lot_expiry") (who ∷ item ∷ lot ∷ expiry ∷ []) None) (state_of 2 100000 nothing)
      ≡ Ok (whole_outputs, state_of 2 99996 text_carried)
  unfolding body.result body.outputs views
  whole_shown =
      columns_more schema at (lot_expiry_at tree) s who 0 (text_column who) (has_who tree) 100000 nothing refl tables_from [] (item ∷ lot ∷ expiry ∷ []) _
      (later_shown (text_output 1 who ∷ []) 99999 refl refl refl text_carried)

  -- The keys.

  later_sorted : (outputs : List Output) (done : List (Term × Key)) (budget : ℕ) → nat_lt 1 budget ≡ true → nat_lt 1 (budget - 1) ≡ true → (last : Carried)
      → alias_of item outputs ≡ None → alias_of lot outputs ≡ None
      → ordering.sorts_from lower (inside_with outputs) outputs done (sorts (item ∷ lot ∷ [])) (state_of 2 budget last)
      ≡ Ok ((done ++ rising 2 ∷ []) ++ rising 3 ∷ [], state_of 2 (budget - 1 - 1) text_carried)
  unfolding alone
  later_sorted outputs done budget first second last no_item no_lot =
      keys_more schema at (lot_expiry_at tree) s item 1 (text_column item) (has_item tree) budget last first outputs done (lot ∷ []) _ no_item
      (keys_more schema at (lot_expiry_at tree) s lot 2 (text_column lot) (has_lot tree) (budget - 1) text_carried second outputs (done ++ rising 2 ∷ [])
      [] _ no_lot refl)

  whole_sorted : ordering.sorts_from lower (inside_with whole_outputs) whole_outputs [] (sorts (who ∷ item ∷ lot ∷ [])) (state_of 2 99996 text_carried)
      ≡ Ok (rising 1 ∷ rising 2 ∷ rising 3 ∷ [], state_of 2 99993 text_carried)
  unfolding alone
  whole_sorted =
      keys_more schema at (lot_expiry_at tree) s who 0 (text_column who) (has_who tree) 99996 text_carried refl whole_outputs [] (item ∷ lot ∷ []) _ refl
      (later_sorted whole_outputs (rising 1 ∷ []) 99995 refl refl text_carried refl refl)

  -- The texts.

  whole_opens : Opens (codes "lot_expiry") (who ∷ item ∷ lot ∷ expiry ∷ []) None (who ∷ item ∷ lot ∷ [])
  unfolding views
  whole_opens = refl

  dates_opens : Opens (codes "lot_expiry") (item ∷ lot ∷ expiry ∷ []) (Some (expr.Binary binary.And (equals who 1) (equals item 2))) (item ∷ lot ∷ [])
  unfolding views
  dates_opens = refl

  all_dates_opens : Opens (codes "lot_expiry") (item ∷ lot ∷ expiry ∷ []) (Some (equals who 1)) (item ∷ lot ∷ [])
  unfolding views
  all_dates_opens = refl

  -- SELECT who, item, lot, expiry FROM lot_expiry ORDER BY who, item, lot
  pub whole_dates_is : (command_of (understood schema whole_dates_text)
      ≡ Select (record { lets = []; body = ordered_from tree [] (col 1 1 ∷ col 1 2 ∷ col 1 3 ∷ col 1 4 ∷ []) (rising 1 ∷ rising 2 ∷ rising 3 ∷ []) })
      (codes "who" ∷ codes "item" ∷ codes "lot" ∷ codes "expiry" ∷ []))
      × (reads_listing schema whole_dates_text ≡ false)
  whole_dates_is =
      chosen_is schema at (lot_expiry_at tree) s (of_tree schema at (lot_expiry_at tree) s) (who ∷ item ∷ lot ∷ expiry ∷ []) None (who ∷ item ∷ lot ∷ []) whole_outputs [] (rising 1 ∷ rising 2
      ∷ rising 3 ∷ []) 99996 99996 99993
      text_carried text_carried text_carried whole_shown
      (matching_all schema at (lot_expiry_at tree) s lower (who ∷ item ∷ lot ∷ expiry ∷ []) whole_outputs (state_of 2 99996 text_carried))
      whole_sorted refl whole_opens whole_dates_text [] (length whole_dates_text) whole_dates_first

  -- SELECT item, lot, expiry FROM lot_expiry WHERE who = ?1 AND item = ?2 ORDER BY item, lot
  pub dates_is : (command_of (understood schema dates_text)
      ≡ Select (record {
        lets = [];
        body = ordered_from tree (is_given 1 0 ∷ is_given 2 1 ∷ []) (col 1 2 ∷ col 1 3 ∷ col 1 4 ∷ []) (rising 2 ∷ rising 3
            ∷ []);
      })
      (codes "item" ∷ codes "lot" ∷ codes "expiry" ∷ []))
      × (reads_listing schema dates_text ≡ false)
  dates_is =
      chosen_is schema at (lot_expiry_at tree) s (of_tree schema at (lot_expiry_at tree) s) (item ∷ lot ∷ expiry ∷ []) (Some (expr.Binary binary.And (equals who 1) (equals item 2))) (item ∷ lot
      ∷ []) dates_outputs
      (is_given 1 0 ∷ is_given 2 1 ∷ []) (rising 2 ∷ rising 3 ∷ []) 99997 99990 99988 text_carried nothing text_carried
      (dates_shown (Some (expr.Binary binary.And (equals who 1) (equals item 2))))
      (matching_some schema at (lot_expiry_at tree) s lower (item ∷ lot ∷ expiry ∷ []) dates_outputs
      (expr.Binary binary.And (equals who 1) (equals item 2)) (op2 And (is_given 1 0) (is_given 2 1))
      (state_of 2 99997 text_carried) (state_of 2 99990 nothing) (both_given dates_outputs))
      (later_sorted dates_outputs [] 99990 refl refl nothing refl refl) refl dates_opens dates_text (codes "?1" ∷ codes "?2" ∷ []) (length dates_text)
      dates_first

  -- SELECT item, lot, expiry FROM lot_expiry WHERE who = ?1 ORDER BY item, lot
  pub all_dates_is : (command_of (understood schema all_dates_text)
      ≡ Select (record { lets = []; body = ordered_from tree (is_given 1 0 ∷ []) (col 1 2 ∷ col 1 3 ∷ col 1 4 ∷ []) (rising 2 ∷ rising 3 ∷ []) })
      (codes "item" ∷ codes "lot" ∷ codes "expiry" ∷ []))
      × (reads_listing schema all_dates_text ≡ false)
  all_dates_is =
      chosen_is schema at (lot_expiry_at tree) s (of_tree schema at (lot_expiry_at tree) s) (item ∷ lot ∷ expiry ∷ []) (Some (equals who 1)) (item ∷ lot ∷ []) dates_outputs (is_given 1 0 ∷ [])
      (rising 2 ∷ rising 3 ∷ []) 99997 99994 99992
      text_carried nothing text_carried (dates_shown (Some (equals who 1)))
      (matching_some schema at (lot_expiry_at tree) s lower (item ∷ lot ∷ expiry ∷ []) dates_outputs (equals who 1) (is_given 1 0)
      (state_of 2 99997 text_carried) (state_of 2 99994 nothing)
      (who_given 698 99997 text_carried dates_outputs refl refl refl))
      (later_sorted dates_outputs [] 99994 refl refl nothing refl refl) refl all_dates_opens all_dates_text (codes "?1" ∷ []) (length all_dates_text)
      all_dates_first
