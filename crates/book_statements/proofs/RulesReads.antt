-- The texts that choose rows of entry_rules, under any schema in which the table stands.
use Rattle.std.proofs.Common.{◌≡◌, codes, ℕ, suc, ◌-◌, List, [], ◌∷◌, ◌++◌, map, refl, Some, None, Option, Ok}
use Rattle.std.proofs.Common.{true, false, ◌∙◌, ap}
use Rattle.std.specs.Prelude.{nat_lt}
use Rattle.sqlite.specs.declared.types.Value.TheVariants.{Null}
use Rattle.sqlite.specs.Command.TheVariants.{Select}
use Rattle.sqlite.specs.Collation.TheVariants.{Binary}
use Rattle.sqlite.specs.Kind.TheVariants.{Integer}
use Rattle.sqlite.specs.Table.{Table}
use Rattle.sqlite.specs.Schema.{Schema}
use Rattle.sqlite.specs.Term.{Term, col, op2}
use Rattle.sqlite.specs.Listing.{understood, reads_listing}
use Rattle.sqlite.proofs.Callers.{command_of}
use Rattle.sqlite_value.specs.declared.keys.Key.{Key}
use Rattle.sqlite_value.specs.Keys.{ascending}
use Rattle.sqlite_sql.specs.declared.ops.BinaryOp.TheVariants.{Compare}
use Rattle.sqlite_sql.specs.declared.ops.CompareOp.TheVariants.{Eq}
use Rattle.sqlite_schema.specs.Names.{place_of, same_name}
use Rattle.sqlite_schema.specs.declared.schema.Column.{Column}
use Rattle.sqlite_ast.specs.declared.Expr.{Expr}
use Rattle.sqlite_ast.specs.declared.Expr.TheVariants as expr
use Rattle.sqlite_ast.specs.declared.Sort.{roll-Sort}
use Rattle.sqlite_ast.specs.declared.Shown.TheVariants as shown
use Rattle.sqlite_resolve.specs.declared.body.Body.{Body}
use Rattle.sqlite_resolve.specs.declared.scope.Bound.{Bound}
use Rattle.sqlite_resolve.specs.declared.scope.Output.{Output}
use Rattle.sqlite_resolve.specs.declared.state.Carried.{Carried}
use Rattle.sqlite_resolve.specs.declared.state.State.{State}
use Rattle.sqlite_resolve.specs.Lowering.{Checked, nothing, alone, chosen, first_found, fresh, max_budget}
use Rattle.sqlite_draft.specs.declared.join.Step.TheVariants.{Inner}
use Rattle.sqlite_resolve.specs.Scope.{Name, alias_of, declared}
use Rattle.sqlite_resolve.specs.Body as body
use Rattle.sqlite_resolve.specs.Order as ordering
use Rattle.sqlite_resolve.specs.Compare.{compared, converted, affinity_of, of_column, may_be_text}
use Rattle.sqlite_resolve.specs.Select.{outermost}
use Rattle.sqlite_resolve.specs.Compile.{command, first}
use Rattle.sqlite_typing.specs.Types.{accepts_after, row_classes}
use Rattle.sqlite_ast.specs.declared.Statement.TheVariants as written
use Rattle.sqlite_resolve.specs.Expr.{lower, lower_to}
use Rattle.book_statements.proofs.ReadingTexts.{ordered_from}
use Rattle.book_statements.specs.Layout.{StandsAt, entry_rules_at}
use Rattle.book_statements.proofs.SelectedViews.{views}
use Rattle.book_statements.specs.Recorded.{rules_text}
use Rattle.book_statements.proofs.SelectedTexts.{bare, equals, core_from, select_from, sorts, shows, rules_first, all_rules_text}
use Rattle.book_statements.proofs.SelectedTexts.{all_rules_first, parsed_as}
use Rattle.book_statements.proofs.SelectedColumns.{bound_at, context_in, state_of, HasColumn, lower_bare, heading_is, lower_parameter, lower_level}
use Rattle.book_statements.proofs.SelectedColumns.{node_equals}
use Rattle.book_statements.proofs.SelectedParts.{shown_one, outputs_more, sort_one, sorts_more, bounds_is, matching_all, matching_some, body_is, parts_is, named_is}
use Rattle.book_statements.proofs.SelectedParts.{draft_of, names_of, carried_of, select_command, select_is, IsOfTree, of_tree, accepts_is, no_page, Opens}

abbrev pub output_of : Table → ℕ → Column → Output
output_of t k c = record { name = c.name; is_alias = false; is_column = true; term = col 1 (place_of t k); carried = declared t k c }

abbrev pub key_of : Table → ℕ → Column → Term × Key
key_of t k c = (col 1 (place_of t k), record { collation = alone (declared t k c); descending = false })

module _ (schema : Schema) (at : ℕ) (t : Table) (s : StandsAt schema at t) (name : Name) (k : ℕ) (c : Column) (has : HasColumn t name k c) (budget : ℕ)
    (last : Carried) (enough : nat_lt 1 budget ≡ true) where
  -- a column of the result
  pub one_column : (tables : List Bound) (done : List Output)
      → body.shown lower (context_in schema t.name at [] true) tables done (shown.One (bare name) None name) (state_of 2 budget last)
      ≡ Ok (done ++ output_of t k c ∷ [], state_of 2 (budget - 1) (declared t k c))
  one_column tables done =
      shown_one lower (context_in schema t.name at [] true) tables done name c.name (col 1 (place_of t k)) (state_of 2 budget last)
      (state_of 2 (budget - 1) (declared t k c))
      (lower_bare schema at t s 699 name k c [] true 2 budget last has enough) (heading_is schema at t s name k c [] true has)

  -- a key of ORDER BY
  pub one_key : (outputs : List Output) (done : List (Term × Key)) → alias_of name outputs ≡ None
      → ordering.sort lower (context_in schema t.name at outputs false) outputs done
      (roll-Sort (record { key = bare name; descending = false; nulls_first = None })) (state_of 2 budget last)
      ≡ Ok (done ++ key_of t k c ∷ [], state_of 2 (budget - 1) (declared t k c))
  one_key outputs done unaliased =
      sort_one lower (context_in schema t.name at outputs false) outputs done name (col 1 (place_of t k)) (state_of 2 budget last)
      (state_of 2 (budget - 1) (declared t k c))
      (lower_bare schema at t s 699 name k c outputs false 2 budget last has enough) unaliased refl

  -- and the columns after it
  pub columns_more : (tables : List Bound) (done : List Output) (rest : List Name) (r : Checked (List Output × State))
      → body.outputs_from lower (context_in schema t.name at [] true) tables (done ++ output_of t k c ∷ []) (shows rest)
      (state_of 2 (budget - 1) (declared t k c)) ≡ r
      → body.outputs_from lower (context_in schema t.name at [] true) tables done (shows (name ∷ rest)) (state_of 2 budget last) ≡ r
  columns_more tables done rest r later =
      outputs_more lower (context_in schema t.name at [] true) tables done (done ++ output_of t k c ∷ []) (shown.One (bare name) None name) (shows rest)
      (state_of 2 budget last)
      (state_of 2 (budget - 1) (declared t k c)) r (one_column tables done) later

  -- and the keys after it
  pub keys_more : (outputs : List Output) (done : List (Term × Key)) (rest : List Name) (r : Checked (List (Term × Key) × State)) → alias_of name outputs
      ≡ None
      → ordering.sorts_from lower (context_in schema t.name at outputs false) outputs (done ++ key_of t k c ∷ []) (sorts rest)
      (state_of 2 (budget - 1) (declared t k c)) ≡ r
      → ordering.sorts_from lower (context_in schema t.name at outputs false) outputs done (sorts (name ∷ rest)) (state_of 2 budget last) ≡ r
  keys_more outputs done rest r unaliased later =
      sorts_more lower (context_in schema t.name at outputs false) outputs done (done ++ key_of t k c ∷ [])
      (roll-Sort (record { key = bare name; descending = false; nulls_first = None })) (sorts rest)
      (state_of 2 budget last) (state_of 2 (budget - 1) (declared t k c)) r (one_key outputs done unaliased) later

  -- a column that equals a parameter
  pub one_equals : (depth : ℕ) (outputs : List Output) (n : ℕ) → nat_lt 1 (budget - 1) ≡ true → nat_lt 1 (budget - 1 - 1) ≡ true
      → lower_to (suc (suc depth)) (context_in schema t.name at outputs false) (equals name n) (state_of 2 budget last)
      ≡ Ok (
        compared (context_in schema t.name at outputs false) (Compare Eq (chosen (declared t k c) nothing)) (col 1 (place_of t k)) (col 0 (n - 1)),
        state_of 2 (budget - 1 - 1 - 1) nothing,
      )
  one_equals depth outputs n second third =
      let cx = context_in schema t.name at outputs false in
      lower_level (suc depth) cx (equals name n) (state_of 2 budget last)
      ∙ node_equals (lower_to (suc depth)) cx (bare name) (expr.Parameter n) (col 1 (place_of t k)) (col 0 (n - 1)) 2 budget (budget - 1 - 1)
      (budget - 1 - 1 - 1) last (declared t k c) nothing enough
      (lower_bare schema at t s depth name k c outputs false 2 (budget - 1) nothing has second) (lower_parameter depth cx n 2 (budget - 1 - 1)
      (declared t k c) third)

-- The columns of entry_rules.

abbrev pub seq_column : Column
seq_column = record { name = codes "seq"; kind = Integer; is_strict = true; not_null = false; default = Null; collation = Binary }

abbrev pub rules_column : Column
rules_column = record { name = codes "rules"; kind = Integer; is_strict = true; not_null = true; default = Null; collation = Binary }

has_seq : (tree : ℕ) → HasColumn (entry_rules_at tree) (codes "seq") 0 seq_column
unfolding same_name
has_seq tree = record { found = refl; there = refl }

has_rules : (tree : ℕ) → HasColumn (entry_rules_at tree) (codes "rules") 1 rules_column
unfolding same_name
has_rules tree = record { found = refl; there = refl }

-- A query of one table.

-- the body of a query of one table
abbrev pub body_of : Name → ℕ → ℕ → List Output → List Term → Body
body_of name at tree outputs filter = record {
  level = record { tables = bound_at name at ∷ []; shown = outputs };
  steps = Inner tree
      ∷ [];
  filter = filter;
}

abbrev pub terms_of : List Output → List Term
terms_of outputs = map (λ (o : Output). o.term) outputs

-- A SELECT whose columns, tests and keys are known, from what they are.
module _ (schema : Schema) (at : ℕ) (t : Table) (s : StandsAt schema at t) (of : IsOfTree schema t) (names : List Name) (filter : Option Expr)
    (order : List Name) (outputs : List Output) (tests : List Term)
    (keys : List (Term × Key)) (b1 b2 b3 : ℕ) (p q r : Carried)
    (shows : body.result lower (outermost schema) (record { tables = bound_at t.name at ∷ []; shown = [] }) (core_from t.name names filter)
    (state_of 2 100000 nothing) ≡ Ok (outputs, state_of 2 b1 p))
    (matches : body.matching lower (outermost schema) (record { tables = bound_at t.name at ∷ []; shown = outputs }) (core_from t.name names filter)
    (state_of 2 b1 p)
    ≡ Ok (record { steps = Inner t.tree ∷ []; filter = tests }, state_of 2 b2 q))
    (sorted : ordering.sorts_from lower (context_in schema t.name at outputs false) outputs [] (sorts order) (state_of 2 b2 q) ≡ Ok (keys, state_of 2 b3 r))
    (typed : (accepts_after [] (ordered_from t.tree tests (terms_of outputs) keys) (Some (row_classes t ∷ []))) ≡ true)
    (opens : Opens t.name names filter order) where
  chosen_body : body.body lower (outermost schema) (core_from t.name names filter) (fresh 1 max_budget)
      ≡ Ok (body_of t.name at t.tree outputs tests, state_of 2 b2 q)
  chosen_body =
      body_is lower (outermost schema) t.name names filter (bound_at t.name at ∷ []) outputs (record { steps = Inner t.tree ∷ []; filter = tests })
      (fresh 1 max_budget) (state_of 2 100000 nothing)
      (state_of 2 b1 p) (state_of 2 b2 q) (bounds_is schema at t s 100000 nothing) shows matches

  sorted_is : ordering.sorts lower (context_in schema t.name at outputs false) outputs (sorts order) (state_of 2 b2 q) ≡ Ok (keys, state_of 2 b3 r)
  unfolding ordering.sorts
  sorted_is = sorted

  chosen_command : (base : ℕ) → command schema [] base (written.Select (select_from t.name names filter order))
      ≡ Ok (Select (record { lets = []; body = ordered_from t.tree tests (terms_of outputs) keys }) (names_of outputs))
  chosen_command base =
      let whole = body_of t.name at t.tree outputs tests in
      let parts = parts_is schema t.name names filter (sorts order) whole keys (fresh 1 max_budget) 2 b2 b3 q r chosen_body sorted_is in
      let named = named_is schema t.name names filter (sorts order) no_page whole keys 2 b3 r refl parts in
      select_command schema base t.name names filter order (draft_of whole keys no_page, names_of outputs, carried_of outputs) opens named
      (accepts_is schema t (ordered_from t.tree tests (terms_of outputs) keys) of refl (rw typed refl))

  pub chosen_is : (text : List ℕ) (params : List Name) (stop : ℕ) → first text ≡ Ok (parsed_as (select_from t.name names filter order) params stop)
      → (command_of (understood schema text) ≡ Select (record { lets = []; body = ordered_from t.tree tests (terms_of outputs) keys }) (names_of outputs)) ×
      (reads_listing schema text ≡ false)
  chosen_is text params stop parsed = select_is schema text params stop (select_from t.name names filter order) _ parsed chosen_command

-- SELECT rules FROM entry_rules WHERE seq = ?1

module _ (schema : Schema) (at tree : ℕ) (s : StandsAt schema at (entry_rules_at tree)) where
  abbrev rules_outputs : List Output
  rules_outputs = output_of (entry_rules_at tree) 1 rules_column ∷ []

  rules_shown : body.result lower (outermost schema) (record { tables = bound_at (codes "entry_rules") at ∷ []; shown = [] })
      (core_from (codes "entry_rules") (codes "rules" ∷ []) (Some (equals (codes "seq") 1)))
      (state_of 2 100000 nothing) ≡ Ok (rules_outputs, state_of 2 99999 (declared (entry_rules_at tree) 1 rules_column))
  unfolding body.result body.outputs views
  rules_shown = columns_more schema at (entry_rules_at tree) s (codes "rules") 1 rules_column (has_rules tree) 100000 nothing refl
      (bound_at (codes "entry_rules") at ∷ []) [] [] _ refl

  seq_compared : (outputs : List Output)
      → compared (context_in schema (codes "entry_rules") at outputs false) (Compare Eq (chosen (declared (entry_rules_at tree) 0 seq_column) nothing))
      (col 1 0) (col 0 0) ≡ op2 (Compare Eq Binary) (col 1 0) (col 0 0)
  unfolding compared converted affinity_of of_column may_be_text chosen alone first_found
  seq_compared outputs = refl

  rules_matched : body.matching lower (outermost schema) (record { tables = bound_at (codes "entry_rules") at ∷ []; shown = rules_outputs })
      (core_from (codes "entry_rules") (codes "rules" ∷ []) (Some (equals (codes "seq") 1)))
      (state_of 2 99999 (declared (entry_rules_at tree) 1 rules_column))
      ≡ Ok (record { steps = Inner tree ∷ []; filter = op2 (Compare Eq Binary) (col 1 0) (col 0 0) ∷ [] }, state_of 2 99996 nothing)
  rules_matched =
      matching_some schema at (entry_rules_at tree) s lower (codes "rules" ∷ []) rules_outputs (equals (codes "seq") 1)
      (op2 (Compare Eq Binary) (col 1 0) (col 0 0))
      (state_of 2 99999 (declared (entry_rules_at tree) 1 rules_column)) (state_of 2 99996 nothing)
      (one_equals schema at (entry_rules_at tree) s (codes "seq") 0 seq_column (has_seq tree) 99999 (declared (entry_rules_at tree) 1 rules_column) refl
      698 rules_outputs 1 refl refl
      ∙ ap (λ (x : Term). Ok (x, state_of 2 99996 nothing)) (seq_compared rules_outputs))

  rules_opens : Opens (codes "entry_rules") (codes "rules" ∷ []) (Some (equals (codes "seq") 1)) []
  unfolding views
  rules_opens = refl

  -- SELECT rules FROM entry_rules WHERE seq = ?1
  pub rules_is : (command_of (understood schema rules_text) ≡ Select (record {
    lets = [];
    body = ordered_from tree (op2 (Compare Eq Binary) (col 1 0) (col 0 0) ∷ [])
        (col 1 2 ∷ []) [];
  }) (codes "rules" ∷ []))
      × (reads_listing schema rules_text ≡ false)
  rules_is =
      chosen_is schema at (entry_rules_at tree) s (of_tree schema at (entry_rules_at tree) s) (codes "rules" ∷ []) (Some (equals (codes "seq") 1)) [] rules_outputs
      (op2 (Compare Eq Binary) (col 1 0) (col 0 0) ∷ []) [] 99999 99996 99996
      (declared (entry_rules_at tree) 1 rules_column) nothing nothing rules_shown rules_matched refl refl rules_opens rules_text (codes "?1" ∷ []) 44
      rules_first

-- SELECT seq, rules FROM entry_rules ORDER BY seq

module _ (schema : Schema) (at tree : ℕ) (s : StandsAt schema at (entry_rules_at tree)) where
  abbrev all_outputs : List Output
  all_outputs = output_of (entry_rules_at tree) 0 seq_column ∷ output_of (entry_rules_at tree) 1 rules_column ∷ []

  all_shown : body.result lower (outermost schema) (record { tables = bound_at (codes "entry_rules") at ∷ []; shown = [] })
      (core_from (codes "entry_rules") (codes "seq" ∷ codes "rules" ∷ []) None)
      (state_of 2 100000 nothing) ≡ Ok (all_outputs, state_of 2 99998 (declared (entry_rules_at tree) 1 rules_column))
  unfolding body.result body.outputs views
  all_shown =
      columns_more schema at (entry_rules_at tree) s (codes "seq") 0 seq_column (has_seq tree) 100000 nothing refl (bound_at (codes "entry_rules") at ∷ [])
      [] (codes "rules" ∷ []) _
      (columns_more schema at (entry_rules_at tree) s (codes "rules") 1 rules_column (has_rules tree) 99999 (declared (entry_rules_at tree) 0 seq_column)
      refl (bound_at (codes "entry_rules") at ∷ [])
      (output_of (entry_rules_at tree) 0 seq_column ∷ []) [] _ refl)

  all_sorted : ordering.sorts_from lower (context_in schema (codes "entry_rules") at all_outputs false) all_outputs [] (sorts (codes "seq" ∷ []))
      (state_of 2 99998 (declared (entry_rules_at tree) 1 rules_column))
      ≡ Ok (key_of (entry_rules_at tree) 0 seq_column ∷ [], state_of 2 99997 (declared (entry_rules_at tree) 0 seq_column))
  all_sorted = keys_more schema at (entry_rules_at tree) s (codes "seq") 0 seq_column (has_seq tree) 99998 (declared (entry_rules_at tree) 1 rules_column)
      refl all_outputs [] [] _ refl refl

  all_opens : Opens (codes "entry_rules") (codes "seq" ∷ codes "rules" ∷ []) None (codes "seq" ∷ [])
  unfolding views
  all_opens = refl

  -- SELECT seq, rules FROM entry_rules ORDER BY seq
  pub all_rules_is : (command_of (understood schema all_rules_text)
      ≡ Select (record { lets = []; body = ordered_from tree [] (col 1 0 ∷ col 1 2 ∷ []) ((col 1 0, ascending Binary) ∷ []) })
      (codes "seq" ∷ codes "rules" ∷ []))
      × (reads_listing schema all_rules_text ≡ false)
  unfolding alone
  all_rules_is =
      chosen_is schema at (entry_rules_at tree) s (of_tree schema at (entry_rules_at tree) s) (codes "seq" ∷ codes "rules" ∷ []) None (codes "seq" ∷ []) all_outputs []
      (key_of (entry_rules_at tree) 0 seq_column ∷ []) 99998 99998 99997
      (declared (entry_rules_at tree) 1 rules_column) (declared (entry_rules_at tree) 1 rules_column) (declared (entry_rules_at tree) 0 seq_column)
      all_shown
      (matching_all schema at (entry_rules_at tree) s lower (codes "seq" ∷ codes "rules" ∷ []) all_outputs
      (state_of 2 99998 (declared (entry_rules_at tree) 1 rules_column)))
      all_sorted refl all_opens all_rules_text [] 47 all_rules_first
