-- A SELECT of one table with columns, a WHERE and an ORDER BY of bare columns: its parts, each from
-- the parts below it.
use Rattle.std.proofs.Common.{◌≡◌, ◌<◌, ℕ, suc, ◌+◌, pos, negsuc, List, [], ◌∷◌, ◌++◌, map, refl, Some, None, Option, Ok, true, false}
use Rattle.std.proofs.Common.{ap, ◌&&◌, arith}
use Rattle.std.specs.Prelude.{nat_le, find, ◌==◌, ◌^◌}
use Rattle.sqlite.specs.declared.types.Value.TheVariants.{Int}
use Rattle.sqlite.specs.Table.{Table}
use Rattle.sqlite.specs.Schema.{Schema}
use Rattle.sqlite.specs.Query.{Query, inner, end}
use Rattle.sqlite_value.specs.declared.keys.Key.{Key}
use Rattle.sqlite_value.specs.declared.keys.Collation.{Collation}
use Rattle.sqlite_sql.specs.Term.{Term, lit, reads_below}
use Rattle.sqlite_draft.specs.declared.join.Step.TheVariants.{Inner}
use Rattle.sqlite_draft.specs.declared.query.Draft.{Draft}
use Rattle.sqlite_draft.specs.Join.{chain}
use Rattle.sqlite_ast.specs.declared.Expr.{Expr}
use Rattle.sqlite_ast.specs.declared.Select.{Select, out-Select}
use Rattle.sqlite_ast.specs.declared.Sort.{Sort, roll-Sort}
use Rattle.sqlite_ast.specs.declared.Shown.{Shown}
use Rattle.sqlite_ast.specs.declared.Shown.TheVariants as shown
use Rattle.sqlite_resolve.specs.declared.body.Body.{Body}
use Rattle.sqlite_resolve.specs.declared.body.Joined.{Joined}
use Rattle.sqlite_resolve.specs.declared.scope.Bound.{Bound}
use Rattle.sqlite_resolve.specs.declared.scope.Output.{Output}
use Rattle.sqlite_resolve.specs.declared.scope.Level.{Level}
use Rattle.sqlite_resolve.specs.declared.select.Clauses.{Clauses}
use Rattle.sqlite_resolve.specs.declared.state.Carried.{Carried}
use Rattle.sqlite_resolve.specs.declared.state.State.{State}
use Rattle.sqlite_resolve.specs.Lowering.{Checked, Lowering, take_slot, alone, fresh, max_budget}
use Rattle.sqlite_resolve.specs.Scope.{Name, Context, alias_of}
use Rattle.sqlite_resolve.specs.Terms.{conjuncts}
use Rattle.sqlite_resolve.specs.Body as body
use Rattle.sqlite_resolve.specs.Order as ordering
use Rattle.sqlite_resolve.specs.Select.{outermost, parts, having, named, assembled, ungrouped, inside, paging, constant_or}
use Rattle.sqlite_resolve.specs.Expr.{lower}
use Rattle.sqlite_resolve.specs.Compile.{read, command, first, timed, returning, small}
use Rattle.sqlite_draft.specs.Query.{query_of}
use Rattle.sqlite_typing.specs.Types.{accepts_program, table_classes, row_classes, accepts_after, is_count}
use Rattle.sqlite_schema.specs.declared.program.Program.{Program}
use Rattle.sqlite_schema.specs.declared.command.Command.{Command}
use Rattle.sqlite_schema.specs.declared.command.Command.TheVariants.{Select as ToSelect}
use Rattle.sqlite_syntax.specs.declared.statement.Parsed.{Parsed}
use Rattle.sqlite_ast.specs.declared.Statement.TheVariants as written
use Rattle.sqlite.specs.Listing.{understood, reads_listing, misses_table}
use Rattle.sqlite.proofs.Callers.{command_of}
use Rattle.std.proofs.lemmas.Bool.Decides.{nat_tests}
use Rattle.sqlite_resolve.specs.Program as program
use Rattle.book_statements.specs.Layout.{StandsAt}
use Rattle.book_statements.proofs.TextSteps.{planned_is, compiled_is, understood_is}
use Rattle.book_statements.proofs.SelectedViews.{views}
use Rattle.book_statements.proofs.SelectedTexts.{bare, from_table, core_from, select_from, sorts, parsed_as}
use Rattle.book_statements.proofs.SelectedColumns.{bound_at, context_in, state_of}

module _ (lower : Context → Expr → Lowering Term) where
  -- one column of the result
  pub shown_one : (cx : Context) (tables : List Bound) (done : List Output) (name head : Name) (x : Term) (s s1 : State) → lower cx (bare name) s
      ≡ Ok (x, s1)
      → body.heading cx (bare name) name ≡ head
      → body.shown lower cx tables done (shown.One (bare name) None name) s
      ≡ Ok (done ++ record { name = head; is_alias = false; is_column = true; term = x; carried = s1.last } ∷ [], s1)
  unfolding body.shown body.is_column views
  shown_one cx tables done name head x s s1 lowered headed = rw (lowered) (rw (headed) refl)

  pub outputs_more : (cx : Context) (tables : List Bound) (done longer : List Output) (one : Shown) (more : List Shown) (s s1 : State)
      (r : Checked (List Output × State))
      → body.shown lower cx tables done one s ≡ Ok (longer, s1) → body.outputs_from lower cx tables longer more s1 ≡ r
      → body.outputs_from lower cx tables done (one ∷ more) s ≡ r
  outputs_more cx tables done longer one more s s1 r first later = rw (first) later

  -- one key of ORDER BY
  pub sort_one : (cx : Context) (outputs : List Output) (done : List (Term × Key)) (name : Name) (x : Term) (s s1 : State) → lower cx (bare name) s
      ≡ Ok (x, s1)
      → alias_of name outputs ≡ None → reads_below 1 x ≡ false
      → ordering.sort lower cx outputs done (roll-Sort (record { key = bare name; descending = false; nulls_first = None })) s
      ≡ Ok (done ++ (x, record { collation = alone s1.last; descending = false }) ∷ [], s1)
  unfolding ordering.sort ordering.peeled ordering.alias_in ordering.key ordering.is_numeral ordering.collation_of ordering.written_on ordering.placed views
  sort_one cx outputs done name x s s1 lowered unaliased reads = rw (unaliased) (rw (lowered) (rw (reads) refl))

  pub sorts_more : (cx : Context) (outputs : List Output) (done longer : List (Term × Key)) (one : Sort) (more : List Sort) (s s1 : State)
      (r : Checked (List (Term × Key) × State))
      → ordering.sort lower cx outputs done one s ≡ Ok (longer, s1) → ordering.sorts_from lower cx outputs longer more s1 ≡ r
      → ordering.sorts_from lower cx outputs done (one ∷ more) s ≡ r
  sorts_more cx outputs done longer one more s s1 r first later = rw (first) later

module _ (schema : Schema) (at : ℕ) (t : Table) (s : StandsAt schema at t) where
  -- FROM takes the next slot
  pub bounds_is : (budget : ℕ) (last : Carried) → body.bounds schema (from_table t.name ∷ []) (state_of 1 budget last)
      ≡ Ok (bound_at t.name at ∷ [], state_of 2 budget last)
  unfolding body.bounds body.bound body.table_in take_slot views
  bounds_is budget last = rw (s.found) refl

  abbrev level_of : List Output → Level
  level_of outputs = record { tables = bound_at t.name at ∷ []; shown = outputs }

  abbrev joined_of : List Term → Joined
  joined_of filter = record { steps = Inner t.tree ∷ []; filter = filter }

  joins_is : (lower : Context → Expr → Lowering Term) (outputs : List Output) (st : State)
      → body.joins lower (context_in schema t.name at outputs false) (bound_at t.name at ∷ []) (from_table t.name ∷ []) st ≡ Ok (joined_of [], st)
  unfolding body.joins body.join body.shared body.inner_join body.tests views
  joins_is lower outputs st = rw (s.there) refl

  -- the join and WHERE
  pub matching_all : (lower : Context → Expr → Lowering Term) (names : List Name) (outputs : List Output) (st : State)
      → body.matching lower (outermost schema) (level_of outputs) (core_from t.name names None) st ≡ Ok (joined_of [], st)
  unfolding body.matching body.tests views
  matching_all lower names outputs st = rw (joins_is lower outputs st) refl

  pub matching_some : (lower : Context → Expr → Lowering Term) (names : List Name) (outputs : List Output) (e : Expr) (x : Term) (st s1 : State)
      → lower (context_in schema t.name at outputs false) e st ≡ Ok (x, s1)
      → body.matching lower (outermost schema) (level_of outputs) (core_from t.name names (Some e)) st ≡ Ok (joined_of (conjuncts x), s1)
  unfolding body.matching body.tests views
  matching_some lower names outputs e x st s1 lowered = rw (joins_is lower outputs st) (rw (lowered) refl)

-- the parts together
pub body_is : (lower : Context → Expr → Lowering Term) (cx : Context) (table : Name) (names : List Name) (filter : Option Expr) (tables : List Bound)
    (outputs : List Output) (joined : Joined)
    (s0 s1 s2 s3 : State)
    → body.bounds cx.schema (from_table table ∷ []) s0 ≡ Ok (tables, s1)
    → body.result lower cx (record { tables = tables; shown = [] }) (core_from table names filter) s1 ≡ Ok (outputs, s2)
    → body.matching lower cx (record { tables = tables; shown = outputs }) (core_from table names filter) s2 ≡ Ok (joined, s3)
    → body.body lower cx (core_from table names filter) s0 ≡ Ok (
      record {
        level = record { tables = tables; shown = outputs };
        steps = joined.steps;
        filter = joined.filter;
      },
      s3,
    )
unfolding body.body views
body_is lower cx table names filter tables outputs joined s0 s1 s2 s3 bound shown matched = rw (bound) (rw (shown) (rw (matched) refl))

-- the clauses of a SELECT with no group
abbrev pub clauses_of : Body → List (Term × Key) → Clauses
clauses_of whole order = record { body = whole; is_grouped = false; keys = []; collations = []; having = []; order = order }

pub parts_is : (schema : Schema) (table : Name) (names : List Name) (filter : Option Expr) (by_order : List Sort) (whole : Body) (order : List (Term × Key))
    (s0 : State) (next b1 b2 : ℕ) (p q : Carried)
    → body.body lower (outermost schema) (core_from table names filter) s0 ≡ Ok (whole, state_of next b1 p)
    → ordering.sorts lower (inside schema whole.level false) whole.level.shown by_order (state_of next b1 p) ≡ Ok (order, state_of next b2 q)
    → parts schema (core_from table names filter) by_order s0 ≡ Ok (clauses_of whole order, state_of next b2 q)
unfolding parts having ordering.keys body.tests views
parts_is schema table names filter by_order whole order s0 next b1 b2 p q is sorted = rw (is) (rw (sorted) refl)

-- the draft of a query with no group
abbrev pub draft_of : Body → List (Term × Key) → Term × Term → Draft
draft_of whole order page = record {
  from = chain whole.steps;
  filter = whole.filter;
  group = None;
  project = map (λ (o : Output). o.term) whole.level.shown;
  distinct = false;
  collations = [];
  order = order;
  limit = page.0;
  offset = page.1;
}

abbrev pub names_of : List Output → List Name
names_of outputs = map (λ (o : Output). o.name) outputs

abbrev pub carried_of : List Output → List (Option Collation)
carried_of outputs = map (λ (o : Output). o.carried.collation) outputs

pub named_is : (schema : Schema) (table : Name) (names : List Name) (filter : Option Expr) (by_order : List Sort) (page : Term × Term) (whole : Body)
    (order : List (Term × Key)) (next b : ℕ) (p : Carried)
    → whole.steps ++ [] ≡ whole.steps
    → parts schema (core_from table names filter) by_order (fresh 1 max_budget) ≡ Ok (clauses_of whole order, state_of next b p)
    → named schema (core_from table names filter) by_order page ≡ Ok (draft_of whole order page, names_of whole.level.shown, carried_of whole.level.shown)
unfolding named assembled ungrouped views
named_is schema table names filter by_order page whole order next b p bare is = rw (is) (rw (bare) refl)

-- No view is met, so the SELECT is read once.

abbrev pub Meaning : Type 0
Meaning = Draft × List Name × List (Option Collation)

module _ (query : Schema → Select → program.Building program.Shown) (schema : Schema) (table : Name) (names : List Name) (filter : Option Expr)
    (by_order : List Sort) (page : Term × Term) (m : Meaning)
    (is : named schema (core_from table names filter) by_order page ≡ Ok m) where
  viewing_is : (n : ℕ) → program.viewing query schema (core_from table names filter) by_order page (suc n) schema [] ≡ Ok ((m, schema), [])
  unfolding program.viewing
  viewing_is n = rw is refl

  single_is : program.single query schema (core_from table names filter) by_order page [] ≡ Ok ((m, schema), [])
  unfolding program.single program.sources program.source views
  single_is = rw (viewing_is 63) refl

  alone_is : program.alone query schema (core_from table names filter) by_order page [] ≡ Ok (m, [])
  unfolding program.alone
  alone_is = rw single_is refl

-- no LIMIT, and no OFFSET
abbrev pub no_page : Term × Term
no_page = (lit (Int (negsuc 0)), lit (Int (pos 0)))

-- the SELECT, opened
abbrev pub Opens : Name → List Name → Option Expr → List Name → Type 0
Opens table names filter order =
    out-Select (select_from table names filter order) ≡ record {
      with = [];
      first = core_from table names filter;
      others = [];
      order = sorts order;
      limit = None;
      offset = None;
    }

level_is : (query : Schema → Select → program.Building program.Shown) (schema : Schema) (table : Name) (names : List Name) (filter : Option Expr)
    (order : List Name) (m : Meaning)
    → Opens table names filter order → named schema (core_from table names filter) (sorts order) no_page ≡ Ok m
    → program.level query schema (select_from table names filter order) [] ≡ Ok (m, [])
unfolding program.level program.with program.whole paging constant_or
level_is query schema table names filter order m opens is = rw (opens) (rw (alone_is query schema table names filter (sorts order) no_page m is) refl)

pub query_is : (schema : Schema) (table : Name) (names : List Name) (filter : Option Expr) (order : List Name) (m : Meaning)
    → Opens table names filter order
    → named schema (core_from table names filter) (sorts order) no_page ≡ Ok m → program.query schema (select_from table names filter order) ≡ Ok (m, [])
unfolding program.query program.query_to
query_is schema table names filter order m opens is = level_is (program.query_to 15) schema table names filter order m opens is

pub program_is : (schema : Schema) (d : Draft) → accepts_program schema [] (query_of d) [] ≡ true → program.program schema [] d
    ≡ Ok (record { lets = []; body = query_of d })
unfolding program.program
program_is schema d typed = rw typed refl

read_is : (schema : Schema) (s : Select) (m : Meaning) (p : Program) → program.query schema s ≡ Ok (m, []) → program.program schema [] m.0 ≡ Ok p
    → read schema s ≡ Ok (ToSelect p m.1)
unfolding read
read_is schema s m p queried typed = rw (queried) (rw (typed) refl)

pub select_command : (schema : Schema) (base : ℕ) (table : Name) (names : List Name) (filter : Option Expr) (order : List Name) (m : Meaning)
    → Opens table names filter order
    → named schema (core_from table names filter) (sorts order) no_page ≡ Ok m → accepts_program schema [] (query_of m.0) [] ≡ true
    → command schema [] base (written.Select (select_from table names filter order)) ≡ Ok (ToSelect (record { lets = []; body = query_of m.0 }) m.1)
unfolding command
select_command schema base table names filter order m opens is typed =
    read_is schema (select_from table names filter order) m (record { lets = []; body = query_of m.0 }) (query_is schema table names filter order m opens
    is) (program_is schema m.0 typed)

select_timed : (schema : Schema) (s : Select) → timed schema [] (written.Select s) ≡ []
unfolding timed
select_timed schema s = refl

select_returning : (schema : Schema) (base : ℕ) (s : Select) → returning schema base (written.Select s) ≡ Ok None
unfolding returning
select_returning schema base s = refl

-- what the text is read as
pub select_is : (schema : Schema) (text : List ℕ) (names : List Name) (stop : ℕ) (s : Select) (c : Command) → first text ≡ Ok (parsed_as s names stop)
    → ((base : ℕ) → command schema [] base (written.Select s) ≡ Ok c) → (command_of (understood schema text) ≡ c) × (reads_listing schema text ≡ false)
select_is schema text names stop s c parsed is =
    let p : Parsed = parsed_as s names stop in
    let whole = compiled_is schema text p c parsed (planned_is schema p c (select_timed schema s) (select_returning schema (small names + 0) s)
    (is (small names + 0))) in
    (ap command_of (understood_is schema text _ whole), ap misses_table whole)

-- A table that is the first with its tree, which no computed table has, has the classes of its
-- columns.

pub record IsOfTree (schema : Schema) (t : Table) : Type 0 where
  pub low : t.tree < 65536
  pub first : find (λ (u : Table). u.tree == t.tree) schema.tables ≡ Some t

pub of_tree : (schema : Schema) (at : ℕ) (t : Table) → StandsAt schema at t → IsOfTree schema t
of_tree schema at t s = record { low = s.low; first = s.first }

is_low : (n : ℕ) → n < 65536 → nat_le (2 ^ 31) n ≡ false
is_low n h = grind (arith, nat_tests, h)

pub classes_are : (schema : Schema) (t : Table) → IsOfTree schema t → table_classes schema [] t.tree ≡ Some (row_classes t)
classes_are schema t of = rw (is_low t.tree of.low) (rw (of.first) refl)

-- typing, once FROM has filled its slot
pub accepts_is : (schema : Schema) (t : Table) (q : Query) → IsOfTree schema t → q.from ≡ inner t.tree end
    → (accepts_after [] q (Some (row_classes t ∷ [])) && (is_count [] q.limit && is_count [] q.offset)) ≡ true
    → accepts_program schema [] q [] ≡ true
accepts_is schema t q of from typed = rw (from) (rw (classes_are schema t of) typed)
