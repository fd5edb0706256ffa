-- What a query looks up of the one table that it reads, under any schema in which the table stands.
use Rattle.std.proofs.Common.{◌≡◌, ℕ, suc, ◌-◌, List, [], ◌∷◌, refl, Some, None, Ok, Bool, true, false}
use Rattle.std.specs.Prelude.{slice_get, nat_lt}
use Rattle.sqlite.specs.Table.{Table}
use Rattle.sqlite.specs.Schema.{Schema}
use Rattle.sqlite_schema.specs.Names.{column_named, place_of}
use Rattle.sqlite_schema.specs.declared.schema.Column.{Column}
use Rattle.sqlite_sql.specs.Term.{Term, col, op2}
use Rattle.sqlite_sql.specs.declared.ops.BinaryOp.TheVariants.{Compare, And}
use Rattle.sqlite_sql.specs.declared.ops.CompareOp.TheVariants.{Eq}
use Rattle.sqlite_ast.specs.declared.Binary.TheVariants as binary
use Rattle.sqlite_ast.specs.declared.Expr.{Expr}
use Rattle.sqlite_ast.specs.declared.Expr.TheVariants as expr
use Rattle.sqlite_resolve.specs.declared.scope.Bound.{Bound}
use Rattle.sqlite_resolve.specs.declared.scope.Output.{Output}
use Rattle.sqlite_resolve.specs.declared.scope.Found.TheVariants as found
use Rattle.sqlite_resolve.specs.declared.state.Carried.{Carried}
use Rattle.sqlite_resolve.specs.declared.state.State.{State}
use Rattle.sqlite_resolve.specs.Lowering.{Lowering, begin, spend, finish, nothing, chosen}
use Rattle.sqlite_resolve.specs.Scope.{Name, Context, column_in, find, in_level, only, hit, is_among, column_at, term_of, column, declared}
use Rattle.sqlite_resolve.specs.Body as body
use Rattle.sqlite_resolve.specs.Compare.{of_column, affinity_of, of_declared, compared}
use Rattle.sqlite_resolve.specs.Expr.{lower_to, node, opened, passes, operation, both, wanted_truth, tests_truth, tests_alias, combine}
use Rattle.book_statements.specs.Layout.{StandsAt}
use Rattle.book_statements.proofs.SelectedViews.{views}
use Rattle.book_statements.proofs.SelectedTexts.{bare}

-- the table of FROM, in slot 1
abbrev pub bound_at : Name → ℕ → Bound
bound_at name at = record { name = name; table = at; slot = 1; shared = [] }

-- inside the one SELECT, with these columns of the result
abbrev pub context_in : Schema → Name → ℕ → List Output → Bool → Context
context_in schema name at shown agg =
    record { schema = schema; levels = record { tables = bound_at name at ∷ []; shown = shown } ∷ []; may_aggregate = agg; may_alias = true }

-- no step, no aggregate and no COLLATE so far
abbrev pub state_of : ℕ → ℕ → Carried → State
state_of next budget last = record { next = next; steps = []; aggregates = []; budget = budget; written = None; last = last }

-- the table has the column at this place, under this name
pub record HasColumn (t : Table) (name : Name) (k : ℕ) (c : Column) : Type 0 where
  pub found : column_named t name ≡ Some k
  pub there : slice_get t.columns k ≡ Some c

module _ (schema : Schema) (at : ℕ) (t : Table) (s : StandsAt schema at t) where
  column_in_is : (name : Name) (k : ℕ) (c : Column) → HasColumn t name k c → column_in schema name (bound_at t.name at) ≡ Some (found.Column 1 at k)
  unfolding column_in
  column_in_is name k c has = rw (s.there) (rw (has.found) refl)

  -- the name is that column
  pub find_is : (name : Name) (k : ℕ) (c : Column) (shown : List Output) (agg : Bool) → HasColumn t name k c
      → find (context_in schema t.name at shown agg) None name ≡ Ok (found.Column 1 at k)
  unfolding find in_level only hit is_among
  find_is name k c shown agg has = rw (column_in_is name k c has) refl

  column_at_is : (name : Name) (k : ℕ) (c : Column) → HasColumn t name k c → column_at schema 1 at k ≡ Ok (col 1 (place_of t k), declared t k c)
  unfolding column_at
  column_at_is name k c has = rw (s.there) (rw (has.there) refl)

  -- its term, and what it carries
  pub column_is : (name : Name) (k : ℕ) (c : Column) (shown : List Output) (agg : Bool) (next budget : ℕ) (last : Carried) → HasColumn t name k c
      → column (context_in schema t.name at shown agg) None name (state_of next budget last)
      ≡ Ok (col 1 (place_of t k), state_of next budget (declared t k c))
  unfolding column term_of
  column_is name k c shown agg next budget last has = rw (find_is name k c shown agg has) (rw (column_at_is name k c has) refl)

  pub lower_bare : (depth : ℕ) (name : Name) (k : ℕ) (c : Column) (shown : List Output) (agg : Bool) (next budget : ℕ) (last : Carried)
      → HasColumn t name k c → nat_lt 1 budget ≡ true
      → lower_to (suc depth) (context_in schema t.name at shown agg) (bare name) (state_of next budget last)
      ≡ Ok (col 1 (place_of t k), state_of next (budget - 1) (declared t k c))
  unfolding lower_to node opened spend begin finish passes views
  lower_bare depth name k c shown agg next budget last has enough = rw (enough)
      (rw (column_is name k c shown agg next (budget - 1) (record { collation = None; is_written = false }) has) refl)

  declared_is : (name : Name) (k : ℕ) (c : Column) → HasColumn t name k c → body.declared schema at (Some k) ≡ Some c.name
  unfolding body.declared
  declared_is name k c has = rw (s.there) (rw (has.there) refl)

  -- the name in the result
  pub heading_is : (name : Name) (k : ℕ) (c : Column) (shown : List Output) (agg : Bool) → HasColumn t name k c
      → body.heading (context_in schema t.name at shown agg) (bare name) name ≡ c.name
  unfolding body.heading views
  heading_is name k c shown agg has = rw (find_is name k c shown agg has) (rw (declared_is name k c has) refl)

  -- a column but the key has the affinity that it is declared with
  pub affinity_is : (k : ℕ) (c : Column) (shown : List Output) (agg : Bool) → slice_get t.columns k ≡ Some c
      → affinity_of (context_in schema t.name at shown agg) (col 1 (suc k)) ≡ of_declared c
  unfolding affinity_of of_column
  affinity_is k c shown agg there = rw (s.there) (rw there refl)

-- a parameter
pub lower_parameter : (depth : ℕ) (cx : Context) (n next budget : ℕ) (last : Carried) → nat_lt 1 budget ≡ true
    → lower_to (suc depth) cx (expr.Parameter n) (state_of next budget last) ≡ Ok (col 0 (n - 1), state_of next (budget - 1) nothing)
unfolding lower_to node opened spend begin finish passes views
lower_parameter depth cx n next budget last enough = rw (enough) refl

-- one level of an expression
pub lower_level : (depth : ℕ) (cx : Context) (e : Expr) (s : State) → lower_to (suc depth) cx e s ≡ node (lower_to depth) cx e s
unfolding lower_to
lower_level depth cx e s = refl

module _ (lower : Context → Expr → Lowering Term) (cx : Context) (a b : Expr) (x y : Term) (next budget b1 b2 : ℕ) (last p q : Carried)
    (enough : nat_lt 1 budget ≡ true)
    (left : lower cx a (state_of next (budget - 1) nothing) ≡ Ok (x, state_of next b1 p)) (right : lower cx b (state_of next b1 p)
    ≡ Ok (y, state_of next b2 q)) where
  pub node_equals : node lower cx (expr.Binary binary.Eq a b) (state_of next budget last)
      ≡ Ok (compared cx (Compare Eq (chosen p q)) x y, state_of next b2 nothing)
  unfolding node opened spend begin finish passes views operation both wanted_truth tests_truth tests_alias combine
  node_equals = rw (enough) (rw (left) (rw (right) refl))

  pub node_and : node lower cx (expr.Binary binary.And a b) (state_of next budget last) ≡ Ok (op2 And x y, state_of next b2 nothing)
  unfolding node opened spend begin finish passes views operation both wanted_truth tests_truth tests_alias combine
  node_and = rw (enough) (rw (left) (rw (right) refl))
