-- The rows of a sound database have a value for each column, so what is shown of all columns is the
-- whole row.
use Rattle.std.proofs.Common.{◌≡◌, ℕ, zero, suc, ◌+◌, ◌<◌, ◌≤◌, ℤ, List, [], ◌∷◌, ◌++◌, length, map, take, drop, not, ◌||◌, Bool, true, false, Option, refl, sym, ap, subst, ◌∙◌, arith, IsTrue}
use Rattle.std.specs.List.{AllByRecursion}
use Rattle.sqlite.specs.declared.types.Value.{Value}
use Rattle.sqlite.specs.declared.types.Value.TheVariants as value
use Rattle.sqlite.specs.Order.{Row, column}
use Rattle.sqlite.specs.Table.{Table}
use Rattle.sqlite.specs.Tree.{Trees, rowid}
use Rattle.sqlite_trees.specs.declared.store.Shape.TheVariants as shape
use Rattle.sqlite_trees.specs.View.{IsShaped, is_int}
use Rattle.sqlite_schema.specs.declared.schema.Column.{Column}
use Rattle.sqlite_schema.specs.declared.schema.Constraint.TheVariants.{Datatype, NotNull}
use Rattle.sqlite_schema.specs.Names.{is_key}
use Rattle.sqlite_schema.specs.Rules.{are_typed, are_present, passes}
use Rattle.sqlite_sql.specs.Ops.{is_null}
use Rattle.sqlite_catalog.specs.Listing.{IsSound}
use Rattle.sqlite_rules.specs.Lists.{Has}
use Rattle.sqlite_rules.proofs.ListLemmas.{all_has}
use Rattle.sqlite.specs.Schema.{Schema}
use Rattle.book_statements.specs.Layout.{IsLayout, ours}
use Rattle.book_statements.proofs.Beside.{ours_listed}
use Rattle.book_statements.proofs.KeyLemmas.{places}
use Rattle.book_statements.proofs.Values.{and_true}

-- no more values than columns
typed_short : (key : Option ℕ) (at : ℕ) (cs : List Column) (vs : Row) → are_typed key at cs vs ≡ true → length vs ≤ length cs
typed_short key at [] [] h = omega arith
typed_short key at [] (v ∷ vs) h = absurd (let e : ◌≡◌ {A = Bool} false true = h in cc)
typed_short key at (c ∷ cs) [] h = omega arith
typed_short key at (c ∷ cs) (v ∷ vs) h = omega (arith, typed_short key (at + 1) cs vs (and_true _ _ h).1)

third : (a b n : Bool) → (a || not b || not n) ≡ true → a ≡ false → b ≡ true → n ≡ false
third true b n h p q = absurd (let e : ◌≡◌ {A = Bool} true false = p in cc)
third false false n h p q = absurd (let e : ◌≡◌ {A = Bool} false true = q in cc)
third false true true h p q = absurd (let e : ◌≡◌ {A = Bool} false true = h in cc)
third false true false h p q = refl

-- the last column is not NULL
last_present : (key : Option ℕ) (at : ℕ) (cs : List Column) (c : Column) (row : Row) (p : ℕ) → p ≡ at + length cs → are_present key at (cs ++ c ∷ []) row ≡ true → is_key key p ≡ false → c.not_null ≡ true
    → is_null (column row (p + 1)) ≡ false
last_present key at [] c row p e h k n =
    let same : p ≡ at = omega (arith, e) in
    subst (λ (q : ℕ). is_null (column row (q + 1)) ≡ false) (sym same)
    (third (is_key key at) c.not_null (is_null (column row (at + 1))) (and_true _ _ h).0 (subst (λ (q : ℕ). is_key key q ≡ false) same k) n)
last_present key at (d ∷ cs) c row p e h k n = last_present key (at + 1) cs c row p (omega (arith, e)) (and_true _ _ h).1 k n

-- a value that is not NULL stands before the end
within : (row : Row) (at : ℕ) → is_null (column row at) ≡ false → at < length row
within [] zero h = absurd (let e : ◌≡◌ {A = Bool} true false = h in cc)
within [] (suc at) h = absurd (let e : ◌≡◌ {A = Bool} true false = h in cc)
within (v ∷ row) zero h = omega arith
within (v ∷ row) (suc at) h = omega (arith, within row at h)

exact : (row : Row) (n : ℕ) → length (drop 1 row) ≤ n + 1 → n + 1 < length row → length row ≡ n + 2
exact [] n up low = absurd (omega (arith, low))
exact (v ∷ row) n up low = omega (arith, up, low)

module _ (schema : Schema) (lies : IsLayout schema) (db : Trees) (table : Table) (listed : Has (ours schema) table) (sound : IsSound schema db) (row : Row) (there : Has (db table.tree) row) where
  pub row_typed : are_typed table.key 0 table.columns (drop 1 row) ≡ true
  row_typed =
      let o = sound.obeys in
      let each = all_has (λ (t : Table). AllByRecursion (λ (r : Row). passes Datatype schema db t r ≡ true) (db t.tree)) schema.tables table (o.rules Datatype) (ours_listed schema lies table listed) in
      (and_true _ _ (all_has (λ (r : Row). passes Datatype schema db table r ≡ true) (db table.tree) row each there)).0

  row_present : are_present table.key 0 table.columns row ≡ true
  row_present =
      let o = sound.obeys in
      let each = all_has (λ (t : Table). AllByRecursion (λ (r : Row). passes NotNull schema db t r ≡ true) (db t.tree)) schema.tables table (o.rules NotNull) (ours_listed schema lies table listed) in
      all_has (λ (r : Row). passes NotNull schema db table r ≡ true) (db table.tree) row each there

  -- a table whose last column is NOT NULL: each row has all values
  pub row_full : (n : ℕ) (c : Column) → table.columns ≡ take n table.columns ++ c ∷ [] → length (take n table.columns) ≡ n → length table.columns ≡ n + 1 → is_key table.key n ≡ false → c.not_null ≡ true
      → length row ≡ n + 2
  row_full n c cut size width key not_null =
      let present = subst (λ (cs : List Column). are_present table.key 0 cs row ≡ true) cut row_present in
      let last = last_present table.key 0 (take n table.columns) c row n (omega (arith, size)) present key not_null in
      let low = within row (n + 1) last in
      exact row n (omega (arith, typed_short table.key 0 table.columns (drop 1 row) row_typed, width)) low

-- The columns of a row, one after another.

pub columns_later : (x : Value) (row : Row) (n at : ℕ) → map (column (x ∷ row)) (places (suc at) n) ≡ map (column row) (places at n)
columns_later x row zero at = refl
columns_later x row (suc n) at = ap (λ (r : Row). column row at ∷ r) (columns_later x row n (suc at))

pub all_columns : (row : Row) (n : ℕ) → length row ≡ n → map (column row) (places 0 n) ≡ row
all_columns [] zero h = refl
all_columns [] (suc n) h = absurd (omega (arith, h))
all_columns (x ∷ row) zero h = absurd (omega (arith, h))
all_columns (x ∷ row) (suc n) h = ap (λ (r : Row). x ∷ r) (columns_later x row n 0 ∙ all_columns row n (omega (arith, h)))

-- a row with an integer in front
int_first : (row : Row) → IsTrue (is_int (rowid row)) → (id : ℤ) × (row ≡ value.Int id ∷ drop 1 row)
int_first [] h = absurd (let e : ◌≡◌ {A = Bool} false true = h in cc)
int_first (value.Null ∷ row) h = absurd (let e : ◌≡◌ {A = Bool} false true = h in cc)
int_first (value.Int id ∷ row) h = (id, refl)
int_first (value.Real x ∷ row) h = absurd (let e : ◌≡◌ {A = Bool} false true = h in cc)
int_first (value.Text t ∷ row) h = absurd (let e : ◌≡◌ {A = Bool} false true = h in cc)
int_first (value.Blob b ∷ row) h = absurd (let e : ◌≡◌ {A = Bool} false true = h in cc)

pub numbered_row : (rows : List Row) → IsShaped shape.Table rows → (row : Row) → Has rows row → (id : ℤ) × (row ≡ value.Int id ∷ drop 1 row)
numbered_row rows shaped row there = int_first row (all_has (λ (r : Row). IsTrue (is_int (rowid r))) rows row shaped.1 there)
