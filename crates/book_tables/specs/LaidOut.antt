-- That a table is laid out in SQLite as the definitions have it.
use Rattle.std.specs.Prelude.{◌≡◌, ℕ, zero, suc, ◌+◌, false, not, List, [], ◌∷◌, ◌++◌, map, fold, bytes_eq, Option, Some, None, get_or}
use Rattle.std.specs.List.{position_or_len}
use Rattle.sqlite.specs.Table.{Table}
use Rattle.sqlite_schema.specs.declared.schema.Column.{Column}
use Rattle.sqlite_schema.specs.declared.schema.Kind.{Kind}
use Rattle.sqlite.specs.Kind.TheVariants.{Integer, Text, Blob}
use Rattle.definitions.specs.Schema.{Schema, TableColumn, ColumnType, OfNumbers, OfTexts, OfBlobs, Check, AtLeastZero, AtMost}
use Rattle.sqlite.specs.Collation.TheVariants.{Binary}
use Rattle.sqlite.specs.Term.{Term, col, op2}
use Rattle.sqlite_sql.specs.declared.ops.BinaryOp.TheVariants.{Compare, And}
use Rattle.sqlite_sql.specs.declared.ops.CompareOp.TheVariants.{Le}
use Rattle.book_statements.specs.Layout.{column_of, at_least_zero}

abbrev pub kind_of : ColumnType → Kind
kind_of OfNumbers = Integer
kind_of OfTexts = Text
kind_of OfBlobs = Blob

abbrev pub column_for : TableColumn → Column
column_for c = column_of (not c.may_be_null) (kind_of c.type) c.name

-- where the rowid is a column, the first one is that, which keeps NULL
abbrev pub columns_for : Option ℕ → List TableColumn → List Column
columns_for (Some rowid) (c ∷ cs) = column_of false (kind_of c.type) c.name ∷ map column_for cs
columns_for key cs = map column_for cs

-- the name of the column in a place, of which the rowid has the first
abbrev pub name_at : Table → ℕ → List ℕ
name_at t zero = get_or (map (λ (c : Column). c.name) t.columns) 0 []
name_at t (suc place) = get_or (map (λ (c : Column). c.name) t.columns) place []

-- the set of the columns of a key, where there is one
abbrev pub key_set : List (List ℕ) → List (List (List ℕ))
key_set [] = []
key_set key = key ∷ []

-- the sets of columns that are UNIQUE: that of the key too, where this isn't the rowid
abbrev pub uniques_for : Option ℕ → Schema → List (List (List ℕ))
uniques_for (Some rowid) s = s.unique
uniques_for None s = key_set s.key ++ s.unique

-- the place of the column with a name in a table whose rowid is no column of it
abbrev pub place_of : Schema → List ℕ → ℕ
place_of s name = position_or_len (λ (c : TableColumn). bytes_eq c.name name) s.columns + 1

abbrev pub check_for : Schema → Check → Term
check_for s (AtLeastZero name) = at_least_zero (place_of s name)
check_for s (AtMost less more) =
    op2 (Compare Le Binary) (col 1 (place_of s less)) (col 1 (place_of s more))

-- the checks of a table as one, which asks for all of them
abbrev pub checks_for : Schema → List Check → List Term
checks_for s [] = []
checks_for s (c ∷ cs) = fold (λ all more. op2 And all (check_for s more)) (check_for s c) cs ∷ []

pub record IsLaidOut (s : Schema) (t : Table) : Type 0 where
  pub name : t.name ≡ s.name
  pub columns : t.columns ≡ columns_for t.key s.columns
  pub key : map (name_at t) t.primary ≡ s.key
  pub uniques : map (map (name_at t)) t.uniques ≡ uniques_for t.key s
  pub checks : t.checks ≡ checks_for s s.checks

-- one after another
abbrev pub AreLaidOut : List Schema → List Table → Type 0
AreLaidOut [] [] = Unit {0}
AreLaidOut (s ∷ ss) (t ∷ ts) = IsLaidOut s t × AreLaidOut ss ts
AreLaidOut ss ts = ⊥
