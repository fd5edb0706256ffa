-- Whether a table has one of the names of the book's tables.
use Rattle.std.specs.Prelude.{ℕ, Bool, List}
use Rattle.std.specs.List.{list_any}
use Rattle.sqlite.specs.Table.{Table}
use Rattle.sqlite_schema.specs.Names.{same_name}
use Rattle.book_statements.specs.declared.names.TableName.{TableName}
use Rattle.book_statements.specs.Standing.{name_of, all_tables}

-- SQLite doesn't tell the case of names apart
abbrev pub is_book_name : List ℕ → Bool
is_book_name name = list_any (λ (t : TableName). same_name name (name_of t)) all_tables

abbrev pub has_book_table : List Table → Bool
has_book_table tables = list_any (λ (t : Table). is_book_name t.name) tables
