-- Trees stand for one register alone, of one warehouse.
use Rattle.std.proofs.Common.{◌≡◌, pos, List, ℕ, [], ◌∷◌, map, refl, sym, ap, ◌∙◌}
use Rattle.sqlite.specs.Order.{Row}
use Rattle.sqlite.specs.Tree.{Trees}
use Rattle.sqlite.specs.Schema.{Schema}
use Rattle.sqlite_trees.specs.Objects.{catalog_tree}
use Rattle.sqlite_catalog.proofs.ReadLemmas.{lists_once}
use Rattle.definitions.specs.declared.rules.Rules.{Rules}
use Rattle.definitions.specs.declared.rules.Rules.TheVariants.{One, Two}
use Rattle.definitions.specs.Header.{Who}
use Rattle.definitions.specs.Register.{Entry}
use Rattle.definitions.specs.Tables.{TableRow, book_table, entry_table, entry_rules_table}
use Rattle.definitions.proofs.RegisterLaws.{entry_table-determines, entry_table-determines_first}
use Rattle.sqlite.specs.declared.types.Value.{Value}
use Rattle.sqlite.specs.declared.types.Value.TheVariants as value
use Rattle.book_statements.specs.declared.names.TableName.TheVariants as table
use Rattle.book_statements.specs.Held.{value_of, values, first_row, entry_values}
use Rattle.book_statements.specs.Layout.{placed}
use Rattle.book_statements.specs.Carrying.{StandsInAs}
use Rattle.book_statements.specs.Standing.{StandsIn}
use Rattle.book_statements.proofs.HoldsLemmas.{same_cells, same_cell}

-- the rows of `entry` and of `entry_rules` are stored as they are
same_entry : (a b : TableRow) → entry_values a ≡ entry_values b → a ≡ b
same_entry [] [] h = refl
same_entry [] (y ∷ b) h = absurd cc
same_entry (x ∷ a) [] h = absurd cc
same_entry (x ∷ a) (y ∷ b) h = let both = parts (value_of x) (value_of y) (values a) (values b) h in (λ i. same_cell x y both.0 i ∷ same_cells a b both.1 i)
  where
    parts : (v w : Value) (r s : Row) → ◌≡◌ {A = Row} (v ∷ Rattle.sqlite.specs.declared.types.Value.TheVariants.Null ∷ r) (w ∷ Rattle.sqlite.specs.declared.types.Value.TheVariants.Null ∷ s) → (v ≡ w) × (r ≡ s)
    parts v w r s e = (cc, cc)

same_entries : (a b : List TableRow) → map entry_values a ≡ map entry_values b → a ≡ b
same_entries [] [] h = refl
same_entries [] (y ∷ b) h = absurd cc
same_entries (x ∷ a) [] h = absurd cc
same_entries (x ∷ a) (y ∷ b) h = let both = parts (entry_values x) (entry_values y) (map entry_values a) (map entry_values b) h in (λ i. same_entry x y both.0 i ∷ same_entries a b both.1 i)
  where
    parts : (v w : Row) (r s : List Row) → v ∷ r ≡ w ∷ s → (v ≡ w) × (r ≡ s)
    parts v w r s e = (cc, cc)

-- trees stand for one register, of one warehouse
same_house : (W V : Who) → ◌≡◌ {A = List Row} (map first_row (book_table Two W)) (map first_row (book_table Two V)) → W ≡ V
same_house W V e = let both = parts W.qualifier W.id V.qualifier V.id e in λ i. record { qualifier = both.0 i; id = both.1 i }
  where
    parts : (a b c d : List ℕ) → ◌≡◌ {A = List Row} ((value.Int (pos 1) ∷ value.Int (pos 2) ∷ value.Text a ∷ value.Text b ∷ []) ∷ []) ((value.Int (pos 1) ∷ value.Int (pos 2) ∷ value.Text c ∷ value.Text d ∷ []) ∷ []) → (a ≡ c) × (b ≡ d)
    parts a b c d e = (cc, cc)

-- trees list one schema
one_schema : {W V : Who} {db : Trees} {L M : List Entry} (p : StandsIn W L db) (q : StandsIn V M db) → p.0 ≡ q.0
one_schema {W} {V} {db} {L} {M} p q = let a = p.1 in let b = q.1 in lists_once (db catalog_tree) p.0 q.0 a.lists b.lists

one_rules : {W V : Who} {db : Trees} {L M : List Entry} (p : StandsIn W L db) (q : StandsIn V M db) → map entry_values (entry_rules_table L) ≡ map entry_values (entry_rules_table M)
one_rules {W} {V} {db} {L} {M} p q =
    let a = p.2.rows in
    let b = q.2.rows in
    let same : placed p.0 db 18 ≡ placed q.0 db 18 = ap (λ (s : Schema). placed s db 18) (one_schema p q) in
    sym (a table.EntryRules) ∙ same ∙ b table.EntryRules

pub stands_for_one : (W V : Who) (db : Trees) (L M : List Entry) → StandsIn W L db → StandsIn V M db → (W ≡ V) × (L ≡ M)
stands_for_one W V db L M p q = (
  same_house W V (let a = p.2.rows in let b = q.2.rows in sym (a table.Book) ∙ b table.Book),
  entry_table-determines W V L M p.2.legal q.2.legal (same_entries (entry_table L) (entry_table M) (let a = p.2.rows in let b = q.2.rows in sym (a table.Entry) ∙ b table.Entry))
      (same_entries (entry_rules_table L) (entry_rules_table M) (one_rules p q)),
)

-- of one warehouse
pub stands_once : (W : Who) (db : Trees) (L M : List Entry) → StandsIn W L db → StandsIn W M db → L ≡ M
stands_once W db L M p q = (stands_for_one W W db L M p q).1

-- The same in version 1, and of both.

-- a row of `book`, as it is stored, whose version is this number
abbrev house_row : ℕ → Who → List Row
house_row version W = (value.Int (pos 1) ∷ value.Int (pos version) ∷ value.Text W.qualifier ∷ value.Text W.id ∷ []) ∷ []

first_house : (W V : Who) → house_row 1 W ≡ house_row 1 V → W ≡ V
first_house W V e = let both = parts W.qualifier W.id V.qualifier V.id e in λ i. record { qualifier = both.0 i; id = both.1 i }
  where
    parts : (a b c d : List ℕ) → ◌≡◌ {A = List Row} ((value.Int (pos 1) ∷ value.Int (pos 1) ∷ value.Text a ∷ value.Text b ∷ []) ∷ []) ((value.Int (pos 1) ∷ value.Int (pos 1) ∷ value.Text c ∷ value.Text d ∷ []) ∷ []) → (a ≡ c) × (b ≡ d)
    parts a b c d e = (cc, cc)

other_version : (W V : Who) → house_row 1 W ≡ house_row 2 V → ⊥
other_version W V e = absurd cc

stands_for_first : (W V : Who) (db : Trees) (L M : List Entry) → StandsInAs One W L db → StandsInAs One V M db → (W ≡ V) × (L ≡ M)
stands_for_first W V db L M p q = let a = p.2 in let b = q.2 in (
  first_house W V (sym a.rows.0 ∙ b.rows.0),
  entry_table-determines_first W V L M a.legal b.legal (same_entries (entry_table L) (entry_table M) (sym a.rows.1.0 ∙ b.rows.1.0)),
)

versions_differ : (W V : Who) (db : Trees) (L M : List Entry) → StandsInAs One W L db → StandsIn V M db → ⊥
versions_differ W V db L M p q = let a = p.2 in let b = q.2.rows in other_version W V (sym a.rows.0 ∙ b table.Book)

pub stands_alone : (db : Trees) (q r : Rules) (W V : Who) (L M : List Entry) → StandsInAs q W L db → StandsInAs r V M db → (q ≡ r) × (W ≡ V) × (L ≡ M)
stands_alone db One One W V L M a b = let same = stands_for_first W V db L M a b in (refl, same.0, same.1)
stands_alone db One Two W V L M a b = absurd (versions_differ W V db L M a b)
stands_alone db Two One W V L M a b = absurd (versions_differ V W db M L b a)
stands_alone db Two Two W V L M a b = let same = stands_for_one W V db L M a b in (refl, same.0, same.1)
