-- The rows of the book's tables stand in the order of their rowids in any store that lists them.
use Rattle.std.proofs.Common.{subst}
use Rattle.sqlite.specs.Schema.{Schema}
use Rattle.sqlite.specs.Table.{Table}
use Rattle.sqlite_trees.specs.declared.store.Shape.{Shape}
use Rattle.sqlite_trees.specs.declared.store.Shape.TheVariants as shape
use Rattle.sqlite_trees.specs.Objects.{catalog_tree, IsListed}
use Rattle.sqlite_trees.specs.View.{View, IsShaped, IsOrdered}
use Rattle.sqlite_catalog.specs.Listing.{IsSound}
use Rattle.sqlite_catalog.proofs.LayoutLemmas.{objects_rise, table_shape}
use Rattle.sqlite_rules.proofs.ListLemmas.{all_from}
use Rattle.book_tables.specs.Comparing.{AreTables}
use Rattle.book_statements.specs.Layout.{IsLayout, book_tables, placed, tree_in}
use Rattle.book_statements.proofs.Beside.{ours_listed, as_ours}

pub are_tables : (v : View) (schema : Schema) → IsListed (v.trees catalog_tree) v.shape v.reals → IsOrdered v.shape v.trees → IsSound schema v.trees → IsLayout schema → AreTables (record { schema = schema; trees = v.trees })
are_tables v schema listed ordered sound lies =
    all_from (λ (t : Table). IsShaped shape.Table (placed schema v.trees t.tree)) book_tables (λ t there.
    let mine = ours_listed schema lies (record t { tree = tree_in schema t.tree }) (as_ours schema t there) in
    let lists = sound.lists in
    let at = (table_shape listed (objects_rise v listed ordered).0 lists.listed (record t { tree = tree_in schema t.tree }) mine).0 in
    subst (λ (s : Shape). IsShaped s (v.trees (tree_in schema t.tree))) at (ordered (tree_in schema t.tree)))
