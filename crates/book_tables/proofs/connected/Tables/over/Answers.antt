use Rattle.std.proofs.Common.{arith, sym, subst}
use Rattle.sqlite.specs.Held.{state}
use Rattle.sqlite.specs.Tree.{Trees}
use Rattle.sqlite_trees.specs.View.{IsClean}
use Rattle.sqlite_catalog.specs.Listing.{IsSound}
use Rattle.book_tables.specs.Comparing.{AreTables}
use Rattle.book_tables.proofs.KeptTables.{are_tables}
use Rattle.book_tables.proofs.connected.Tables.over.Goals as goal

pub returns-in-Ok-clause-tables : goal.returns-in-Ok-clause-tables
returns-in-Ok-clause-tables g c = rw c.new.ensures.conn (λ clean laid.
    let store = c.args.store in
    let now = state g.S.Store c.in-Ok.conn in
    let was_clean : IsClean (g.S.Store.view store) = omega (arith, c.in-Ok.ensures.clean, clean) in
    let fresh = c.requires was_clean in
    let opens = c.in-Ok.ensures.opens clean in
    let same = c.in-Ok.ensures.trees clean in
    let shows = let o = opens.0 in o.is_open in
    let sound = subst (IsSound now.now.schema) same (opens.1 shows).0 in
    subst (λ (t : Trees). AreTables (record { schema = now.now.schema; trees = t })) (sym same) (are_tables (g.S.Store.view store) now.now.schema (g.met.S.Alter.listed store fresh.sound) (g.met.S.Store.ordered store fresh.sound) sound (laid shows)))
