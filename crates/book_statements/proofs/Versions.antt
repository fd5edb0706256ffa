-- What the UPDATE of the book's version does.
use Rattle.std.proofs.Common.{◌≡◌, ◌≢◌, inl, ℕ, ℤ, pos, List, [], ◌∷◌, map, filter, true, None, Ok, refl, sym, ap, subst, ◌∙◌}
use Rattle.std.specs.List.Sorted.{IsPermutation}
use Rattle.sqlite.specs.declared.types.Value.TheVariants.{Null, Int, Text}
use Rattle.std.specs.declared.cmp.Ordering.TheVariants.{Equal}
use Rattle.sqlite.specs.Order.{Row, value_cmp}
use Rattle.sqlite.specs.Command.TheVariants.{Update}
use Rattle.sqlite.specs.Edit.{edit_of, edited}
use Rattle.sqlite_rules.specs.Edit.{Applies, Edit, put_all, without_all}
use Rattle.sqlite_rules.specs.Calls.{ids_of}
use Rattle.sqlite.specs.Rowids.TheVariants.{Given}
use Rattle.sqlite.specs.Does.{Tally, Does}
use Rattle.sqlite.specs.Rows.{Written}
use Rattle.sqlite.specs.Tree.{Trees}
use Rattle.sqlite.specs.Table.{Table}
use Rattle.sqlite.specs.Schema.{Schema}
use Rattle.std.specs.List.{AllByRecursion}
use Rattle.sqlite.specs.Listing.{understood}
use Rattle.sqlite.specs.Effect.{Database}
use Rattle.sqlite.specs.Query.{IsAnswer, output, Output, page}
use Rattle.sqlite.specs.Term.{eval_all}
use Rattle.sqlite.specs.Program.{overlay}
use Rattle.sqlite.specs.State.{State, mode_of, Executes}
use Rattle.sqlite.proofs.Callers.{statement_of, runs_as, one_permutation}
use Rattle.book_statements.specs.Layout.{beside, IsLayout, book_layout}
use Rattle.book_statements.specs.Steps.{WritesInto}
use Rattle.book_statements.proofs.WritingTexts.{set_version_text, set_version_query, set_version_is, set_version_plain}
use Rattle.book_statements.proofs.KeyLemmas.{itself, is_equal}
use Rattle.book_statements.proofs.Beside.{one_write, as_beside, into_book}
use Rattle.book_statements.proofs.Found.{flat_map-cond}
use Rattle.book_statements.proofs.Values.{cast_int, went, same_value}

module _ (version before : ℤ) (qualifier id : List ℕ) where
  abbrev params : Row
  params = Int version ∷ []

  -- the row of `book` with a version
  abbrev row_with : ℤ → Row
  row_with v = Int (pos 1) ∷ Int v ∷ Text qualifier ∷ Text id ∷ []

  -- the one row is shown
  one_shown : (db : Trees) → db 0 ≡ row_with before ∷ [] → (out : List Row) → IsAnswer set_version_query (overlay db []) params out → out ≡ (Int (pos 1) ∷ row_with version) ∷ []
  one_shown db book out a =
      let staged : a.staged ≡ (params ∷ row_with before ∷ []) ∷ [] = a.grouped ∙ flat_map-cond (λ _. true) (λ (r : Row). params ∷ r ∷ []) (db 0) ∙ ap (λ rows. map (λ (r : Row). params ∷ r ∷ []) (filter (λ _. true) rows)) book in
      let o : Output = ([], eval_all set_version_query.project (params ∷ row_with before ∷ [])) in
      let kept : a.kept ≡ o ∷ [] = a.distinct ∙ ap (map (output set_version_query)) staged in
      a.shown ∙ ap (λ xs. page set_version_query params (map (λ (p : Output). p.1) xs)) (one_permutation o a.ordered (subst (λ k. IsPermutation k a.ordered) kept a.same))

  -- it has the rowid that goes
  replaced : put_all (without_all (row_with before ∷ []) (pos 1 ∷ [])) (row_with version ∷ []) ≡ row_with version ∷ []
  replaced = let tied : value_cmp (Int (pos 1)) (Int (pos 1)) ≡ Equal = is_equal _ (itself (Int (pos 1))) in rw tied refl

  pub sets_version : (old new : State) (count : ℕ) → IsLayout old.now.schema → old.now.trees 0 ≡ row_with before ∷ [] → Executes set_version_text params old new (Ok count)
      → WritesInto 0 (λ _ after. after ≡ row_with version ∷ []) old.now new.now
  sets_version old new count lies book h =
      let others = lies.others in
      let has = lies.is in
      let db = old.now.trees in
      let keys = (mode_of old).keys in
      let command = Update 0 (record { lets = []; body = set_version_query }) in
      let w = runs_as set_version_text params old new (beside others) has command (set_version_is others) (set_version_plain others) count h in
      let text = statement_of set_version_text (understood (beside others) set_version_text) in
      let done = went (subst (λ s. Does old.step_limit (mode_of old) params (record old.now { schema = s }) text None command (Ok (w.tally, new.now))) has w.changed) in
      let now = ap (λ (p : Tally × Database). p.1) (same_value (went (went done.2).2).2) in
      let asked = went done.1 in
      let written = went asked.2 in
      let trees : new.now.trees ≡ written.0 = ap (λ (d : Database). d.trees) now ∙ ap (λ (it : Written). it.trees) (same_value written.2) in
      let step : Edit = edit_of db book_layout (ids_of asked.0) Given 1 asked.0 in
      let applied = subst (Applies (beside others) keys db step) (sym trees) (one_write (beside others) (as_beside old.now.schema lies) _ db written.0 step (inl refl) written.1) in
      let shows : List Row = (Int (pos 1) ∷ row_with version) ∷ [] in
      let shown = one_shown db book asked.0 (let a = asked.1 in a.answer Null) in
      let only : Edit = record { table = book_layout; gone = pos 1 ∷ []; news = row_with version ∷ [] } in
      let cast : edit_of db book_layout (ids_of shows) Given 1 shows ≡ only = rw (cast_int (pos 1), cast_int version) refl in
      into_book 0 refl (λ _ after. after ≡ row_with version ∷ []) old.now new.now lies (record {
        sound = w.sound;
        schema = ap (λ (d : Database). d.schema) now ∙ sym has;
        others = subst (λ (s : Schema). AllByRecursion (λ (t : Table). t.tree ≢ 0 → new.now.trees t.tree ≡ db t.tree) s.tables) (sym has) applied.tables;
        rows = applied.rows ∙ ap (λ rs. edited db (edit_of db book_layout (ids_of rs) Given 1 rs)) shown ∙ ap (edited db) cast
            ∙ ap (λ (rows : List Row). put_all (without_all rows (pos 1 ∷ [])) (row_with version ∷ [])) book ∙ replaced;
      })
