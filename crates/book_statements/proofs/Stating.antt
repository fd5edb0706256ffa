-- What the UPDATE of a document's state does.
use Rattle.std.proofs.Common.{◌≡◌, ◌≢◌, inl, inr, ℕ, ℤ, List, [], ◌∷◌, map, Bool, true, false, None, Ok, refl, sym, ap, subst, ◌∙◌}
use Rattle.std.specs.List.Sorted.{IsPermutation}
use Rattle.std.specs.declared.cmp.Ordering.TheVariants.{Equal}
use Rattle.std.proofs.lemmas.List.Sorted.{length_permutation}
use Rattle.sqlite.specs.declared.types.Value.{Value}
use Rattle.sqlite.specs.declared.types.Value.TheVariants.{Null, Int, Text}
use Rattle.sqlite.specs.Order.{Row, value_cmp}
use Rattle.sqlite.specs.Command.TheVariants.{Update}
use Rattle.sqlite.specs.Edit.{edit_of, edited}
use Rattle.sqlite_rules.specs.Edit.{Applies, Edit}
use Rattle.sqlite_rules.specs.Calls.{ids_of}
use Rattle.sqlite_rules.specs.Lists.{Has}
use Rattle.sqlite.specs.Rowids.TheVariants.{Given}
use Rattle.sqlite_schema.specs.declared.schema.Keys.{Keys}
use Rattle.sqlite.specs.Does.{Tally, Does}
use Rattle.sqlite.specs.Rows.{Written}
use Rattle.sqlite.specs.Tree.{Trees, rowid}
use Rattle.sqlite.specs.Table.{Table}
use Rattle.sqlite.specs.Schema.{Schema}
use Rattle.std.specs.List.{AllByRecursion}
use Rattle.sqlite.specs.Listing.{understood}
use Rattle.sqlite.specs.Effect.{Database, IsDatabase}
use Rattle.sqlite.specs.Query.{IsAnswer, output, Output, page}
use Rattle.sqlite.specs.Term.{eval_all}
use Rattle.sqlite.specs.Program.{overlay}
use Rattle.sqlite_catalog.specs.Listing.{IsSound}
use Rattle.sqlite.specs.State.{State, mode_of, Executes}
use Rattle.sqlite.proofs.Callers.{statement_of, runs_as, one_permutation}
use Rattle.book_statements.specs.Layout.{beside, IsLayout, outgoing_layout}
use Rattle.book_statements.specs.Steps.{WritesInto, SetsState, AreOutgoing, AreKeyed, PutByKey, key_of, outgoing_cells}
use Rattle.book_statements.proofs.WritingTexts.{set_state_text, set_state_query, set_state_is, set_state_plain}
use Rattle.book_statements.proofs.PutLemmas.{put_over}
use Rattle.book_statements.proofs.KeyLemmas.{itself, is_equal}
use Rattle.book_statements.proofs.UpsertLemmas.{no_match, one_match, only_row}
use Rattle.book_statements.proofs.Passing.{find_row, whose, whose_key, key_whose}
use Rattle.book_statements.proofs.Beside.{one_write, as_beside, into_book}
use Rattle.book_statements.proofs.Values.{cast_int, went, same_value}

empty_permutation : (ys : List Output) → IsPermutation [] ys → ys ≡ []
empty_permutation [] h = refl
empty_permutation (y ∷ ys) h = absurd (let e = length_permutation [] (y ∷ ys) h in cc)

key_names : (a b : List ℕ) (m n : ℤ) → ◌≡◌ {A = Row} (Text a ∷ Int m ∷ []) (Text b ∷ Int n ∷ []) → (a ≡ b) × (m ≡ n)
key_names a b m n e = (cc, cc)

module _ (who : List ℕ) (n : ℤ) (state : List ℕ) where
  abbrev params : Row
  params = Text who ∷ Int n ∷ Text state ∷ []

  abbrev test : Row → Bool
  test = whose (Text who) (Int n)

  module _ (schema : Schema) (lies : IsLayout schema) (db : Trees) (live : IsSound schema db) (tidy : AreKeyed 2 (db 4)) (shaped : AreOutgoing (db 4)) (out : List Row) (a : IsAnswer set_state_query (overlay db []) params out) where
    abbrev rows : List Row
    rows = db 4

    -- no row is the document's
    none_shown : ((r : Row) → Has rows r → test r ≡ false) → out ≡ []
    none_shown none =
        let staged : a.staged ≡ [] = a.grouped ∙ no_match test (λ r. params ∷ r ∷ []) rows none in
        let kept : a.kept ≡ [] = a.distinct ∙ ap (map (output set_state_query)) staged in
        a.shown ∙ ap (λ xs. page set_state_query params (map (λ (p : Output). p.1) xs)) (empty_permutation a.ordered (subst (λ k. IsPermutation k a.ordered) kept a.same))

    -- one is
    one_shown : (id : ℤ) (kind content before : List ℕ) → Has rows (Int id ∷ outgoing_cells who n kind content before) → out ≡ (Int id ∷ Int id ∷ outgoing_cells who n kind content state) ∷ []
    one_shown id kind content before there =
        let r0 : Row = Int id ∷ outgoing_cells who n kind content before in
        let staged : a.staged ≡ (params ∷ r0 ∷ []) ∷ [] = a.grouped ∙ one_match test (λ r. params ∷ r ∷ []) rows r0 tidy.rise there
        (key_whose (Int id) (Text who) (Int n) (outgoing_cells who n kind content before) refl refl refl)
        (λ r has h.
        let it = shaped r has in
        let key : key_of 2 r ≡ Text who ∷ Int n ∷ [] = subst (λ (x : Row). key_of 2 x ≡ Text who ∷ Int n ∷ []) (sym it.6) (whose_key (Int it.0) (Text who) (Int n) (outgoing_cells it.1 it.2 it.3 it.4 it.5) refl refl (subst (λ (x : Row). test x ≡ true) it.6 h)) in
        let same = only_row schema lies outgoing_layout.name 4 2 outgoing_layout.checks outgoing_layout.columns db (inr (inr (inl refl))) live tidy r r0 has there key in
        subst (λ (v : Value). value_cmp v (Int id) ≡ Equal) (sym (ap rowid same)) (tied (Int id))) in
        let o : Output = ([], eval_all set_state_query.project (params ∷ r0 ∷ [])) in
        let kept : a.kept ≡ o ∷ [] = a.distinct ∙ ap (map (output set_state_query)) staged in
        a.shown ∙ ap (λ xs. page set_state_query params (map (λ (p : Output). p.1) xs)) (one_permutation o a.ordered (subst (λ k. IsPermutation k a.ordered) kept a.same))
      where
        tied : (v : Value) → value_cmp v v ≡ Equal
        tied v = is_equal _ (itself v)

  -- what the step leaves
  stated : (schema : Schema) → IsLayout schema → (keys : Keys) (db next : Trees) → IsSound schema db → AreKeyed 2 (db 4) → AreOutgoing (db 4) → (out : List Row) → IsAnswer set_state_query (overlay db []) params out
      → Applies schema keys db (edit_of db outgoing_layout (ids_of out) Given 1 out) next → SetsState who n state (db 4) (next 4)
  stated schema lies keys db next live tidy shaped out a applied = elim (find_row test (db 4)) [
    | inl found ↦ some found.0 found.1 found.2
    | inr none ↦
        let shown = none_shown schema lies db live tidy shaped out a none in
        inl (
          λ row there same.
              let it = shaped row there in
              let hit : test row ≡ true = subst (λ (x : Row). test x ≡ true) (sym it.6) (key_whose (Int it.0) (Text who) (Int n) (outgoing_cells it.1 it.2 it.3 it.4 it.5) refl refl (subst (λ (x : Row). key_of 2 x ≡ Text who ∷ Int n ∷ []) it.6 same)) in
              let e : ◌≡◌ {A = Bool} true false = sym hit ∙ none row there in cc,
          applied.rows ∙ ap (λ rs. edited db (edit_of db outgoing_layout (ids_of rs) Given 1 rs)) shown,
        )
  ]
    where
      some : (row : Row) → Has (db 4) row → test row ≡ true → SetsState who n state (db 4) (next 4)
      some row there hit =
          let it = shaped row there in
          let key : key_of 2 row ≡ Text who ∷ Int n ∷ [] = subst (λ (x : Row). key_of 2 x ≡ Text who ∷ Int n ∷ []) (sym it.6) (whose_key (Int it.0) (Text who) (Int n) (outgoing_cells it.1 it.2 it.3 it.4 it.5) refl refl (subst (λ (x : Row). test x ≡ true) it.6 hit)) in
          let names = key_names it.1 who it.2 n (sym (ap (key_of 2) it.6) ∙ key) in
          let is : row ≡ Int it.0 ∷ outgoing_cells who n it.3 it.4 it.5 = it.6 ∙ (λ i. Int it.0 ∷ outgoing_cells (names.0 i) (names.1 i) it.3 it.4 it.5) in
          let here = subst (Has (db 4)) is there in
          let shown = one_shown schema lies db live tidy shaped out a it.0 it.3 it.4 it.5 here in
          let shows : List Row = (Int it.0 ∷ Int it.0 ∷ outgoing_cells who n it.3 it.4 state) ∷ [] in
          let step : Edit = record { table = outgoing_layout; gone = it.0 ∷ []; news = (Int it.0 ∷ outgoing_cells who n it.3 it.4 state) ∷ [] } in
          let cast : edit_of db outgoing_layout (ids_of shows) Given 1 shows ≡ step = rw (cast_int it.0, cast_int n) refl in
          let done = subst (λ e. Applies schema keys db e next) (ap (λ rs. edit_of db outgoing_layout (ids_of rs) Given 1 rs) shown ∙ cast) applied in
          let r0 : Row = Int it.0 ∷ outgoing_cells who n it.3 it.4 it.5 in
          inr (
            it.0,
            it.3,
            it.4,
            it.5,
            here,
            subst (PutByKey 2 (outgoing_cells who n it.3 it.4 state) (db 4)) (sym done.rows)
                (put_over 2 (outgoing_cells who n it.3 it.4 state) (db 4) tidy.rise it.0 r0 here refl refl
                (λ r has met. only_row schema lies outgoing_layout.name 4 2 outgoing_layout.checks outgoing_layout.columns db (inr (inr (inl refl))) live tidy r r0 has here met) done.fresh (itself (Int it.0))),
          )

  pub sets_state : (old new : State) (count : ℕ) → IsLayout old.now.schema → IsDatabase old.now → AreKeyed 2 (old.now.trees 4) → AreOutgoing (old.now.trees 4) → Executes set_state_text params old new (Ok count)
      → WritesInto 4 (SetsState who n state) old.now new.now
  sets_state old new count lies live tidy shaped h =
      let others = lies.others in
      let has = lies.is in
      let db = old.now.trees in
      let keys = (mode_of old).keys in
      let command = Update 2 (record { lets = []; body = set_state_query }) in
      let w = runs_as set_state_text params old new (beside others) has command (set_state_is others) (set_state_plain others) count h in
      let text = statement_of set_state_text (understood (beside others) set_state_text) in
      let done = went (subst (λ s. Does old.step_limit (mode_of old) params (record old.now { schema = s }) text None command (Ok (w.tally, new.now))) has w.changed) in
      let now = ap (λ (p : Tally × Database). p.1) (same_value (went (went done.2).2).2) in
      let asked = went done.1 in
      let written = went asked.2 in
      let trees : new.now.trees ≡ written.0 = ap (λ (d : Database). d.trees) now ∙ ap (λ (it : Written). it.trees) (same_value written.2) in
      let step : Edit = edit_of db outgoing_layout (ids_of asked.0) Given 1 asked.0 in
      let applied = subst (Applies (beside others) keys db step) (sym trees) (one_write (beside others) (as_beside old.now.schema lies) _ db written.0 step (inr (inr (inl refl))) written.1) in
      into_book 4 refl (SetsState who n state) old.now new.now lies (record {
        sound = w.sound;
        schema = ap (λ (d : Database). d.schema) now ∙ sym has;
        others = subst (λ (s : Schema). AllByRecursion (λ (t : Table). t.tree ≢ 4 → new.now.trees t.tree ≡ db t.tree) s.tables) (sym has) applied.tables;
        rows = stated (beside others) (as_beside old.now.schema lies) keys db new.now.trees (subst (λ s. IsSound s db) has live) tidy shaped asked.0 (let a = asked.1 in a.answer Null) applied;
      })
