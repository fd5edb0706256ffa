-- What the DELETE from `reservation` does.
use Rattle.std.proofs.Common.{◌≡◌, ◌≢◌, inl, inr, ℕ, ℤ, List, [], ◌∷◌, map, filter, not, Bool, true, false, None, Ok, refl, sym, ap, subst, ◌∙◌}
use Rattle.std.specs.Ordering.{is_eq}
use Rattle.sqlite.specs.declared.types.Value.{Value}
use Rattle.sqlite.specs.declared.types.Value.TheVariants.{Null, Int, Text}
use Rattle.sqlite.specs.Order.{Row, value_cmp}
use Rattle.sqlite.specs.Command.TheVariants.{Delete}
use Rattle.sqlite.specs.Edit.{edit_of}
use Rattle.sqlite_rules.specs.Edit.{Applies, Edit, id_in, row_at, without_all}
use Rattle.sqlite_rules.specs.Calls.{ids_of}
use Rattle.sqlite_rules.specs.Lists.{Has}
use Rattle.sqlite.specs.Rowids.TheVariants.{Given}
use Rattle.sqlite.specs.Does.{Tally, Does}
use Rattle.sqlite.specs.Rows.{Written}
use Rattle.sqlite.specs.Tree.{Trees, IsTable, rowid, has_rowid, without_rowid}
use Rattle.sqlite.specs.Table.{Table}
use Rattle.sqlite.specs.Schema.{Schema}
use Rattle.std.specs.List.{AllByRecursion}
use Rattle.sqlite.specs.Listing.{understood}
use Rattle.sqlite.specs.Effect.{Database}
use Rattle.sqlite.specs.Query.{IsAnswer, output}
use Rattle.sqlite.specs.Program.{overlay}
use Rattle.sqlite.specs.State.{State, mode_of, Executes}
use Rattle.sqlite.proofs.Callers.{statement_of, runs_as}
use Rattle.sqlite_rules.proofs.ListLemmas.{has_filtered}
use Rattle.sqlite_rules.proofs.TableLemmas.{without_all_has}
use Rattle.sqlite_rules.proofs.PlaceLemmas.{left_or_taken, row_at_is}
use Rattle.sqlite_rules.proofs.ProbeLemmas.{has_mapped, mapped_has}
use Rattle.book_statements.specs.Layout.{beside, IsLayout, reservation_layout}
use Rattle.book_statements.specs.Steps.{WritesInto, TakenByKey, AreKeyed, key_of}
use Rattle.book_statements.proofs.WritingTexts.{free_text, free_query, free_is, free_plain}
use Rattle.book_statements.proofs.PutLemmas.{filter_table}
use Rattle.book_statements.proofs.KeyLemmas.{itself}
use Rattle.book_statements.proofs.Passing.{flat_map-cond, from_row, to_row, fewer, whose, whose_key, key_whose}
use Rattle.book_statements.proofs.Beside.{one_write, as_beside, into_book}
use Rattle.book_statements.proofs.Values.{went, same_value}

without_table : (ids : List ℤ) (rows : List Row) → IsTable rows → IsTable (without_all rows ids)
without_table [] rows up = up
without_table (id ∷ ids) rows up = without_table ids (without_rowid id rows) (filter_table (λ r. not (has_rowid id r)) rows up)

not_true : (b : Bool) → b ≡ true → not b ≡ true → ⊥
not_true true h k = let e : ◌≡◌ {A = Bool} false true = k in cc
not_true false h k = let e : ◌≡◌ {A = Bool} false true = h in cc

-- a row whose rowid is taken out isn't left
gone : (ids : List ℤ) (rows : List Row) (id : ℤ) (row : Row) → Has ids id → has_rowid id row ≡ true → Has (without_all rows ids) row → ⊥
gone [] rows id row none has left = none
gone (x ∷ ids) rows id row (inl here) has left =
    not_true (has_rowid x row) (subst (λ (n : ℤ). has_rowid n row ≡ true) here has) (has_filtered (λ r. not (has_rowid x r)) rows row (without_all_has ids (without_rowid x rows) row left)).1
gone (x ∷ ids) rows id row (inr later) has left = gone ids (without_rowid x rows) id row later has left

module _ (who order : List ℕ) (rows : List Row) (tidy : AreKeyed 4 rows) (out : List Row) where
  abbrev key : Row
  key = Text who ∷ Text order ∷ []

  abbrev test : Row → Bool
  test = whose (Text who) (Text order)

  passes_key : (row : Row) → Has rows row → test row ≡ true → key_of 2 row ≡ key
  passes_key row there h =
      let it = tidy.each row there in
      subst (λ (r : Row). key_of 2 r ≡ key) (sym it.2) (whose_key (Int it.0) (Text who) (Text order) it.1 refl (fewer 2 it.1 (fewer 3 it.1 it.3)) (subst (λ (r : Row). test r ≡ true) it.2 h))

  key_passes : (row : Row) → Has rows row → key_of 2 row ≡ key → test row ≡ true
  key_passes row there h =
      let it = tidy.each row there in
      subst (λ (r : Row). test r ≡ true) (sym it.2) (key_whose (Int it.0) (Text who) (Text order) it.1 refl (fewer 2 it.1 (fewer 3 it.1 it.3)) (subst (λ (r : Row). key_of 2 r ≡ key) it.2 h))

  taken : ((row : Row) → Has out row → (r : Row) × Has rows r × (test r ≡ true) × (row ≡ rowid r ∷ [])) → ((r : Row) → Has rows r → test r ≡ true → Has out (rowid r ∷ []))
      → TakenByKey 2 key rows (without_all rows (ids_of out))
  taken sound complete = record {
    rise = without_table (ids_of out) rows tidy.rise;
    sound = λ row left.
        let there = without_all_has (ids_of out) rows row left in (
          there,
          λ same.
              let it = tidy.each row there in
              let id : rowid row ≡ Int it.0 = ap rowid it.2 in
              let listed : Has (ids_of out) it.0 = subst (λ (n : ℤ). Has (ids_of out) n) (ap id_in id) (mapped_has (λ (r : Row). id_in (rowid r)) out (rowid row ∷ []) (complete row there (key_passes row there same))) in
              gone (ids_of out) rows it.0 row listed (subst (λ (v : Value). is_eq (value_cmp v (Int it.0)) ≡ true) (sym id) (itself (Int it.0))) left,
        );
    kept = λ row there other. elim (left_or_taken rows (ids_of out) row tidy.rise there) [
      | inl left ↦ left
      | inr mapped ↦ absurd (
          let at = has_mapped (row_at rows) (ids_of out) row mapped in
          let o = has_mapped (λ (r : Row). id_in (rowid r)) out at.0 at.1 in
          let r = sound o.0 o.1 in
          let it = tidy.each r.0 r.1 in
          let id : rowid r.0 ≡ Int it.0 = ap rowid it.2 in
          let named : at.0 ≡ it.0 = o.2 ∙ ap (λ (x : Row). id_in (rowid x)) r.3 ∙ ap id_in id in
          let its : row_at rows at.0 ≡ r.0 = row_at_is rows at.0 r.0 tidy.rise r.1 (subst (λ (v : Value). is_eq (value_cmp v (Int at.0)) ≡ true) (ap Int named ∙ sym id) (itself (Int at.0))) in
          other (ap (key_of 2) (at.2 ∙ its) ∙ passes_key r.0 r.1 r.2))
    ];
  }

module _ (who order : List ℕ) where
  abbrev params : Row
  params = Text who ∷ Text order ∷ []

  found : (db : Trees) (tidy : AreKeyed 4 (db 16)) (out : List Row) → IsAnswer free_query (overlay db []) params out → TakenByKey 2 params (db 16) (without_all (db 16) (ids_of out))
  found db tidy out a =
      let test : Row → Bool = whose (Text who) (Text order) in
      let is : a.kept ≡ map (output free_query) (map (λ (r : Row). params ∷ r ∷ []) (filter test (db 16))) = a.distinct ∙ ap (map (output free_query)) (a.grouped ∙ flat_map-cond test (λ (r : Row). params ∷ r ∷ []) (db 16)) in
      taken who order (db 16) tidy out
      (from_row free_query params test (db 16) out a.kept a.ordered is a.same a.shown)
      (to_row free_query params test (db 16) out a.kept a.ordered is a.same a.shown)

  pub frees : (old new : State) (count : ℕ) → IsLayout old.now.schema → AreKeyed 4 (old.now.trees 16) → Executes free_text params old new (Ok count)
      → WritesInto 16 (TakenByKey 2 params) old.now new.now
  frees old new count lies tidy h =
      let others = lies.others in
      let has = lies.is in
      let db = old.now.trees in
      let command = Delete 8 (record { lets = []; body = free_query }) in
      let w = runs_as free_text params old new (beside others) has command (free_is others) (free_plain others) count h in
      let text = statement_of free_text (understood (beside others) free_text) in
      let done = went (subst (λ s. Does old.step_limit (mode_of old) params (record old.now { schema = s }) text None command (Ok (w.tally, new.now))) has w.changed) in
      let now = ap (λ (p : Tally × Database). p.1) (same_value (went (went done.2).2).2) in
      let asked = went done.1 in
      let written = went asked.2 in
      let trees : new.now.trees ≡ written.0 = ap (λ (d : Database). d.trees) now ∙ ap (λ (it : Written). it.trees) (same_value written.2) in
      let step : Edit = edit_of db reservation_layout (ids_of asked.0) Given 0 [] in
      let applied = subst (Applies (beside others) (mode_of old).keys db step) (sym trees) (one_write (beside others) (as_beside old.now.schema lies) _ db written.0 step (inr (inr (inr (inr (inr (inr (inr (inr (inl refl))))))))) written.1) in
      into_book 16 refl (TakenByKey 2 params) old.now new.now lies (record {
        sound = w.sound;
        schema = ap (λ (d : Database). d.schema) now ∙ sym has;
        others = subst (λ (s : Schema). AllByRecursion (λ (t : Table). t.tree ≢ 16 → new.now.trees t.tree ≡ db t.tree) s.tables) (sym has) applied.tables;
        rows = subst (TakenByKey 2 params (db 16)) (sym applied.rows) (found db tidy asked.0 (let a = asked.1 in a.answer Null));
      })
