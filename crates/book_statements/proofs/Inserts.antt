-- The inserts into `book`, `entry`, `entry_rules` and `outgoing`.
use Rattle.std.proofs.Common.{◌≡◌, ◌≢◌, inl, inr, ℕ, ℤ, List, [], ◌∷◌, None, Some, Ok, refl, sym, ap, subst, ◌∙◌}
use Rattle.std.specs.Prelude.{slice_get}
use Rattle.sqlite.specs.declared.types.Value.TheVariants.{Null, Int, Text, Blob}
use Rattle.sqlite.specs.Order.{Row}
use Rattle.sqlite.specs.Command.TheVariants.{Insert}
use Rattle.sqlite.specs.Source.TheVariants.{Values}
use Rattle.sqlite.specs.Edit.{edit_of, edited, next_rowid}
use Rattle.sqlite_rules.specs.Edit.{Applies}
use Rattle.sqlite.specs.Rowids.TheVariants.{Chosen}
use Rattle.sqlite.specs.Does.{Tally, Does, AtPlace, OnRows}
use Rattle.sqlite.specs.Rows.{Written}
use Rattle.sqlite.specs.Table.{Table}
use Rattle.sqlite.specs.Schema.{Schema}
use Rattle.std.specs.List.{AllByRecursion}
use Rattle.sqlite.specs.Tree.{put_row}
use Rattle.sqlite.specs.Listing.{understood}
use Rattle.sqlite.specs.Effect.{Database}
use Rattle.sqlite.specs.State.{State, mode_of, Executes}
use Rattle.sqlite.specs.Given.{IsPlain}
use Rattle.sqlite.proofs.Callers.{command_of, statement_of, runs_as}
use Rattle.book_statements.specs.Layout.{beside, IsLayout, book_layout, entry_layout, entry_rules_at, rules_tree, outgoing_layout}
use Rattle.book_statements.specs.Steps.{WritesInto, PutByKey, AreKeyed}
use Rattle.book_statements.proofs.WritingTexts.{source, columns_of, insert_book_text, insert_book_is, insert_book_plain, insert_entry_text, insert_entry_is, insert_entry_plain, insert_rules_text, insert_outgoing_text, insert_outgoing_is, insert_outgoing_plain}
use Rattle.sqlite.specs.Term.{lit, col}
use Rattle.book_statements.proofs.UpsertLemmas.{IsUpsert}
use Rattle.book_statements.proofs.KeyedInserts.{inserts}
use Rattle.book_statements.proofs.Beside.{one_write, as_beside, into_book, under}
use Rattle.book_statements.proofs.RulesTexts.{insert_rules_is, insert_rules_plain}
use Rattle.book_statements.proofs.Values.{cast_int, cast_null, went, same_value}

module _ (version : ℤ) (qualifier id : List ℕ) where
  abbrev book_cells : Row
  book_cells = Int version ∷ Text qualifier ∷ Text id ∷ []

  pub inserts_book : (old new : State) (count : ℕ) → IsLayout old.now.schema → Executes insert_book_text book_cells old new (Ok count)
      → WritesInto 0 (λ before after. after ≡ put_row (Int (next_rowid before) ∷ book_cells) before) old.now new.now
  inserts_book old new count lies h =
      let others = lies.others in
      let has = lies.is in
      let db = old.now.trees in
      let command = Insert 0 (Values (source 3) 4) in
      let w = runs_as insert_book_text book_cells old new (beside others) has command (insert_book_is others) (insert_book_plain others) count h in
      let text = statement_of insert_book_text (understood (beside others) insert_book_text) in
      let done = went (subst (λ s. Does old.step_limit (mode_of old) book_cells (record old.now { schema = s }) text None command (Ok (w.tally, new.now))) has w.changed) in
      let now = ap (λ (p : Tally × Database). p.1) (same_value (went (went done.2).2).2) in
      let given = went done.1 in
      let written = went (went given.2).2 in
      let counted = went written.2 in
      let trees : new.now.trees ≡ written.0 = ap (λ (d : Database). d.trees) now ∙ ap (λ (it : Written). it.trees) (same_value counted.2) ∙ same_value counted.1 in
      let applied = subst (Applies (beside others) (mode_of old).keys db (edit_of db book_layout [] Chosen 0 given.0)) (sym trees) (one_write (beside others) (as_beside old.now.schema lies) _ db written.0 (edit_of db book_layout [] Chosen 0 given.0) (inl refl) written.1) in
      let edit : edited db (edit_of db book_layout [] Chosen 0 given.0) ≡ put_row (Int (next_rowid (db 0)) ∷ book_cells) (db 0) = ap (λ all. edited db (edit_of db book_layout [] Chosen 0 all)) given.1.1 ∙ rw (cast_null, cast_int version) refl in
      into_book 0 refl (λ before after. after ≡ put_row (Int (next_rowid before) ∷ book_cells) before) old.now new.now lies (record {
        sound = w.sound;
        schema = ap (λ (d : Database). d.schema) now ∙ sym has;
        others = subst (λ (s : Schema). AllByRecursion (λ (t : Table). t.tree ≢ 0 → new.now.trees t.tree ≡ db t.tree) s.tables) (sym has) applied.tables;
        rows = applied.rows ∙ edit;
      })

module _ (seq : ℤ) (who mark : List ℕ) (n : ℤ) (moment body : List ℕ) where
  abbrev entry_params : Row
  entry_params = Int seq ∷ Text who ∷ Text mark ∷ Int n ∷ Text moment ∷ Blob body ∷ []

  abbrev entry_cells : Row
  entry_cells = Int seq ∷ Null ∷ Text who ∷ Text mark ∷ Int n ∷ Text moment ∷ Blob body ∷ []

  pub inserts_entry : (old new : State) (count : ℕ) → IsLayout old.now.schema → Executes insert_entry_text entry_params old new (Ok count)
      → WritesInto 1 (λ before after. after ≡ put_row entry_cells before) old.now new.now
  inserts_entry old new count lies h =
      let others = lies.others in
      let has = lies.is in
      let db = old.now.trees in
      let command = Insert 1 (Values (col 0 0 ∷ lit Null ∷ columns_of 0 1 5) 7) in
      let w = runs_as insert_entry_text entry_params old new (beside others) has command (insert_entry_is others) (insert_entry_plain others) count h in
      let text = statement_of insert_entry_text (understood (beside others) insert_entry_text) in
      let done = went (subst (λ s. Does old.step_limit (mode_of old) entry_params (record old.now { schema = s }) text None command (Ok (w.tally, new.now))) has w.changed) in
      let now = ap (λ (p : Tally × Database). p.1) (same_value (went (went done.2).2).2) in
      let given = went done.1 in
      let written = went (went given.2).2 in
      let counted = went written.2 in
      let trees : new.now.trees ≡ written.0 = ap (λ (d : Database). d.trees) now ∙ ap (λ (it : Written). it.trees) (same_value counted.2) ∙ same_value counted.1 in
      let applied = subst (Applies (beside others) (mode_of old).keys db (edit_of db entry_layout [] Chosen 0 given.0)) (sym trees) (one_write (beside others) (as_beside old.now.schema lies) _ db written.0 (edit_of db entry_layout [] Chosen 0 given.0) (inr (inl refl)) written.1) in
      let edit : edited db (edit_of db entry_layout [] Chosen 0 given.0) ≡ put_row entry_cells (db 1) = ap (λ all. edited db (edit_of db entry_layout [] Chosen 0 all)) given.1.1 ∙ rw (cast_int seq, cast_null, cast_int n) refl in
      into_book 1 refl (λ before after. after ≡ put_row entry_cells before) old.now new.now lies (record {
        sound = w.sound;
        schema = ap (λ (d : Database). d.schema) now ∙ sym has;
        others = subst (λ (s : Schema). AllByRecursion (λ (t : Table). t.tree ≢ 1 → new.now.trees t.tree ≡ db t.tree) s.tables) (sym has) applied.tables;
        rows = applied.rows ∙ edit;
      })

module _ (seq rules : ℤ) where
  abbrev rules_params : Row
  rules_params = Int seq ∷ Int rules ∷ []

  abbrev rules_cells : Row
  rules_cells = Int seq ∷ Null ∷ Int rules ∷ []

  pub inserts_rules : (old new : State) (count : ℕ) → IsLayout old.now.schema → Executes insert_rules_text rules_params old new (Ok count)
      → WritesInto 18 (λ before after. after ≡ put_row rules_cells before) old.now new.now
  inserts_rules old new count lies h =
      let schema = old.now.schema in
      let place = lies.rules in
      let tree = rules_tree schema in
      let table = entry_rules_at tree in
      let db = old.now.trees in
      let keys = (mode_of old).keys in
      let command = Insert lies.rules_place (Values (col 0 0 ∷ lit Null ∷ columns_of 0 1 1) 3) in
      let w = runs_as insert_rules_text rules_params old new schema refl command (insert_rules_is schema lies.rules_place tree place) (insert_rules_plain schema lies.rules_place tree place) count h in
      let done = went (subst (λ t. AtPlace (λ table. OnRows (record { limit = old.step_limit; keys = keys; schema = schema; table = table; params = rules_params }) (mode_of old) None command db) t (Ok (w.tally, new.now))) place.there w.changed) in
      let now = ap (λ (p : Tally × Database). p.1) (same_value (went (went done.2).2).2) in
      let given = went done.1 in
      let written = went (went given.2).2 in
      let counted = went written.2 in
      let trees : new.now.trees ≡ written.0 = ap (λ (d : Database). d.trees) now ∙ ap (λ (it : Written). it.trees) (same_value counted.2) ∙ same_value counted.1 in
      let applied = subst (Applies schema keys db (edit_of db table [] Chosen 0 given.0)) (sym trees) (one_write schema lies keys db written.0 (edit_of db table [] Chosen 0 given.0) (inr (inr (inr (inr (inr (inr (inr (inr (inr (inl refl)))))))))) written.1) in
      let edit : edited db (edit_of db table [] Chosen 0 given.0) ≡ put_row rules_cells (db tree) = ap (λ all. edited db (edit_of db table [] Chosen 0 all)) given.1.1 ∙ rw (cast_int seq, cast_null, cast_int rules) refl in
      into_book 18 refl (λ before after. after ≡ put_row rules_cells before) old.now new.now lies (record {
        sound = w.sound;
        schema = ap (λ (d : Database). d.schema) now;
        others = applied.tables;
        rows = applied.rows ∙ edit;
      })

module _ (who : List ℕ) (n : ℤ) (kind content state : List ℕ) where
  abbrev outgoing_row : Row
  outgoing_row = Text who ∷ Int n ∷ Text kind ∷ Blob content ∷ Text state ∷ []

  pub outgoing_known : IsUpsert outgoing_layout.name 2 outgoing_layout.tree 2 5 outgoing_layout.checks outgoing_layout.columns outgoing_row
  outgoing_known = record {
    guarded = λ new r. refl;
    read = λ db. refl;
    is_key = refl;
    cast = rw (cast_int n) refl;
    given = refl;
    named = λ id more. refl;
    projects = λ id param rest more. refl;
  }

  pub inserts_outgoing : (old new : State) (count : ℕ) → IsLayout old.now.schema → AreKeyed 2 (old.now.trees 4) → Executes insert_outgoing_text outgoing_row old new (Ok count)
      → WritesInto 4 (PutByKey 2 outgoing_row) old.now new.now
  inserts_outgoing old new count lies tidy h =
      let schema = old.now.schema in
      into_book 4 refl (PutByKey 2 outgoing_row) old.now new.now lies (inserts outgoing_layout.name 2 outgoing_layout.tree 2 5 outgoing_layout.checks outgoing_layout.columns outgoing_row outgoing_known insert_outgoing_text
      old new count lies (inr (inr (inl refl))) (under (λ s. slice_get s.tables 2 ≡ Some outgoing_layout) schema lies (λ others. refl))
      (under (λ s. command_of (understood s insert_outgoing_text) ≡ Insert 2 (Values (source 5) 6)) schema lies insert_outgoing_is) (under (λ s. IsPlain (understood s insert_outgoing_text)) schema lies insert_outgoing_plain) tidy h)
