-- What an INSERT does to a table whose first columns are its key.
use Rattle.std.proofs.Common.{◌≡◌, ◌≢◌, ◌+◌, inl, inr, ℕ, List, [], ◌∷◌, take, ◌&&◌, not, Bool, true, false, None, Some, Option, Ok, refl, sym, ap, subst, ◌∙◌}
use Rattle.std.specs.Prelude.{slice_get}
use Rattle.std.specs.Ordering.{is_eq}
use Rattle.std.specs.declared.cmp.Ordering.TheVariants.{Equal}
use Rattle.std.proofs.lemmas.Bool.{cases_Bool}
use Rattle.sqlite.specs.declared.types.Value.{Value}
use Rattle.sqlite.specs.declared.types.Value.TheVariants.{Null, Int}
use Rattle.sqlite.specs.Order.{Row, value_cmp}
use Rattle.sqlite_value.specs.Keys.{plain}
use Rattle.sqlite_schema.specs.Rules.{agree, differ}
use Rattle.sqlite_schema.specs.declared.schema.Column.{Column}
use Rattle.sqlite_rules.specs.Lists.{Has}
use Rattle.sqlite.specs.Command.TheVariants.{Insert}
use Rattle.sqlite.specs.Source.TheVariants.{Values}
use Rattle.sqlite.specs.Edit.{edit_of, next_rowid, with_rowid}
use Rattle.sqlite.specs.Cast.{cast_row}
use Rattle.sqlite.specs.Rowids.TheVariants.{Chosen}
use Rattle.sqlite_rules.specs.Edit.{Applies, Edit, is_taken}
use Rattle.sqlite_rules.proofs.TableLemmas.{has_put, put_all_keeps}
use Rattle.sqlite.specs.Does.{Tally, AtPlace, OnRows}
use Rattle.sqlite_schema.specs.declared.schema.Keys.{Keys}
use Rattle.sqlite.specs.Rows.{Task, Written, Inserts}
use Rattle.sqlite.specs.Table.{Table}
use Rattle.sqlite.specs.Schema.{Schema}
use Rattle.sqlite.specs.Tree.{Trees, rowid}
use Rattle.sqlite.specs.Listing.{understood}
use Rattle.sqlite.specs.Given.{IsPlain}
use Rattle.sqlite.specs.Effect.{Database}
use Rattle.sqlite.specs.Term.{Term}
use Rattle.sqlite_rules.proofs.ListLemmas.{some_from}
use Rattle.sqlite_catalog.proofs.AlterLemmas.{keys_are_unique}
use Rattle.sqlite.specs.State.{State, mode_of, Executes}
use Rattle.sqlite_catalog.specs.Listing.{IsSound}
use Rattle.sqlite.proofs.Callers.{command_of, runs_as}
use Rattle.book_statements.specs.Layout.{keyed, ours, IsLayout}
use Rattle.book_statements.specs.Steps.{PutByKey, AreKeyed, WritesAt, key_of}
use Rattle.book_statements.proofs.PutLemmas.{put_free}
use Rattle.book_statements.proofs.KeyLemmas.{places, keys_agree, not_ne, differ_ints}
use Rattle.book_statements.proofs.WritingTexts.{source}
use Rattle.book_statements.proofs.Beside.{ours_listed, one_write}
use Rattle.book_statements.proofs.Values.{cast_null, went, same_value}
use Rattle.book_statements.proofs.UpsertLemmas.{IsUpsert}

module _ (name : List ℕ) (at tree k n : ℕ) (checks : List Term) (columns : List Column) (cells : Row) where
  abbrev table : Table
  table = keyed name tree (places 1 k) checks columns

  module _ (schema : Schema) (lies : IsLayout schema) (listed : Has (ours schema) table) (known : IsUpsert name at tree k n checks columns cells) (limit : Option ℕ) (keys : Keys) (db : Trees) where
    abbrev task : Task
    task = record { limit = limit; keys = keys; schema = schema; table = table; params = cells }

    abbrev rows : List Row
    rows = db tree

    abbrev new : Row
    new = Int (next_rowid rows) ∷ cells

    stored : with_rowid Chosen rows (cast_row table (Null ∷ cells)) ≡ new
    stored = rw (cast_null, known.cast) refl

    abbrev step : Edit
    step = record { table = table; gone = []; news = new ∷ [] }

    inserted : (w : Written) → Inserts task (Values (source n) (n + 1)) db (Ok w) → Applies schema keys db step w.trees
    inserted w h =
        let given = went h in
        let counter = went given.2 in
        let written = went counter.2 in
        let counted = went written.2 in
        let trees : w.trees ≡ written.0 = ap (λ (it : Written). it.trees) (same_value counted.2) ∙ same_value counted.1 in
        let applied = one_write schema lies keys db written.0 (edit_of db table [] Chosen 0 given.0) listed written.1 in
        let edit : edit_of db table [] Chosen 0 given.0 ≡ step =
        ap (edit_of db table [] Chosen 0) (given.1.1 ∙ known.given) ∙ ap (λ (r : Row). record { table = table; gone = []; news = r ∷ [] }) stored in
        subst (Applies schema keys db step) (sym trees) (subst (λ e. Applies schema keys db e written.0) edit applied)

    -- no row had the key, since no two have it now
    was_free : (next : Trees) → AreKeyed k rows → IsSound schema next → Applies schema keys db step next → (r : Row) → Has rows r → key_of k r ≢ take k cells
    was_free next tidy sound done r there same =
        let it = tidy.each r there in
        let here : Has (next tree) new = subst (λ rs. Has rs new) (sym done.rows) (has_put new rows) in
        let still : Has (next tree) r = subst (λ rs. Has rs r) (sym done.rows) (put_all_keeps (new ∷ []) rows r done.fresh there) in
        let alike : agree plain (places 1 k) r (places 1 k) new ≡ true =
        rw it.2 (keys_agree k (Int it.0) (Int (next_rowid rows)) it.1 cells it.3 known.is_key (sym (ap (key_of k) it.2) ∙ same)) in
        let clear = keys_are_unique schema next table 0 (places 1 k) new sound (ours_listed schema lies table listed) refl here in
        elim (cases_Bool (differ (rowid r) (rowid new))) [
          | inl apart ↦
              let e = some_from (λ other. agree plain (places 1 k) other (places 1 k) new && differ (rowid other) (rowid new)) (next tree) r still (rw (alike, apart) refl) in
              let f : ◌≡◌ {A = Bool} true false = sym e ∙ clear in cc
          | inr tied ↦
              let equal : value_cmp (rowid r) (rowid new) ≡ Equal =
              subst (λ (v : Value). value_cmp v (rowid new) ≡ Equal) (ap rowid (sym it.2))
              (not_ne _ (sym (differ_ints it.0 (next_rowid rows)) ∙ subst (λ (v : Value). differ v (rowid new) ≡ false) (ap rowid it.2) tied)) in
              let taken : is_taken rows new ≡ true = some_from (λ other. is_eq (value_cmp (rowid other) (rowid new))) rows r there (ap is_eq equal) in
              never_fresh (is_taken rows new) taken done.fresh
        ]
      where
        never_fresh : (b : Bool) → b ≡ true → (not b && true) ≡ true → ⊥
        never_fresh true h k = let e : ◌≡◌ {A = Bool} false true = k in cc
        never_fresh false h k = let e : ◌≡◌ {A = Bool} false true = h in cc

  pub inserts : IsUpsert name at tree k n checks columns cells → (sql : List ℕ) (old new : State) (count : ℕ) → IsLayout old.now.schema → Has (ours old.now.schema) table → slice_get old.now.schema.tables at ≡ Some table
      → command_of (understood old.now.schema sql) ≡ Insert at (Values (source n) (n + 1)) → IsPlain (understood old.now.schema sql)
      → AreKeyed k (old.now.trees tree) → Executes sql cells old new (Ok count) → WritesAt tree (PutByKey k cells) old.now new.now
  inserts known sql old new count lies listed spot text_is plain_text tidy h =
      let schema = old.now.schema in
      let db = old.now.trees in
      let keys = (mode_of old).keys in
      let command = Insert at (Values (source n) (n + 1)) in
      let w = runs_as sql cells old new schema refl command text_is plain_text count h in
      let done = went (subst (λ t. AtPlace (λ table. OnRows (record { limit = old.step_limit; keys = keys; schema = schema; table = table; params = cells }) (mode_of old) None command db) t (Ok (w.tally, new.now))) spot w.changed) in
      let now = ap (λ (p : Tally × Database). p.1) (same_value (went (went done.2).2).2) in
      let trees : new.now.trees ≡ done.0.trees = ap (λ (d : Database). d.trees) now in
      let did : Applies schema keys db (step schema lies listed known old.step_limit keys db) new.now.trees = subst (Applies schema keys db (step schema lies listed known old.step_limit keys db)) (sym trees) (inserted schema lies listed known old.step_limit keys db done.0 done.1) in
      let same : new.now.schema ≡ schema = ap (λ (d : Database). d.schema) now in
      let sound : IsSound schema new.now.trees = subst (λ s. IsSound s new.now.trees) same w.sound in
      record {
        sound = w.sound;
        schema = same;
        others = did.tables;
        rows = subst (PutByKey k cells (db tree)) (sym did.rows)
            (put_free k cells (db tree) tidy.rise (next_rowid (db tree)) did.fresh (was_free schema lies listed known old.step_limit keys db new.now.trees tidy sound did));
      }
