-- What a text that only reads leaves of the tables, and what it finds.
use Rattle.std.proofs.Common.{◌≡◌, inl, inr, ℕ, List, [], None, Some, Option, false, IsTrue, refl, sym, ap, subst, subst₂, ◌∙◌, arith, append-nil}
use Rattle.sqlite.specs.Order.{Row}
use Rattle.sqlite.specs.Tree.{Trees}
use Rattle.sqlite.specs.Schema.{Schema}
use Rattle.sqlite.specs.Command.{Command}
use Rattle.sqlite.specs.Command.TheVariants.{Select}
use Rattle.sqlite.specs.Query.{Query, IsAnswer}
use Rattle.sqlite.specs.Program.{overlay}
use Rattle.sqlite.specs.declared.types.Value.TheVariants.{Null}
use Rattle.sqlite.specs.Effect.{Database, Reads}
use Rattle.sqlite.specs.State.{State, Shown, ShowsRows, IsUnchanged, IsRolledBack, FailsToQuery, FailsToShow, IsNotRun, Survives, CommitsShowing, HasCleanDisk}
use Rattle.sqlite.specs.Clock.{timed}
use Rattle.sqlite.specs.Listing.{understood, reads_listing, IsSourceOf}
use Rattle.sqlite.specs.declared.error.Error.{Error}
use Rattle.sqlite_schema.specs.declared.command.Returning.{Returning}
use Rattle.sqlite.proofs.StateLemmas.{survives_then}
use Rattle.sqlite.proofs.Callers.{command_of}
use Rattle.book_statements.specs.Layout.{Others, beside, IsLayout, IsFirstLayout, tree_in, book_trees}
use Rattle.book_statements.specs.Exits.{IsAsBefore}
use Rattle.book_statements.specs.Asking.{Finds, IsAsked, OnlyReads}
use Rattle.book_statements.proofs.PlacedAnswers.{from_tree, answer_moved}
use Rattle.book_statements.proofs.Values.{overlay_lies}

unchanged_before : (old new : State) → IsUnchanged old new → IsAsBefore old new
unchanged_before old new h = record { was_open = λ _. h.0.was_open; now = λ _. h.0.now_is; committed = λ _. h.0.committed_is }

before_trans : (a b c : State) → IsUnchanged a b → IsAsBefore b c → IsAsBefore a c
before_trans a b c p q = record { was_open = λ _. p.0.was_open; now = λ o. q.now o ∙ p.0.now_is; committed = λ o. q.committed o ∙ p.0.committed_is }

undone_before : (old new : State) → (IsTrue old.is_open → old.now ≡ old.committed) → IsRolledBack old new → IsAsBefore old new
undone_before old new settled h = record { was_open = h.was_open; now = λ still. (h.undone still).0 ∙ sym (settled (h.was_open still)); committed = λ still. (h.undone still).1 }

shown_before : (sql : List ℕ) (given : Row) (old new : State) (rows : List Row) → OnlyReads sql → Shown sql given old new rows → IsAsBefore old new
unfolding Shown
shown_before sql given old new rows reads h =
    let plain = reads old.now.schema h.0 h.1.is in
    unchanged_before old new (subst (ShowsRows old new sql h.0 (timed given h.0.formats h.1.now) rows) plain.0 h.2).3

fails_before : (sql : List ℕ) (given : Row) (old new : State) (e : Error) → (IsTrue old.is_open → old.now ≡ old.committed) → FailsToQuery sql given old new e → IsAsBefore old new
unfolding FailsToQuery IsNotRun
fails_before sql given old new e settled (inl (inl it)) = unchanged_before old new it.1
fails_before sql given old new e settled (inl (inr it)) = undone_before old new settled it.3
fails_before sql given old new e settled (inr it) = go it.0.returning it.2
  where
    go : (what : Option Returning) → FailsToShow old new sql it.0 (timed given it.0.formats it.1.now) e what → IsAsBefore old new
    go None f = unchanged_before old new f.3
    go (Some what) (inl f) = unchanged_before old new f.1
    go (Some what) (inr f) = undone_before old new settled f.3

-- the text was not understood, or the store failed at it
pub not_prepared : (old new : State) (sql : List ℕ) (e : Error) → (IsTrue old.is_open → old.now ≡ old.committed) → (HasCleanDisk new → (given : Row) → IsNotRun old new sql given e) → Survives old new (λ _. ⊥) → IsAsked old new
unfolding IsNotRun
not_prepared old new sql e settled fails survives = record {
  same = λ clean. elim (fails clean []) [ inl it ↦ unchanged_before old new it.1 | inr it ↦ undone_before old new settled it.3 ];
  crash = survives;
}

never_shows : (sql : List ℕ) (params : Row) (s : State) (db : Trees) → OnlyReads sql → CommitsShowing sql params s db → ⊥
unfolding CommitsShowing
never_shows sql params s db reads h = absurd (let none = (reads s.now.schema h.0 h.1.is).0 in let some = h.2 in cc)

-- A text that was prepared is over an open store; one that only reads commits nothing.
module _ (sql : List ℕ) (given : Row) (prepared_text : List ℕ) (old mid new : State) (reads : OnlyReads sql) (prepared : HasCleanDisk mid → (prepared_text ≡ sql) × IsUnchanged old mid) (first : Survives old mid (λ _. ⊥)) (second : Survives mid new (CommitsShowing prepared_text given mid)) where
  early : HasCleanDisk new → HasCleanDisk mid
  early clean = omega (arith, second.clean, clean)

  crash : Survives old new (λ _. ⊥)
  crash = survives_then old mid new _ _ _ (λ _ db none. absurd none) (λ clean db may.
      let p = prepared (early clean) in
      absurd (never_shows sql given mid db reads (subst (λ t. CommitsShowing t given mid db) p.0 may))) first second

  pub shown_asked : (rows : List Row) → (HasCleanDisk new → Shown prepared_text given mid new rows) → IsAsked old new
  shown_asked rows shown = record {
    same = λ clean.
        let p = prepared (early clean) in
        before_trans old mid new p.1 (shown_before sql given mid new rows reads (subst (λ t. Shown t given mid new rows) p.0 (shown clean)));
    crash = crash;
  }

  pub failed_asked : (e : Error) → (IsTrue old.is_open → old.now ≡ old.committed) → (HasCleanDisk new → FailsToQuery prepared_text given mid new e) → IsAsked old new
  failed_asked e settled fails = record {
    same = λ clean.
        let p = prepared (early clean) in
        before_trans old mid new p.1 (fails_before prepared_text given mid new e (λ _. p.1.0.now_is ∙ settled p.1.0.was_open ∙ sym p.1.0.committed_is) (fails clean));
    crash = crash;
  }

  pub shown_found : (rows : List Row) → (HasCleanDisk new → Shown prepared_text given mid new rows) → HasCleanDisk new → IsTrue old.is_open × Finds sql given old.now rows
  unfolding Shown
  shown_found rows shown clean =
      let p = prepared (early clean) in
      let h = subst (λ t. Shown t given mid new rows) p.0 (shown clean) in
      let finds : Finds sql given mid.now rows = record {
        compiled = h.0;
        is = h.1.is;
        moment = h.1.now;
        answer = λ none. let it = subst (ShowsRows mid new sql h.0 (timed given h.0.formats h.1.now) rows) none h.2 in (it.0, it.1, it.2);
      } in
      (p.1.0.was_open, subst (λ (d : Database). Finds sql given d rows) p.1.0.now_is finds)

-- under a schema the rows are those of the command that the text is
pub found_in : (s : Schema) (sql : List ℕ) (params : Row) (db : Database) (rows : List Row) (command : Command) → db.schema ≡ s → OnlyReads sql → (command_of (understood s sql) ≡ command) × (reads_listing s sql ≡ false)
    → Finds sql params db rows → Reads command db params rows
found_in s sql params db rows command has reads is h =
    let known = sym h.is ∙ ap (λ t. understood t sql) has in
    let bare = reads db.schema h.compiled h.is in
    let it = h.answer bare.0 in
    let source : it.0 ≡ db = subst (λ b. IsSourceOf b db it.0) (ap (λ t. reads_listing t sql) has ∙ is.1) it.1 in
    let given : timed params h.compiled.formats h.moment ≡ params = ap (λ formats. timed params formats h.moment) bare.1 ∙ append-nil params in
    subst (λ p. Reads command db p rows) given (subst₂ (λ k d. Reads k d (timed params h.compiled.formats h.moment) rows) (ap command_of known ∙ is.0) source it.2)

-- and so under the book's
pub found : (sql : List ℕ) (params : Row) (db : Database) (rows : List Row) (command : Command) → IsLayout db.schema → OnlyReads sql
    → ((others : Others) → (command_of (understood (beside others) sql) ≡ command) × (reads_listing (beside others) sql ≡ false))
    → Finds sql params db rows → Reads command db params rows
found sql params db rows command lies reads text_is = found_in (beside lies.others) sql params db rows command lies.is reads (text_is lies.others)

-- and under that of a book of version 1
pub found_first : (sql : List ℕ) (params : Row) (db : Database) (rows : List Row) (command : Command) → IsFirstLayout db.schema → OnlyReads sql
    → ((others : Others) → (command_of (understood (beside others) sql) ≡ command) × (reads_listing (beside others) sql ≡ false))
    → Finds sql params db rows → Reads command db params rows
found_first sql params db rows command lies reads text_is = found_in (beside lies.others) sql params db rows command lies.is reads (text_is lies.others)

-- of a table of version 2, wherever it stands, the rows are those of the tree with its number
pub found_placed : (sql : List ℕ) (params : Row) (db : Database) (rows : List Row) (q : Query) (names : List (List ℕ)) (n : ℕ) → OnlyReads sql
    → (command_of (understood db.schema sql) ≡ Select (record { lets = []; body = from_tree (tree_in db.schema n) q }) names) × (reads_listing db.schema sql ≡ false)
    → Finds sql params db rows → IsAnswer (from_tree n q) (overlay (book_trees db) []) params rows
found_placed sql params db rows q names n reads text_is h =
    let read = found_in db.schema sql params db rows (Select (record { lets = []; body = from_tree (tree_in db.schema n) q }) names) refl reads text_is h in
    answer_moved q (tree_in db.schema n) n (overlay db.trees []) (overlay (book_trees db) []) (overlay_lies db.trees (tree_in db.schema n) ∙ sym (overlay_lies (book_trees db) n)) Null params rows (read.answer Null)

-- two queries, one after the other
pub asked_twice : (old mid new : State) → IsAsked old mid → IsAsked mid new → IsAsked old new
asked_twice old mid new first second = record {
  same = λ clean.
      let a = first.same (omega (arith, second.crash.clean, clean)) in
      let b = second.same clean in
      record { was_open = λ o. a.was_open (b.was_open o); now = λ o. b.now o ∙ a.now (b.was_open o); committed = λ o. b.committed o ∙ a.committed (b.was_open o) };
  crash = survives_then old mid new _ _ _ (λ _ db none. absurd none) (λ _ db none. absurd none) first.crash second.crash;
}
