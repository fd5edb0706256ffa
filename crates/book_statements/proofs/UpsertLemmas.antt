-- What an upsert does to a table whose first columns are its key.
use Rattle.std.proofs.Common.{◌≡◌, ◌≢◌, ◌+◌, inl, inr, ℕ, ◌/◌, ℤ, List, [], ◌∷◌, ◌++◌, map, take, drop, length, flat_map, ◌&&◌, ◌||◌, Bool, true, false, cond, Some, None, Option, Ok, refl, sym, ap, subst, subst₂, ◌∙◌, slice_get}
use Rattle.std.specs.List.Sorted.{IsPermutation}
use Rattle.std.specs.Ordering.{is_eq}
use Rattle.std.specs.declared.cmp.Ordering.TheVariants.{Less, Equal}
use Rattle.std.proofs.lemmas.Bool.{cases_Bool}
use Rattle.std.proofs.lemmas.List.{take-append-drop}
use Rattle.sqlite.specs.declared.types.Value.{Value}
use Rattle.sqlite.specs.declared.types.Value.TheVariants.{Null, Int}
use Rattle.sqlite.specs.Order.{Row, column, value_cmp}
use Rattle.sqlite.specs.Collation.TheVariants.{Binary}
use Rattle.sqlite_value.specs.Keys.{plain}
use Rattle.sqlite_schema.specs.Rules.{equal, agree, differ}
use Rattle.sqlite_schema.specs.declared.schema.Column.{Column}
use Rattle.sqlite_rules.specs.Keys.{AreConflicts, conflicts}
use Rattle.sqlite_rules.specs.Lists.{Has}
use Rattle.sqlite.specs.Command.TheVariants.{InsertOr}
use Rattle.sqlite.specs.Source.TheVariants.{Values}
use Rattle.sqlite_schema.specs.declared.command.Upsert.{Upsert}
use Rattle.sqlite_schema.specs.declared.command.Conflict.TheVariants.{Abort}
use Rattle.sqlite.specs.Edit.{edit_of, edited, next_rowid, with_rowid}
use Rattle.sqlite.specs.Cast.{cast_row, cast_all}
use Rattle.sqlite.specs.Rowids.TheVariants.{Chosen, Given}
use Rattle.std.specs.List.{AllByRecursion}
use Rattle.sqlite_rules.specs.Edit.{Applies}
use Rattle.sqlite.specs.Does.{Tally, AtPlace, OnRows}
use Rattle.sqlite_schema.specs.declared.schema.Keys.{Keys}
use Rattle.sqlite.specs.Rows.{Task, Written, InsertsOr, Tries, TriesEach, Upserts, Meets, Clears, Edited, Then, Gives, count_of, nothing, shown}
use Rattle.sqlite_rules.specs.Calls.{ids_of}
use Rattle.sqlite.specs.Table.{Table}
use Rattle.sqlite.specs.Schema.{Schema}
use Rattle.sqlite.specs.Tree.{Trees, IsTable, rowid}
use Rattle.sqlite.specs.Listing.{understood}
use Rattle.sqlite.specs.Given.{IsPlain}
use Rattle.sqlite.specs.Effect.{Database, IsDatabase, Answers, value_rows}
use Rattle.sqlite.specs.Query.{Query, IsAnswer, output, page, Output}
use Rattle.sqlite.specs.Program.{overlay}
use Rattle.sqlite.specs.Term.{Term, eval_all}
use Rattle.sqlite_rules.proofs.ListLemmas.{all_has, some_from}
use Rattle.sqlite_rules.proofs.PlaceLemmas.{tied_same}
use Rattle.sqlite_catalog.proofs.AlterLemmas.{keys_are_unique}
use Rattle.sqlite.specs.State.{State, mode_of, Executes}
use Rattle.sqlite_catalog.specs.Listing.{IsSound}
use Rattle.sqlite.proofs.Callers.{command_of, runs_as, one_permutation}
use Rattle.book_statements.specs.Layout.{keyed, ours, indexes_of, IsLayout}
use Rattle.book_statements.specs.Steps.{PutByKey, AreKeyed, WritesAt, has_key, key_of}
use Rattle.book_statements.proofs.PutLemmas.{put_free, put_over}
use Rattle.book_statements.proofs.KeyLemmas.{places, keys_same, keys_agree, equal_ints, itself, is_equal, irreflexive, not_ne, differ_ints}
use Rattle.book_statements.proofs.WritingTexts.{source, renewed, update_query, on_conflict}
use Rattle.book_statements.proofs.Beside.{ours_listed, one_write, same_conflicts}
use Rattle.book_statements.proofs.Values.{cast_int, cast_null, went, same_value, and_true}

-- ---- lists of rows

pub no_match : {A : Type 0} (test : Row → Bool) (f : Row → A) (rs : List Row) → ((r : Row) → Has rs r → test r ≡ false) → flat_map (λ r. cond (test r) (f r ∷ []) []) rs ≡ []
no_match test f [] h = refl
no_match test f (x ∷ rs) h = rw (h x (inl refl)) (no_match test f rs (λ r k. h r (inr k)))

-- the one row that passes
pub one_match : {A : Type 0} (test : Row → Bool) (f : Row → A) (rs : List Row) (r0 : Row) → IsTable rs → Has rs r0 → test r0 ≡ true
    → ((r : Row) → Has rs r → test r ≡ true → value_cmp (rowid r) (rowid r0) ≡ Equal) → flat_map (λ r. cond (test r) (f r ∷ []) []) rs ≡ f r0 ∷ []
one_match test f [] r0 up there passes only = absurd there
one_match test f (x ∷ rs) r0 up (inl e) passes only =
    let none = no_match test f rs (λ r k. elim (cases_Bool (test r)) [
      | inl hit ↦ absurd (let same = tied_same (x ∷ rs) r r0 up (inr k) (inl e) (only r (inr k) hit) in
          irreflexive (rowid x) (subst (λ (y : Row). value_cmp (rowid x) (rowid y) ≡ Less) (same ∙ e) (all_has _ rs r up.0 k)))
      | inr miss ↦ miss
    ]) in
    rw (subst (λ y. test y ≡ true) e passes, none) (ap (λ y. f y ∷ []) (sym e))
one_match test f (x ∷ rs) r0 up (inr k) passes only =
    let miss : test x ≡ false = elim (cases_Bool (test x)) [
      | inl hit ↦ absurd (let same = tied_same (x ∷ rs) x r0 up (inl refl) (inr k) (only x (inl refl) hit) in
          irreflexive (rowid x) (subst (λ (y : Row). value_cmp (rowid x) (rowid y) ≡ Less) (sym same) (all_has _ rs r0 up.0 k)))
      | inr miss ↦ miss
    ] in
    rw miss (one_match test f rs r0 up.1 k passes (λ r h. only r (inr h)))

pub or_false : (b : Bool) → (b || false) ≡ true → b ≡ true
or_false true h = refl
or_false false h = h

-- no two rows of a table have one key
pub only_row : (schema : Schema) → IsLayout schema → (name : List ℕ) (tree k : ℕ) (checks : List Term) (columns : List Column) (db : Trees) → Has (ours schema) (keyed name tree (places 1 k) checks columns)
    → IsSound schema db → AreKeyed k (db tree) → (a b : Row) → Has (db tree) a → Has (db tree) b → key_of k a ≡ key_of k b → a ≡ b
only_row schema lies name tree k checks columns db listed live tidy a b p q same =
    let rows = db tree in
    let x = tidy.each a p in
    let y = tidy.each b q in
    let alike : agree plain (places 1 k) a (places 1 k) b ≡ true =
    rw (x.2, y.2) (keys_agree k (Int x.0) (Int y.0) x.1 y.1 x.3 y.3 (sym (ap (key_of k) x.2) ∙ same ∙ ap (key_of k) y.2)) in
    let clear = keys_are_unique schema db (keyed name tree (places 1 k) checks columns) 0 (places 1 k) b live (ours_listed schema lies (keyed name tree (places 1 k) checks columns) listed) refl q in
    tied_same rows a b tidy.rise p q (elim (cases_Bool (differ (rowid a) (rowid b))) [
      | inl apart ↦ absurd (let e = some_from (λ other. agree plain (places 1 k) other (places 1 k) b && differ (rowid other) (rowid b)) rows a p (rw (alike, apart) refl) in
          let f : ◌≡◌ {A = Bool} true false = sym e ∙ clear in cc)
      | inr tied ↦ subst₂ (λ (v w : Value). value_cmp v w ≡ Equal) (ap rowid (sym x.2)) (ap rowid (sym y.2))
          (not_ne _ (sym (differ_ints x.0 y.0) ∙ subst₂ (λ (v w : Value). differ v w ≡ false) (ap rowid x.2) (ap rowid y.2) tied))
    ])

-- ---- the statement

module _ (name : List ℕ) (at tree k n : ℕ) (checks : List Term) (columns : List Column) (cells : Row) where
  abbrev pub table : Table
  table = keyed name tree (places 1 k) checks columns

  abbrev pub update : Query
  update = update_query tree k n

  abbrev pub clause : Upsert
  clause = on_conflict (places 1 k) update

  -- what is known of the texts' terms by computing
  pub record IsUpsert : Type 0 where
    pub guarded : (new r : Row) → conflicts (Some (places 1 k)) (indexes_of table) table new r ≡ (agree plain (places 1 k) r (places 1 k) new || false)
    pub read : (db : Trees) → overlay db [] tree ≡ db tree
    pub is_key : has_key k cells ≡ true
    pub cast : cast_all columns cells ≡ cells
    pub given : value_rows (cells ++ []) (n + 1) (length (source n) / (n + 1)) (source n) ≡ (Null ∷ cells) ∷ []
    pub named : (id : Value) (more : Row) → column (cells ++ id ∷ more) n ≡ id
    pub projects : (id : ℤ) (param : Value) (rest more : Row) → eval_all (renewed k n) ((cells ++ param ∷ more) ∷ (Int id ∷ take k cells ++ rest) ∷ []) ≡ Int id ∷ Int id ∷ cells

  module _ (schema : Schema) (lies : IsLayout schema) (listed : Has (ours schema) table) (known : IsUpsert) (limit : Option ℕ) (keys : Keys) (db : Trees) where
    abbrev task : Task
    task = record { limit = limit; keys = keys; schema = schema; table = table; params = cells }

    abbrev rows : List Row
    rows = db tree

    abbrev new : Row
    new = Int (next_rowid rows) ∷ cells

    stored : with_rowid Chosen rows (cast_row table (Null ∷ cells)) ≡ new
    stored = rw (cast_null, known.cast) refl

    -- the statement tries its one row
    inserted : (w : Written) → InsertsOr task Abort (clause ∷ []) (Values (source n) (n + 1)) db (Ok w)
        → (one : Written) × Tries task Abort (clause ∷ []) new db (Ok one) × (w.trees ≡ one.trees)
    inserted w h =
        let given = went h in
        let counter = went given.2 in
        let each = went counter.2 in
        let last = went each.2 in
        let first = went (subst (λ rs. TriesEach task Abort (clause ∷ []) rs (count_of counter.0) (nothing db) (Ok each.0)) (given.1.1 ∙ known.given) each.1) in
        let sum = same_value first.2 in (
          first.0,
          subst (λ r. Tries task Abort (clause ∷ []) r db (Ok first.0)) stored first.1,
          ap (λ (it : Written). it.trees) (same_value last.2) ∙ same_value last.1 ∙ ap (λ (p : Written × ℤ). p.0.trees) sum,
        )

    -- and no rule refuses it
    judged : (one : Written) → Tries task Abort (clause ∷ []) new db (Ok one)
        → (found : List Row) × AreConflicts (Some (places 1 k)) schema.indexes table rows new found × Meets task (Upserts task Abort new db []) new db clause found (Ok one)
    judged one (inl unfit) = absurd (let e = unfit.1 in cc)
    judged one (inr (None, passed, h)) = h
    judged one (inr (Some why, failed, h)) = absurd (let e = h in cc)

    -- where no row is in the way, it goes in
    cleared : (found : List Row) (one : Written) → Clears task Abort new db found (Ok one) → (next : Trees) × Edited schema keys db (edit_of db table [] Given 0 (new ∷ [])) (Ok next) × (one.trees ≡ next)
    cleared [] one h = let it = went h in (it.0, it.1, ap (λ (w : Written). w.trees) (same_value it.2))
    cleared (x ∷ more) one h = let it = went h in (it.0, it.1, ap (λ (w : Written). w.trees) (same_value it.2))

    abbrev given : Row → Row
    given there = cells ++ rowid there ∷ shown table new

    module _ (live : IsSound schema db) (tidy : AreKeyed k rows) where
      guarded : (r : Row) → conflicts (Some (places 1 k)) schema.indexes table new r ≡ (agree plain (places 1 k) r (places 1 k) new || false)
      guarded r = same_conflicts schema lies (Some (places 1 k)) table new r listed ∙ known.guarded new r

      -- the row with the key is met
      met : (r : Row) → Has rows r → key_of k r ≡ take k cells → conflicts (Some (places 1 k)) schema.indexes table new r ≡ true
      met r there key =
          let it = tidy.each r there in
          let e = keys_agree k (Int it.0) (Int (next_rowid rows)) it.1 cells it.3 known.is_key (sym (ap (key_of k) it.2) ∙ key) in
          guarded r ∙ rw (it.2, e) refl

      -- and no other
      hit : (r : Row) → Has rows r → conflicts (Some (places 1 k)) schema.indexes table new r ≡ true → key_of k r ≡ take k cells
      hit r there h =
          let it = tidy.each r there in
          let e = or_false _ (sym (guarded r) ∙ h) in
          ap (key_of k) it.2 ∙ keys_same k (Int it.0) (Int (next_rowid rows)) it.1 cells it.3 known.is_key (subst (λ (x : Row). agree plain (places 1 k) x (places 1 k) new ≡ true) it.2 e)

      -- what the update shows
      answers : (there r0 : Row) (id : ℤ) (old : Row) → Has rows r0 → r0 ≡ Int id ∷ old → take k old ≡ take k cells → there ≡ rowid r0 ∷ [] → (out : List Row)
          → Answers (record { schema = schema; trees = db }) (record { lets = []; body = update }) (given there) out
          → out ≡ (Int id ∷ Int id ∷ cells) ∷ []
      answers there r0 id old has is key named out h =
          let a : IsAnswer update (overlay db []) (given there) out = h.answer Null in
          let id_of : column (given there) n ≡ Int id = known.named (rowid there) (shown table new) ∙ ap rowid named ∙ ap rowid is in
          let test : Row → Bool = λ r. equal Binary (rowid r) (column (given there) n) && true in
          let staged : a.staged ≡ (given there ∷ r0 ∷ []) ∷ [] = a.grouped ∙ ap (λ rs. flat_map (λ r. cond (test r) ((given there ∷ r ∷ []) ∷ []) []) rs) (known.read db) ∙ one_match test (λ r. given there ∷ r ∷ []) rows r0 tidy.rise has
          (rw (id_of, is, equal_ints id id, itself (Int id)) refl)
          (λ r h t. let it = tidy.each r h in
          let e = (and_true _ _ t).0 in
          subst₂ (λ (v w : Value). value_cmp v w ≡ Equal) (ap rowid (sym it.2)) (ap rowid (sym is))
          (is_equal _ (sym (equal_ints it.0 id) ∙ subst₂ (λ (v w : Value). equal Binary v w ≡ true) (ap rowid it.2) id_of e))) in
          let o : Output = ([], eval_all (renewed k n) (given there ∷ r0 ∷ [])) in
          let kept : a.kept ≡ o ∷ [] = a.distinct ∙ ap (map (output update)) staged in
          let ordered = one_permutation o a.ordered (subst (λ k. IsPermutation k a.ordered) kept a.same) in
          let row : r0 ≡ Int id ∷ take k cells ++ drop k old = is ∙ ap (λ (c : Row). Int id ∷ c) (sym (take-append-drop k old) ∙ ap (λ (c : Row). c ++ drop k old) key) in
          let line : eval_all (renewed k n) (given there ∷ r0 ∷ []) ≡ Int id ∷ Int id ∷ cells =
          ap (λ (r : Row). eval_all (renewed k n) (given there ∷ r ∷ [])) row ∙ known.projects id (rowid there) (drop k old) (shown table new) in
          a.shown ∙ ap (λ xs. page update (given there) (map (λ (p : Output). p.1) xs)) ordered ∙ ap (λ (r : Row). r ∷ []) line

      abbrev Did : Trees → Type 0
      Did next = AllByRecursion (λ (t : Table). t.tree ≢ tree → next t.tree ≡ db t.tree) schema.tables × PutByKey k cells rows (next tree)

      -- a step's rows, where it wrote this row
      rewrote : (one : Written) (gone : List ℤ) (left : List Row) (id : ℤ) (next : Trees) → Applies schema keys db (record { table = table; gone = gone; news = (Int id ∷ cells) ∷ [] }) next
          → (one.trees ≡ next) → PutByKey k cells rows (edited db (record { table = table; gone = gone; news = (Int id ∷ cells) ∷ [] })) → Did one.trees
      rewrote one gone left id next done same put =
          subst Did (sym same) (done.tables, subst (PutByKey k cells rows) (sym done.rows) put)

      tried : (one : Written) → Tries task Abort (clause ∷ []) new db (Ok one) → Did one.trees
      tried one h = let it = judged one h in go it.0 it.1 it.2
        where
          go : (found : List Row) → AreConflicts (Some (places 1 k)) schema.indexes table rows new found → Meets task (Upserts task Abort new db []) new db clause found (Ok one) → Did one.trees
          go [] are otherwise =
              let put = cleared otherwise.0 one otherwise.2 in
              let done = one_write schema lies keys db put.0 (edit_of db table [] Given 0 (new ∷ [])) listed put.1 in
              let news : edit_of db table [] Given 0 (new ∷ []) ≡ record { table = table; gone = []; news = new ∷ [] } = rw (cast_int (next_rowid rows), known.cast) refl in
              let done_is = subst (λ e. Applies schema keys db e put.0) news done in
              rewrote one [] rows (next_rowid rows) put.0 done_is put.2
              (put_free k cells rows tidy.rise (next_rowid rows) done_is.fresh (λ r has key. are.complete r has (met r has key)))
          go (there ∷ more) are resolves =
              let s = are.sound there (inl refl) in
              let it = tidy.each s.0 s.1 in
              let id = it.0 in
              let key = hit s.0 s.1 s.2 in
              let same : take k it.1 ≡ take k cells = sym (ap (key_of k) it.2) ∙ key in
              let u = went resolves in
              let out = answers there s.0 id it.1 s.1 it.2 same s.3 u.0 u.1 in
              let shows : List Row = (Int id ∷ Int id ∷ cells) ∷ [] in
              let v = went (subst (λ rs. Then (Edited schema keys db (edit_of db table (ids_of rs) Given 1 rs))
              (λ next. Gives (record { trees = next; rows = (edit_of db table (ids_of rs) Given 1 rs).news; last = None })) (Ok one)) out u.2) in
              let done = one_write schema lies keys db v.0 (edit_of db table (ids_of shows) Given 1 shows) listed v.1 in
              let edit : edit_of db table (ids_of shows) Given 1 shows ≡ record { table = table; gone = id ∷ []; news = (Int id ∷ cells) ∷ [] } = rw (cast_int id, known.cast) refl in
              let done_is = subst (λ e. Applies schema keys db e v.0) edit done in
              rewrote one (id ∷ []) rows id v.0 done_is (ap (λ (w : Written). w.trees) (same_value v.2))
              (put_over k cells rows tidy.rise id s.0 s.1 (ap rowid it.2) key (λ r has met. only_row schema lies name tree k checks columns db listed live tidy r s.0 has s.1 (met ∙ sym key)) done_is.fresh
              (subst (λ (v : Value). is_eq (value_cmp v (Int id)) ≡ true) (sym (ap rowid it.2)) (itself (Int id))))

  pub puts : IsUpsert → (sql : List ℕ) (old new : State) (count : ℕ) → IsLayout old.now.schema → Has (ours old.now.schema) table → slice_get old.now.schema.tables at ≡ Some table
      → command_of (understood old.now.schema sql) ≡ InsertOr at Abort (Values (source n) (n + 1)) (clause ∷ []) → IsPlain (understood old.now.schema sql)
      → IsDatabase old.now → AreKeyed k (old.now.trees tree) → Executes sql cells old new (Ok count) → WritesAt tree (PutByKey k cells) old.now new.now
  puts known sql old new count lies listed spot text_is plain_text live rows h =
      let schema = old.now.schema in
      let db = old.now.trees in
      let keys = (mode_of old).keys in
      let command = InsertOr at Abort (Values (source n) (n + 1)) (clause ∷ []) in
      let w = runs_as sql cells old new schema refl command text_is plain_text count h in
      let done = went (subst (λ t. AtPlace (λ table. OnRows (record { limit = old.step_limit; keys = keys; schema = schema; table = table; params = cells }) (mode_of old) None command db) t (Ok (w.tally, new.now))) spot w.changed) in
      let now = ap (λ (p : Tally × Database). p.1) (same_value (went (went done.2).2).2) in
      let one = inserted schema lies listed known old.step_limit keys db done.0 done.1 in
      let put = tried schema lies listed known old.step_limit keys db live rows one.0 one.1 in
      let trees : new.now.trees ≡ one.0.trees = ap (λ (d : Database). d.trees) now ∙ one.2 in
      let did = subst (Did schema lies listed known old.step_limit keys db live rows) (sym trees) put in
      record {
        sound = w.sound;
        schema = ap (λ (d : Database). d.schema) now;
        others = did.0;
        rows = did.1;
      }
