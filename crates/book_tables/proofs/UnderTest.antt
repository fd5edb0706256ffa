-- What a query of a keyed table shows where its first column is given and a test is asked of each
-- row: the rows that have the one and pass the other, in their order.
use Rattle.std.proofs.Common.{◌≡◌, ℕ, ℤ, List, [], ◌∷◌, map, filter, flat_map, take, ◌&&◌, Bool, true, cond, sym, ap, subst, ◌∙◌}
use Rattle.std.specs.List.{IsDistinct}
use Rattle.std.specs.Ordering.{is_lt, is_eq, eq_by_cmp}
use Rattle.sqlite.specs.declared.types.Value.{Value}
use Rattle.sqlite.specs.declared.types.Value.TheVariants as value
use Rattle.sqlite.specs.Order.{Row, column}
use Rattle.sqlite.specs.Collation.TheVariants.{Binary}
use Rattle.sqlite.specs.Query.{Query, IsAnswer, output, Output, output_cmp}
use Rattle.sqlite.specs.Program.{overlay}
use Rattle.sqlite.specs.Term.{Term, Env, col, op2, holds}
use Rattle.sqlite.specs.Tree.{Trees}
use Rattle.sqlite_sql.specs.declared.ops.BinaryOp.TheVariants.{Compare}
use Rattle.sqlite_sql.specs.declared.ops.CompareOp.TheVariants.{Eq}
use Rattle.sqlite_sql.proofs.QueryLemmas.{output_cmp_total}
use Rattle.sqlite_value.specs.declared.keys.Key.{Key}
use Rattle.sqlite_schema.specs.Rules.{equal}
use Rattle.sqlite_rules.specs.Lists.{Has}
use Rattle.sqlite_rules.proofs.ListLemmas.{has_filtered, has_kept}
use Rattle.sqlite_rules.proofs.ProbeLemmas.{has_mapped, mapped_has}
use Rattle.definitions.specs.Rules.{Today}
use Rattle.definitions.specs.Header.{Who, is_partner, who_text}
use Rattle.definitions.specs.Register.{Entry, own}
use Rattle.definitions.specs.Accepted.{IsLegal}
use Rattle.definitions.specs.Tables.{Text, TableRow, for_each}
use Rattle.rules.specs.Keyed.{rises_by}
use Rattle.book_statements.specs.Held.{values, Holds}
use Rattle.book_statements.specs.Steps.{key_of}
use Rattle.book_statements.proofs.Found.{map-both}
use Rattle.book_statements.proofs.KeyLemmas.{text_itself}
use Rattle.book_statements.proofs.Passing.{flat_map-cond}
use Rattle.book_statements.proofs.ReadingTexts.{ordered_from}
use Rattle.book_statements.proofs.Values.{and_true}
use Rattle.book_tables.proofs.Sorts.{ordered_is, shown_apart}
use Rattle.book_tables.proofs.Under.{own_row, table_row}

-- A table of which the rows with one value in front that pass are the cells of a model's rows.
module _ {M : Type 0} (test : Term) (cells : M → TableRow) (tree : ℕ) (project : List Term) (order : List (Term × Key)) (out : M → Output) (p : Value) (table : List TableRow) (ms : List M) where
  abbrev pub query : Query
  query = ordered_from tree (op2 (Compare Eq Binary) (col 1 1) (col 0 0) ∷ test ∷ []) project order

  abbrev pub params : Row
  params = p ∷ []

  abbrev pub env_of : Row → Env
  env_of r = params ∷ r ∷ []

  abbrev pub passes_test : Row → Bool
  passes_test r = equal Binary (column r 1) p && (holds (env_of r) test && true)

  abbrev pub stored_as : ℤ → M → Row
  stored_as id m = value.Int id ∷ values (cells m)

  -- what is known of the table and the query
  pub record IsTested : Type 0 where
    pub lies : (db : Trees) → overlay db [] tree ≡ db tree
    pub sound : (id : ℤ) (c : TableRow) → Has table c → passes_test (value.Int id ∷ values c) ≡ true → (m : M) × Has ms m × (c ≡ cells m)
    pub listed : (m : M) → Has ms m → Has table (cells m)
    pub passes : (id : ℤ) (m : M) → Has ms m → passes_test (stored_as id m) ≡ true
    pub puts : (id : ℤ) (m : M) → output query (env_of (stored_as id m)) ≡ out m

  module _ (is : IsTested) (db : Trees) (held : Holds table (db tree)) where
    -- a stored row that passes is one of the model
    row_of : (r : Row) → Has (db tree) r → passes_test r ≡ true → (id : ℤ) × (m : M) × Has ms m × (r ≡ stored_as id m)
    row_of r there passes =
        let it = held.sound r there in
        let m = is.sound it.0 it.1 it.2 (subst (λ (x : Row). passes_test x ≡ true) it.3 passes) in
        (it.0, m.0, m.1, it.3 ∙ ap (λ (c : TableRow). value.Int it.0 ∷ values c) m.2)

    model_held : (m : M) → Has ms m → (id : ℤ) × Has (db tree) (stored_as id m)
    model_held m there = held.complete (cells m) (is.listed m there)

    module _ (rows : List Row) (a : IsAnswer query (overlay db []) params rows) where
      kept_is : a.kept ≡ map (output query) (map env_of (filter passes_test (db tree)))
      kept_is = a.distinct ∙ ap (map (output query)) (a.grouped ∙ ap (flat_map (λ r. cond (passes_test r) (env_of r ∷ []) [])) (is.lies db) ∙ flat_map-cond passes_test env_of (db tree))

      module _ {K : Type 0} (less : K → K → Bool) (key : M → K) (k : ℕ) (rises : rises_by less key ms ≡ true) (ranks : (m n : M) → is_lt (output_cmp query (out m) (out n)) ≡ less (key m) (key n))
          (tied : (m n : M) → is_eq (output_cmp query (out m) (out n)) ≡ true → take k (values (cells m)) ≡ take k (values (cells n))) (one : (r s : Row) → Has (db tree) r → Has (db tree) s → key_of k r ≡ key_of k s → r ≡ s) where
        abbrev shows : Row → Output
        shows r = output query (env_of r)

        apart : IsDistinct (eq_by_cmp (output_cmp query)) (map shows (filter passes_test (db tree)))
        apart = shown_apart (eq_by_cmp (output_cmp query)) shows passes_test (db tree) held.rise (λ r s here there f g alike.
            let x = row_of r here f in
            let y = row_of s there g in
            let outs : is_eq (output_cmp query (out x.1) (out y.1)) ≡ true =
            ap (λ (o : Output). is_eq (output_cmp query o (out y.1))) (sym (ap shows x.3 ∙ is.puts x.0 x.1))
            ∙ ap (λ (o : Output). is_eq (output_cmp query (shows r) o)) (sym (ap shows y.3 ∙ is.puts y.0 y.1)) ∙ alike in
            one r s here there (ap (key_of k) x.3 ∙ tied x.1 y.1 outs ∙ sym (ap (key_of k) y.3)))

        -- the rows of the answer are what the model's rows show, in their order
        pub all_tested : rows ≡ map (λ (m : M). (out m).1) ms
        all_tested =
            let put : a.kept ≡ map shows (filter passes_test (db tree)) = kept_is ∙ map-both env_of (output query) (filter passes_test (db tree)) in
            let ordered : a.ordered ≡ map out ms = ordered_is (output_cmp query) (output_cmp_total query) less key out ranks ms rises a.kept a.ordered ([], []) a.same a.sorted
            (subst (IsDistinct (eq_by_cmp (output_cmp query))) (sym put) apart)
            (λ o there.
            let r = has_mapped shows (filter passes_test (db tree)) o (subst (λ (os : List Output). Has os o) put there) in
            let f = has_filtered passes_test (db tree) r.0 r.1 in
            let x = row_of r.0 f.0 f.1 in
            (x.1, x.2, r.2 ∙ ap shows x.3 ∙ is.puts x.0 x.1))
            (λ m there.
            let x = model_held m there in
            let shown = mapped_has shows (filter passes_test (db tree)) (stored_as x.0 m) (has_kept passes_test (db tree) (stored_as x.0 m) x.1 (is.passes x.0 m there)) in
            subst (Has a.kept) (is.puts x.0 m) (subst (λ (os : List Output). Has os (shows (stored_as x.0 m))) (sym put) shown)) in
            a.shown ∙ ap (map (λ (o : Output). o.1)) ordered ∙ map-both out (λ (o : Output). o.1) ms

-- A table of depositors whose rows are the cells of models, of which a test of these tells those
-- that pass.
module _ (W : Who) (L : List Entry) (who : Who) (legal : IsLegal Today W L) (partner : is_partner who ≡ true) (rows : List Entry → List TableRow) (nothing : rows [] ≡ []) where
  abbrev t : List ℕ
  t = who_text who

  module _ {M : Type 0} (cell : M → TableRow) (models : List M) (made : rows (own L who) ≡ map cell models) (kept : M → Bool) (test : Term)
      (told : (id : ℤ) (m : M) → holds ((value.Text t ∷ []) ∷ (value.Int id ∷ values (Text t ∷ cell m)) ∷ []) test ≡ kept m)
      (tree : ℕ) (project : List Term) (order : List (Term × Key)) (out : M → Output) (lies : (db : Trees) → overlay db [] tree ≡ db tree)
      (puts : (id : ℤ) (m : M) → output (ordered_from tree (op2 (Compare Eq Binary) (col 1 1) (col 0 0) ∷ test ∷ []) project order) ((value.Text t ∷ []) ∷ (value.Int id ∷ values (Text t ∷ cell m)) ∷ []) ≡ out m) where
    pub cells_tested : IsTested test (λ m. Text t ∷ cell m) tree project order out (value.Text t) (for_each L rows) (filter kept models)
    cells_tested = record {
      lies = lies;
      sound = λ id c there passes.
          let both = and_true _ _ passes in
          let mine = own_row W L who rows legal partner nothing id c there both.0 in
          let m = has_mapped cell models mine.0 (subst (λ (rs : List TableRow). Has rs mine.0) made mine.1) in
          let shown : c ≡ Text t ∷ cell m.0 = mine.2 ∙ ap (λ (r : TableRow). Text t ∷ r) m.2 in
          (m.0, has_kept kept models m.0 m.1 (sym (told id m.0) ∙ subst (λ (x : TableRow). holds ((value.Text t ∷ []) ∷ (value.Int id ∷ values x) ∷ []) test ≡ true) shown (and_true _ _ both.1).0), shown);
      listed = λ m there. table_row W L who rows legal partner nothing (cell m) (subst (λ (rs : List TableRow). Has rs (cell m)) (sym made) (mapped_has cell models m (has_filtered kept models m there).0));
      passes = λ id m there.
          let its = told id m ∙ (has_filtered kept models m there).1 in
          (λ i. text_itself t i && (its i && true));
      puts = puts;
    }
