-- What a query of a keyed table shows where its first column and another are given: the rows that
-- have them.
use Rattle.std.proofs.Common.{◌≡◌, ℕ, ℤ, List, [], ◌∷◌, map, filter, flat_map, take, Bool, true, cond, sym, ap, subst, ◌∙◌}
use Rattle.std.specs.List.{IsDistinct}
use Rattle.std.specs.Ordering.{is_lt, is_eq, eq_by_cmp}
use Rattle.sqlite.specs.declared.types.Value.{Value}
use Rattle.sqlite.specs.declared.types.Value.TheVariants as value
use Rattle.sqlite.specs.Order.{Row, column}
use Rattle.sqlite.specs.Collation.TheVariants.{Binary}
use Rattle.sqlite.specs.Query.{Query, IsAnswer, output, Output, output_cmp}
use Rattle.sqlite.specs.Program.{overlay}
use Rattle.sqlite.specs.Term.{Term, Env}
use Rattle.sqlite.specs.Tree.{Trees}
use Rattle.sqlite_sql.proofs.QueryLemmas.{output_cmp_total}
use Rattle.sqlite_value.specs.declared.keys.Key.{Key}
use Rattle.sqlite_schema.specs.Rules.{equal}
use Rattle.sqlite_rules.specs.Lists.{Has}
use Rattle.sqlite_rules.proofs.ListLemmas.{has_filtered, has_kept}
use Rattle.sqlite_rules.proofs.ProbeLemmas.{has_mapped, mapped_has}
use Rattle.definitions.specs.Rules.{Today}
use Rattle.definitions.specs.Header.{Who, is_partner, who_text}
use Rattle.definitions.specs.Register.{Entry, own}
use Rattle.definitions.specs.Accepted.{IsLegal}
use Rattle.definitions.specs.Tables.{Text, TableRow, for_each}
use Rattle.definitions.proofs.TextLaws.{same_text}
use Rattle.rules.specs.Keyed.{rises_by}
use Rattle.book_statements.specs.Held.{values, Holds}
use Rattle.book_statements.specs.Steps.{key_of}
use Rattle.book_statements.proofs.Found.{map-both}
use Rattle.book_statements.proofs.KeyLemmas.{same_text as equal_text}
use Rattle.book_statements.proofs.NeedTexts.{under_at}
use Rattle.book_tables.proofs.Parts.{begins, part_of}
use Rattle.book_statements.proofs.Passing.{flat_map-cond, from_row, to_row, whose_at}
use Rattle.book_tables.proofs.ShownRows.{begun}
use Rattle.book_tables.proofs.Sorts.{ordered_is, shown_apart}

-- The rows of a partner in a table of depositors that has none for no entries.
module _ (W : Who) (L : List Entry) (who : Who) (rows : List Entry → List TableRow) (legal : IsLegal Today W L) (partner : is_partner who ≡ true) (nothing : rows [] ≡ []) where
  pub own_row : (id : ℤ) (c : TableRow) → Has (for_each L rows) c → equal Binary (column (value.Int id ∷ values c) 1) (value.Text (who_text who)) ≡ true
      → (r : TableRow) × Has (rows (own L who)) r × (c ≡ Text (who_text who) ∷ r)
  own_row id c there its =
      let first = begun L rows c there in
      let mine : first.0 ≡ who_text who = equal_text first.0 (who_text who) (subst (λ (x : TableRow). equal Binary (column (value.Int id ∷ values x) 1) (value.Text (who_text who)) ≡ true) first.2 its) in
      let starts : begins (who_text who) c ≡ true = ap (begins (who_text who)) first.2 ∙ ap (λ (s : List ℕ). begins (who_text who) (Text s ∷ first.1)) mine ∙ same_text (who_text who) in
      let kept = subst (λ (rs : List TableRow). Has rs c) (part_of W L who rows legal partner nothing) (has_kept (begins (who_text who)) (for_each L rows) c there starts) in
      has_mapped (λ (r : TableRow). Text (who_text who) ∷ r) (rows (own L who)) c kept

  pub table_row : (r : TableRow) → Has (rows (own L who)) r → Has (for_each L rows) (Text (who_text who) ∷ r)
  table_row r there =
      let shown = mapped_has (λ (c : TableRow). Text (who_text who) ∷ c) (rows (own L who)) r there in
      (has_filtered (begins (who_text who)) (for_each L rows) (Text (who_text who) ∷ r)
      (subst (λ (rs : List TableRow). Has rs (Text (who_text who) ∷ r)) (sym (part_of W L who rows legal partner nothing)) shown)).0

-- A table of which the rows with one value in front and another at a place are the cells of a
-- model's rows.
module _ {M : Type 0} (at : ℕ) (cells : M → TableRow) (tree : ℕ) (project : List Term) (order : List (Term × Key)) (out : M → Output) (p q : Value) (table : List TableRow) (ms : List M) where
  abbrev pub query : Query
  query = under_at at tree project order

  abbrev pub params : Row
  params = p ∷ q ∷ []

  abbrev pub env_of : Row → Env
  env_of r = params ∷ r ∷ []

  abbrev pub stored_as : ℤ → M → Row
  stored_as id m = value.Int id ∷ values (cells m)

  -- what is known of the table and the query
  pub record IsUnder : Type 0 where
    pub lies : (db : Trees) → overlay db [] tree ≡ db tree
    pub sound : (id : ℤ) (c : TableRow) → Has table c → whose_at at p q (value.Int id ∷ values c) ≡ true → (m : M) × Has ms m × (c ≡ cells m)
    pub listed : (m : M) → Has ms m → Has table (cells m)
    pub passes : (id : ℤ) (m : M) → Has ms m → whose_at at p q (stored_as id m) ≡ true
    pub puts : (id : ℤ) (m : M) → output query (env_of (stored_as id m)) ≡ out m

  module _ (is : IsUnder) (db : Trees) (held : Holds table (db tree)) where
    -- a stored row that passes is one of the model
    row_of : (r : Row) → Has (db tree) r → whose_at at p q r ≡ true → (id : ℤ) × (m : M) × Has ms m × (r ≡ stored_as id m)
    row_of r there passes =
        let it = held.sound r there in
        let m = is.sound it.0 it.1 it.2 (subst (λ (x : Row). whose_at at p q x ≡ true) it.3 passes) in
        (it.0, m.0, m.1, it.3 ∙ ap (λ (c : TableRow). value.Int it.0 ∷ values c) m.2)

    model_held : (m : M) → Has ms m → (id : ℤ) × Has (db tree) (stored_as id m)
    model_held m there = held.complete (cells m) (is.listed m there)

    module _ (rows : List Row) (a : IsAnswer query (overlay db []) params rows) where
      kept_is : a.kept ≡ map (output query) (map env_of (filter (whose_at at p q) (db tree)))
      kept_is = a.distinct ∙ ap (map (output query)) (a.grouped ∙ ap (flat_map (λ r. cond (whose_at at p q r) (env_of r ∷ []) [])) (is.lies db) ∙ flat_map-cond (whose_at at p q) env_of (db tree))

      -- each row of the answer is what a row of the model shows, and each of these is among them
      pub each_row : (row : Row) → Has rows row → (m : M) × Has ms m × (row ≡ (out m).1)
      each_row row there =
          let it = from_row query params (whose_at at p q) (db tree) rows a.kept a.ordered kept_is a.same a.shown row there in
          let m = row_of it.0 it.1 it.2 in
          (m.1, m.2, it.3 ∙ ap (λ (r : Row). (output query (env_of r)).1) m.3 ∙ ap (λ (o : Output). o.1) (is.puts m.0 m.1))

      pub has_row : (m : M) → Has ms m → Has rows (out m).1
      has_row m there =
          let stored = model_held m there in
          subst (λ (o : Output). Has rows o.1) (is.puts stored.0 m) (to_row query params (whose_at at p q) (db tree) rows a.kept a.ordered kept_is a.same a.shown (stored_as stored.0 m) stored.1 (is.passes stored.0 m there))

      -- In order.
      module _ {K : Type 0} (less : K → K → Bool) (key : M → K) (k : ℕ) (rises : rises_by less key ms ≡ true) (ranks : (m n : M) → is_lt (output_cmp query (out m) (out n)) ≡ less (key m) (key n))
          (tied : (m n : M) → is_eq (output_cmp query (out m) (out n)) ≡ true → take k (values (cells m)) ≡ take k (values (cells n))) (one : (r s : Row) → Has (db tree) r → Has (db tree) s → key_of k r ≡ key_of k s → r ≡ s) where
        abbrev shows : Row → Output
        shows r = output query (env_of r)

        apart : IsDistinct (eq_by_cmp (output_cmp query)) (map shows (filter (whose_at at p q) (db tree)))
        apart = shown_apart (eq_by_cmp (output_cmp query)) shows (whose_at at p q) (db tree) held.rise (λ r s here there f g alike.
            let x = row_of r here f in
            let y = row_of s there g in
            let outs : is_eq (output_cmp query (out x.1) (out y.1)) ≡ true =
            ap (λ (o : Output). is_eq (output_cmp query o (out y.1))) (sym (ap shows x.3 ∙ is.puts x.0 x.1))
            ∙ ap (λ (o : Output). is_eq (output_cmp query (shows r) o)) (sym (ap shows y.3 ∙ is.puts y.0 y.1)) ∙ alike in
            one r s here there (ap (key_of k) x.3 ∙ tied x.1 y.1 outs ∙ sym (ap (key_of k) y.3)))

        -- the rows of the answer are what the model's rows show, in their order
        pub all_rows : rows ≡ map (λ (m : M). (out m).1) ms
        all_rows =
            let put : a.kept ≡ map shows (filter (whose_at at p q) (db tree)) = kept_is ∙ map-both env_of (output query) (filter (whose_at at p q) (db tree)) in
            let ordered : a.ordered ≡ map out ms = ordered_is (output_cmp query) (output_cmp_total query) less key out ranks ms rises a.kept a.ordered ([], []) a.same a.sorted
            (subst (IsDistinct (eq_by_cmp (output_cmp query))) (sym put) apart)
            (λ o there.
            let r = has_mapped shows (filter (whose_at at p q) (db tree)) o (subst (λ (os : List Output). Has os o) put there) in
            let f = has_filtered (whose_at at p q) (db tree) r.0 r.1 in
            let x = row_of r.0 f.0 f.1 in
            (x.1, x.2, r.2 ∙ ap shows x.3 ∙ is.puts x.0 x.1))
            (λ m there.
            let x = model_held m there in
            let shown = mapped_has shows (filter (whose_at at p q) (db tree)) (stored_as x.0 m) (has_kept (whose_at at p q) (db tree) (stored_as x.0 m) x.1 (is.passes x.0 m there)) in
            subst (Has a.kept) (is.puts x.0 m) (subst (λ (os : List Output). Has os (shows (stored_as x.0 m))) (sym put) shown)) in
            a.shown ∙ ap (map (λ (o : Output). o.1)) ordered ∙ map-both out (λ (o : Output). o.1) ms
