-- The whole of `book`, which has one row, and of `entry` and `entry_rules`, in the order of their
-- numbers.
use Rattle.std.proofs.Common.{◌≡◌, inl, inr, ℕ, suc, List, [], ◌∷◌, length, map, drop, Bool, true, false, codes, Less, Equal, refl, sym, ap, subst, ◌∙◌, arith}
use Rattle.std.specs.List.Sorted.{IsPermutation}
use Rattle.std.specs.Ordering.{ordering_then}
use Rattle.std.proofs.lemmas.List.{length-map}
use Rattle.std.proofs.lemmas.List.Sorted.{length_permutation}
use Rattle.sqlite.specs.declared.types.Value.{Value}
use Rattle.sqlite.specs.declared.types.Value.TheVariants as value
use Rattle.sqlite.specs.Order.{Row, column}
use Rattle.sqlite.specs.Query.{Query, IsAnswer, Output, output_cmp}
use Rattle.sqlite.specs.Table.{Table}
use Rattle.sqlite.specs.Program.{overlay}
use Rattle.sqlite.specs.Tree.{Trees, IsTable}
use Rattle.sqlite_schema.specs.Rules.{are_typed}
use Rattle.sqlite_sql.specs.Ops.{is_null}
use Rattle.sqlite_trees.specs.Tree.{IsAscending}
use Rattle.sqlite_trees.proofs.ListLemmas.{ascending-map, ascending_weaker}
use Rattle.sqlite.proofs.Callers.{one_permutation}
use Rattle.sqlite_rules.specs.Lists.{Has}
use Rattle.sqlite.specs.Schema.{Schema}
use Rattle.sqlite.specs.Effect.{Database, IsDatabase}
use Rattle.book_statements.specs.Layout.{IsLayout, ours, book_trees, rules_tree, entry_rules_at, text, number, blob, book_layout, entry_layout, entry_rules_layout}
use Rattle.book_tables.proofs.InOrder.{in_order}
use Rattle.book_statements.proofs.KeyLemmas.{places}
use Rattle.book_statements.proofs.Values.{and_true}
use Rattle.book_statements.proofs.ReadingTexts.{ordered_from}
use Rattle.book_tables.proofs.WholeFound.{out, kept_is, stored_shown}
use Rattle.book_tables.proofs.WholeKeyed.{columns_out}
use Rattle.book_tables.proofs.WholeRows.{row_full, row_typed, all_columns}
use Rattle.book_statements.proofs.WholeTexts.{columns_at, rising_at, book_query, entry_query, rules_query}

-- `book`.

abbrev book_out : Row → Output
book_out = out 0 (columns_at (places 0 4)) []

book_full : (base : Database) → IsLayout base.schema → IsDatabase base → (row : Row) → Has (book_trees base 0) row → (book_out row).1 ≡ row
book_full base lies sound row there =
    columns_out row (places 0 4) ∙ all_columns row 4 (row_full base.schema lies base.trees book_layout (inl refl) sound row there 2 (text (codes "id")) refl refl refl refl refl)

-- one row is shown where there is one
pub book_shown : (db : Trees) (rows : List Row) (a : IsAnswer book_query (overlay db []) [] rows) (row : Row) → db 0 ≡ row ∷ [] → rows ≡ (book_out row).1 ∷ []
book_shown db rows a row is =
    let kept : a.kept ≡ book_out row ∷ [] = kept_is 0 (columns_at (places 0 4)) [] (λ _. refl) db rows a ∙ ap (map book_out) is in
    let ordered : a.ordered ≡ book_out row ∷ [] = one_permutation (book_out row) a.ordered (subst (λ (os : List Output). IsPermutation os a.ordered) kept a.same) in
    a.shown ∙ ap (map (λ (o : Output). o.1)) ordered

only_one : (xs : List Row) → length xs ≡ 1 → (x : Row) × (xs ≡ x ∷ [])
only_one [] h = absurd (omega (arith, h))
only_one (x ∷ []) h = (x, refl)
only_one (x ∷ y ∷ xs) h = absurd (omega (arith, h))

pub book_same : (one two : Database) → IsLayout one.schema → IsLayout two.schema → IsDatabase one → IsDatabase two → (rows : List Row) → IsAnswer book_query (overlay (book_trees one) []) [] rows → IsAnswer book_query (overlay (book_trees two) []) [] rows
    → (row : Row) → book_trees two 0 ≡ row ∷ [] → book_trees one 0 ≡ row ∷ []
book_same one two lies its_lies sound its_sound rows a b row is =
    let db : Trees = book_trees one in
    let its : Trees = book_trees two in
    let alone = book_shown its rows b row is in
    let count : length (db 0) ≡ 1 =
    sym (ap length (kept_is 0 (columns_at (places 0 4)) [] (λ _. refl) db rows a) ∙ length-map (db 0) book_out) ∙ sym (length_permutation a.kept a.ordered a.same) ∙ sym (length-map a.ordered (λ (o : Output). o.1)) ∙ sym (ap length a.shown) ∙ ap length alone in
    let mine = only_one (db 0) count in
    let there : Has (db 0) mine.0 = subst (λ (rs : List Row). Has rs mine.0) (sym mine.1) (inl refl) in
    let its_there : Has (its 0) row = subst (λ (rs : List Row). Has rs row) (sym is) (inl refl) in
    let listed = subst (λ (rs : List Row). Has rs (book_out mine.0).1) alone (stored_shown 0 (columns_at (places 0 4)) [] (λ _. refl) db rows a mine.0 there) in
    let same : (book_out mine.0).1 ≡ (book_out row).1 = elim listed [ inl e ↦ e | inr none ↦ absurd none ] in
    mine.1 ∙ ap (λ (r : Row). r ∷ []) (sym (book_full one lies sound mine.0 there) ∙ same ∙ book_full two its_lies its_sound row its_there)

-- A table whose first column is its rowid, which shows that and so many columns more, in the order
-- of its numbers.

-- a row of which all but the second value is shown, which is NULL
abbrev unshown : Row → Row
unshown [] = []
unshown (v ∷ r) = v ∷ value.Null ∷ r

null_is : (v : Value) → is_null v ≡ true → value.Null ≡ v
null_is value.Null h = refl
null_is (value.Int n) h = absurd (let e : ◌≡◌ {A = Bool} false true = h in cc)
null_is (value.Real x) h = absurd (let e : ◌≡◌ {A = Bool} false true = h in cc)
null_is (value.Text t) h = absurd (let e : ◌≡◌ {A = Bool} false true = h in cc)
null_is (value.Blob b) h = absurd (let e : ◌≡◌ {A = Bool} false true = h in cc)

module _ (tree n : ℕ) (lies : (db : Trees) → overlay db [] tree ≡ db tree) where
  abbrev shown : List ℕ
  shown = 0 ∷ places 2 n

  abbrev pub seq_query : Query
  seq_query = ordered_from tree [] (columns_at shown) (rising_at (0 ∷ []))

  abbrev seq_out : Row → Output
  seq_out = out tree (columns_at shown) (rising_at (0 ∷ []))

  abbrev seq_row : Row → Row
  seq_row r = (seq_out r).1

  seqs_shown : (db : Trees) (rows : List Row) → IsTable (db tree) → IsAnswer seq_query (overlay db []) [] rows → rows ≡ map seq_row (db tree)
  seqs_shown db rows up a =
      let is = kept_is tree (columns_at shown) (rising_at (0 ∷ [])) lies db rows a in
      let rising : IsAscending (λ x y. output_cmp seq_query x y ≡ Less) a.kept =
      subst (IsAscending (λ x y. output_cmp seq_query x y ≡ Less)) (sym is) (ascending-map _ seq_out (db tree) (ascending_weaker _ _ (λ r s h. ap (λ o. ordering_then o Equal) h) (db tree) up)) in
      let same : a.ordered ≡ a.kept = in_order seq_query a.kept a.ordered rising a.same a.sorted in
      a.shown ∙ ap (map (λ (o : Output). o.1)) (same ∙ is) ∙ map_map seq_out (λ (o : Output). o.1) (db tree)
    where
      map_map : {A B C : Type 0} (f : A → B) (g : B → C) (xs : List A) → map g (map f xs) ≡ map (λ x. g (f x)) xs
      map_map f g [] = refl
      map_map f g (x ∷ xs) = ap (λ ys. g (f x) ∷ ys) (map_map f g xs)

  module _ (table : Table) (first_null : (v : Value) (vs : Row) → are_typed table.key 0 table.columns (v ∷ vs) ≡ true → is_null v ≡ true)
      (full : (base : Database) → IsLayout base.schema → IsDatabase base → (row : Row) → Has (book_trees base tree) row → (length row ≡ suc (suc n)) × (are_typed table.key 0 table.columns (drop 1 row) ≡ true)) where
    second_null : (row : Row) → are_typed table.key 0 table.columns (drop 1 row) ≡ true → length row ≡ suc (suc n) → value.Null ≡ column row 1
    second_null [] h long = absurd (omega (arith, long))
    second_null (x ∷ []) h long = absurd (omega (arith, long))
    second_null (x ∷ v ∷ row) h long = null_is v (first_null v row h)

    seq_whole : (base : Database) → IsLayout base.schema → IsDatabase base → (row : Row) → Has (book_trees base tree) row → unshown (seq_row row) ≡ row
    seq_whole base lies sound row there =
        let it = full base lies sound row there in
        let null = second_null row it.1 it.0 in
        ap unshown (columns_out row shown) ∙ ap (λ (v : Value). column row 0 ∷ v ∷ map (column row) (places 2 n)) null ∙ all_columns row (suc (suc n)) it.0

    undone : (xs : List Row) → ((r : Row) → Has xs r → unshown (seq_row r) ≡ r) → map unshown (map seq_row xs) ≡ xs
    undone [] h = refl
    undone (x ∷ xs) h = λ i. h x (inl refl) i ∷ undone xs (λ r there. h r (inr there)) i

    seqs_same : (one two : Database) → IsLayout one.schema → IsLayout two.schema → IsDatabase one → IsDatabase two → (rows : List Row) → IsTable (book_trees one tree) → IsTable (book_trees two tree)
        → IsAnswer seq_query (overlay (book_trees one) []) [] rows → IsAnswer seq_query (overlay (book_trees two) []) [] rows → book_trees one tree ≡ book_trees two tree
    seqs_same one two lies its_lies sound its_sound rows up its_up a b =
        let db : Trees = book_trees one in
        let its : Trees = book_trees two in
        sym (undone (db tree) (seq_whole one lies sound)) ∙ ap (map unshown) (sym (seqs_shown db rows up a) ∙ seqs_shown its rows its_up b) ∙ undone (its tree) (seq_whole two its_lies its_sound)

-- `entry`.

pub entries_shown : (db : Trees) (rows : List Row) → IsTable (db 1) → IsAnswer entry_query (overlay db []) [] rows → rows ≡ map (seq_row 1 5 (λ _. refl)) (db 1)
entries_shown = seqs_shown 1 5 (λ _. refl)

pub entries_same : (one two : Database) → IsLayout one.schema → IsLayout two.schema → IsDatabase one → IsDatabase two → (rows : List Row) → IsTable (book_trees one 1) → IsTable (book_trees two 1)
    → IsAnswer entry_query (overlay (book_trees one) []) [] rows → IsAnswer entry_query (overlay (book_trees two) []) [] rows → book_trees one 1 ≡ book_trees two 1
entries_same = seqs_same 1 5 (λ _. refl) entry_layout (λ v vs h. (and_true _ _ h).0)
    (λ base lies sound row there. (
      row_full base.schema lies base.trees entry_layout (inr (inl refl)) sound row there 5 (blob (codes "body")) refl refl refl refl refl,
      row_typed base.schema lies base.trees entry_layout (inr (inl refl)) sound row there,
    ))

-- `entry_rules`.

pub rules_shown : (db : Trees) (rows : List Row) → IsTable (db 18) → IsAnswer rules_query (overlay db []) [] rows → rows ≡ map (seq_row 18 1 (λ _. refl)) (db 18)
rules_shown = seqs_shown 18 1 (λ _. refl)

rules_listed : (schema : Schema) → Has (ours schema) (entry_rules_at (rules_tree schema))
rules_listed schema = inr (inr (inr (inr (inr (inr (inr (inr (inr (inl refl)))))))))

pub rules_same : (one two : Database) → IsLayout one.schema → IsLayout two.schema → IsDatabase one → IsDatabase two → (rows : List Row) → IsTable (book_trees one 18) → IsTable (book_trees two 18)
    → IsAnswer rules_query (overlay (book_trees one) []) [] rows → IsAnswer rules_query (overlay (book_trees two) []) [] rows → book_trees one 18 ≡ book_trees two 18
rules_same = seqs_same 18 1 (λ _. refl) entry_rules_layout (λ v vs h. (and_true _ _ h).0)
    (λ base lies sound row there. (
      row_full base.schema lies base.trees (entry_rules_at (rules_tree base.schema)) (rules_listed base.schema) sound row there 1 (number (codes "rules")) refl refl refl refl refl,
      row_typed base.schema lies base.trees (entry_rules_at (rules_tree base.schema)) (rules_listed base.schema) sound row there,
    ))
