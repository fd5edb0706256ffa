-- Two keyed tables that hold one set of rows show the same rows.
use Rattle.std.proofs.Common.{◌≡◌, inl, inr, ℕ, zero, suc, List, [], ◌∷◌, map, filter, take, Bool, true, false, Ordering, Less, Equal, Greater, codes, refl, sym, ap, subst, ◌∙◌}
use Rattle.std.specs.List.{IsDistinct}
use Rattle.std.specs.List.Sorted.{IsStrictlySortedBy}
use Rattle.std.specs.Ordering.{is_eq, ordering_then, ordering_reverse, eq_by_cmp}
use Rattle.std.proofs.lemmas.Map.Keys.{IsDistinct-IsPermutation}
use Rattle.sqlite.specs.declared.types.Value.{Value}
use Rattle.sqlite.specs.declared.types.Value.TheVariants as value
use Rattle.sqlite.specs.Order.{Row, column}
use Rattle.sqlite.specs.Collation.TheVariants.{Binary}
use Rattle.sqlite.specs.Query.{IsAnswer, Output, output_cmp}
use Rattle.sqlite_sql.specs.Query.{key_cmp}
use Rattle.sqlite_sql.proofs.QueryLemmas.{output_cmp_total}
use Rattle.sqlite.specs.Program.{overlay}
use Rattle.sqlite.specs.Term.{Term}
use Rattle.sqlite.specs.Tree.{Trees, IsTable}
use Rattle.sqlite_value.specs.declared.keys.Key.{Key}
use Rattle.sqlite_value.specs.Keys.{by_key, ascending}
use Rattle.sqlite_value.proofs.OrderLemmas.{value_cmp-apart}
use Rattle.sqlite_catalog.specs.Listing.{IsSound}
use Rattle.sqlite_rules.specs.Lists.{Has}
use Rattle.sqlite_rules.proofs.ProbeLemmas.{has_mapped, mapped_has}
use Rattle.definitions.specs.Tables.{TableRow}
use Rattle.book_statements.specs.Held.{values, Holds}
use Rattle.sqlite.specs.Schema.{Schema}
use Rattle.sqlite.specs.Effect.{Database, IsDatabase}
use Rattle.book_statements.specs.Layout.{IsLayout, book_trees, placed, expiry_tree}
use Rattle.book_statements.specs.declared.names.TableName.{TableName}
use Rattle.book_statements.specs.declared.names.TableName.TheVariants.{Book, Entry, Outgoing, Stock, Advice, AdviceLine, Orders, OrderLine, Reservation, EntryRules, LotExpiry}
use Rattle.book_statements.specs.Standing.{Keying, ByColumns, AreByKey, keying_of, schema_of, tree_of, width_of}
use Rattle.book_statements.specs.Steps.{AreKeyed, has_key, key_of}
use Rattle.book_statements.proofs.HoldsLemmas.{are_keyed}
use Rattle.book_statements.proofs.KeyLemmas.{places, same_text, same_int, equal_texts, equal_ints}
use Rattle.book_tables.proofs.Sorts.{sorted_apart, sorted_same, shown_apart}
use Rattle.book_statements.proofs.UpsertLemmas.{only_row}
use Rattle.book_tables.proofs.WholeFound.{out, kept_is, into, back}
use Rattle.book_tables.proofs.WholeKeyed.{table_lies, columns_out, sorted_out}
use Rattle.book_tables.proofs.WholeRows.{columns_later}
use Rattle.book_statements.proofs.WholeTexts.{columns_at, rising_at, columns_of, keyed_query}

-- Keys that tie are the same.

then_eq : (o p : Ordering) → is_eq (ordering_then o p) ≡ true → (is_eq o ≡ true) × (is_eq p ≡ true)
then_eq Less p h = absurd (let e : ◌≡◌ {A = Bool} false true = h in cc)
then_eq Equal p h = (refl, h)
then_eq Greater p h = absurd (let e : ◌≡◌ {A = Bool} false true = h in cc)

key_later : (ks : List Key) (at : ℕ) (x y : Value) (a b : Row) → key_cmp (suc at) ks (x ∷ a) (y ∷ b) ≡ key_cmp at ks a b
key_later [] at x y a b = refl
key_later (k ∷ ks) at x y a b = ap (ordering_then (by_key k (column a at) (column b at))) (key_later ks (suc at) x y a b)

abbrev keys_at : List ℕ → List Key
keys_at at = map (λ (k : Term × Key). k.1) (rising_at at)

-- the first cells of keys that tie
first_same : (k : ℕ) (x y : Value) (a b : Row) → has_key (suc k) (x ∷ a) ≡ true → has_key (suc k) (y ∷ b) ≡ true → is_eq (by_key (ascending Binary) x y) ≡ true → (x ≡ y) × (has_key k a ≡ true) × (has_key k b ≡ true)
first_same k value.Null y a b p q h = absurd (let e : ◌≡◌ {A = Bool} false true = p in cc)
first_same k (value.Real v) y a b p q h = absurd (let e : ◌≡◌ {A = Bool} false true = p in cc)
first_same k (value.Blob v) y a b p q h = absurd (let e : ◌≡◌ {A = Bool} false true = p in cc)
first_same k (value.Int m) value.Null a b p q h = absurd (let e : ◌≡◌ {A = Bool} false true = q in cc)
first_same k (value.Int m) (value.Real v) a b p q h = absurd (let e : ◌≡◌ {A = Bool} false true = q in cc)
first_same k (value.Int m) (value.Blob v) a b p q h = absurd (let e : ◌≡◌ {A = Bool} false true = q in cc)
first_same k (value.Int m) (value.Int n) a b p q h = (ap value.Int (same_int m n (equal_ints m n ∙ h)), p, q)
first_same k (value.Int m) (value.Text t) a b p q h =
    absurd (let g = ap is_eq (sym (value_cmp-apart (value.Int m) (value.Text t) (λ e. let f : ◌≡◌ {A = ℕ} 1 2 = e in cc))) ∙ h in let e : ◌≡◌ {A = Bool} false true = g in cc)
first_same k (value.Text s) value.Null a b p q h = absurd (let e : ◌≡◌ {A = Bool} false true = q in cc)
first_same k (value.Text s) (value.Real v) a b p q h = absurd (let e : ◌≡◌ {A = Bool} false true = q in cc)
first_same k (value.Text s) (value.Blob v) a b p q h = absurd (let e : ◌≡◌ {A = Bool} false true = q in cc)
first_same k (value.Text s) (value.Int n) a b p q h =
    absurd (let g = ap is_eq (sym (value_cmp-apart (value.Text s) (value.Int n) (λ e. let f : ◌≡◌ {A = ℕ} 2 1 = e in cc))) ∙ h in let e : ◌≡◌ {A = Bool} false true = g in cc)
first_same k (value.Text s) (value.Text t) a b p q h = (ap value.Text (same_text s t (equal_texts s t ∙ h)), p, q)

no_key : (k : ℕ) (P : Type 0) → has_key (suc k) [] ≡ true → P
no_key k P h = absurd (let e : ◌≡◌ {A = Bool} false true = h in cc)

tied_keys : (k at : ℕ) (a b : Row) → has_key k a ≡ true → has_key k b ≡ true → is_eq (key_cmp 0 (keys_at (places at k)) (map (column a) (places 0 k)) (map (column b) (places 0 k))) ≡ true → take k a ≡ take k b
tied_keys zero at a b p q h = refl
tied_keys (suc k) at [] b p q h = no_key k _ p
tied_keys (suc k) at (x ∷ a) [] p q h = no_key k _ q
tied_keys (suc k) at (x ∷ a) (y ∷ b) p q h =
    let ks : List Key = keys_at (places (suc at) k) in
    let both = then_eq (by_key (ascending Binary) x y) (key_cmp 1 ks (x ∷ map (column (x ∷ a)) (places 1 k)) (y ∷ map (column (y ∷ b)) (places 1 k))) h in
    let first = first_same k x y a b p q both.0 in
    let moved = key_later ks 0 x y (map (column (x ∷ a)) (places 1 k)) (map (column (y ∷ b)) (places 1 k)) ∙ (λ i. key_cmp 0 ks (columns_later x a k 0 i) (columns_later y b k 0 i)) in
    let rest = tied_keys k (suc at) a b first.1 first.2 (sym (ap is_eq moved) ∙ both.1) in
    (λ i. first.0 i ∷ rest i)

abbrev by_columns : Keying → ℕ
by_columns ByColumns = 1
by_columns g = 0

-- no two rows of a table that is keyed by its columns have one key
one_row : (t : TableName) → keying_of t ≡ ByColumns → (schema : Schema) → IsLayout schema → (db : Trees) → IsSound schema db → AreKeyed (width_of t) (placed schema db (tree_of t)) → (a b : Row) → Has (placed schema db (tree_of t)) a → Has (placed schema db (tree_of t)) b
    → key_of (width_of t) a ≡ key_of (width_of t) b → a ≡ b
one_row Book is schema lies db = absurd (let e : ◌≡◌ {A = ℕ} 0 1 = ap by_columns is in cc)
one_row Entry is schema lies db = absurd (let e : ◌≡◌ {A = ℕ} 0 1 = ap by_columns is in cc)
one_row EntryRules is schema lies db = absurd (let e : ◌≡◌ {A = ℕ} 0 1 = ap by_columns is in cc)
one_row Outgoing is schema lies db = only_row schema lies (codes "outgoing") 4 2 _ _ db (inr (inr (inl refl)))
one_row Stock is schema lies db = only_row schema lies (codes "stock") 6 3 _ _ db (inr (inr (inr (inl refl))))
one_row Advice is schema lies db = only_row schema lies (codes "advice") 8 2 _ _ db (inr (inr (inr (inr (inl refl)))))
one_row AdviceLine is schema lies db = only_row schema lies (codes "advice_line") 10 3 _ _ db (inr (inr (inr (inr (inr (inl refl))))))
one_row Orders is schema lies db = only_row schema lies (codes "orders") 12 2 _ _ db (inr (inr (inr (inr (inr (inr (inl refl)))))))
one_row OrderLine is schema lies db = only_row schema lies (codes "order_line") 14 3 _ _ db (inr (inr (inr (inr (inr (inr (inr (inl refl))))))))
one_row Reservation is schema lies db = only_row schema lies (codes "reservation") 16 4 _ _ db (inr (inr (inr (inr (inr (inr (inr (inr (inl refl)))))))))
one_row LotExpiry is schema lies db = only_row schema lies (codes "lot_expiry") (expiry_tree schema) 3 _ _ db (inr (inr (inr (inr (inr (inr (inr (inr (inr (inr (inl refl)))))))))))

flipped : (o p : Ordering) → o ≡ ordering_reverse p → is_eq o ≡ is_eq p
flipped o Less e = ap is_eq e
flipped o Equal e = ap is_eq e
flipped o Greater e = ap is_eq e

module _ (t : TableName) (is : keying_of t ≡ ByColumns) where
  abbrev cmp : Output → Output → Ordering
  cmp = output_cmp (keyed_query t)

  abbrev put : Row → Output
  put = out (tree_of t) (columns_at (places 1 (columns_of t))) (rising_at (places 1 (width_of t)))

  -- what is put out of a row doesn't tell its rowid
  put_as : (i j : Value) (r : Row) → put (i ∷ r) ≡ put (j ∷ r)
  put_as i j r = λ at. (
    (sorted_out (i ∷ r) (places 1 (width_of t)) ∙ columns_later i r (width_of t) 0 ∙ sym (sorted_out (j ∷ r) (places 1 (width_of t)) ∙ columns_later j r (width_of t) 0)) at,
    (columns_out (i ∷ r) (places 1 (columns_of t)) ∙ columns_later i r (columns_of t) 0 ∙ sym (columns_out (j ∷ r) (places 1 (columns_of t)) ∙ columns_later j r (columns_of t) 0)) at,
  )

  key_out : (i : Value) (r : Row) → (put (i ∷ r)).0 ≡ map (column r) (places 0 (width_of t))
  key_out i r = sorted_out (i ∷ r) (places 1 (width_of t)) ∙ columns_later i r (width_of t) 0

  -- rows that tie are one
  one_out : (schema : Schema) → IsLayout schema → (db : Trees) → IsSound schema db → AreKeyed (width_of t) (placed schema db (tree_of t)) → (a b : Row) → Has (placed schema db (tree_of t)) a → Has (placed schema db (tree_of t)) b → eq_by_cmp cmp (put a) (put b) ≡ true → a ≡ b
  one_out schema lies db sound keyed a b here there alike =
      let k = width_of t in
      let x = keyed.each a here in
      let y = keyed.each b there in
      let left = ap (λ (r : Row). (put r).0) x.2 ∙ key_out (value.Int x.0) x.1 in
      let right = ap (λ (r : Row). (put r).0) y.2 ∙ key_out (value.Int y.0) y.1 in
      let tie = sym (λ i. is_eq (key_cmp 0 (keys_at (places 1 k)) (left i) (right i))) ∙ alike in
      let same = tied_keys k 1 x.1 y.1 x.3 y.3 tie in
      one_row t is schema lies db sound keyed a b here there (ap (key_of k) x.2 ∙ same ∙ sym (ap (key_of k) y.2))

  module _ (base : Database) (lies : IsLayout base.schema) (sound : IsDatabase base) (cells : List TableRow) (by_key : AreByKey (schema_of t) (width_of t) cells) (held : Holds cells (book_trees base (tree_of t))) (rows : List Row)
      (a : IsAnswer (keyed_query t) (overlay (book_trees base) []) [] rows) where
    abbrev db : Trees
    db = book_trees base

    strictly : IsStrictlySortedBy cmp a.ordered
    strictly =
        let total = output_cmp_total (keyed_query t) in
        let flips : (x y : Output) → eq_by_cmp cmp x y ≡ eq_by_cmp cmp y x = λ x y. flipped (cmp x y) (cmp y x) (total.antisymm x y) in
        let keyed = are_keyed (schema_of t) (width_of t) cells (db (tree_of t)) by_key held in
        let apart : IsDistinct (eq_by_cmp cmp) (map put (db (tree_of t))) = stored_apart (db (tree_of t)) held.rise (one_out base.schema lies base.trees sound keyed) in
        let kept = subst (IsDistinct (eq_by_cmp cmp)) (sym (kept_is (tree_of t) (columns_at (places 1 (columns_of t))) (rising_at (places 1 (width_of t))) (table_lies t) db rows a)) apart in
        sorted_apart cmp total a.ordered ([], []) a.sorted (IsDistinct-IsPermutation (eq_by_cmp cmp) flips a.kept a.ordered a.same kept)
      where
        all_pass : (xs : List Row) → filter (λ (_ : Row). true) xs ≡ xs
        all_pass [] = refl
        all_pass (x ∷ xs) = ap (λ ys. x ∷ ys) (all_pass xs)

        stored_apart : (stored : List Row) → IsTable stored → ((x y : Row) → Has stored x → Has stored y → eq_by_cmp cmp (put x) (put y) ≡ true → x ≡ y) → IsDistinct (eq_by_cmp cmp) (map put stored)
        stored_apart stored rise one =
            subst (λ (xs : List Row). IsDistinct (eq_by_cmp cmp) (map put xs)) (all_pass stored)
            (shown_apart (eq_by_cmp cmp) put (λ (_ : Row). true) stored rise (λ x y h k _ _ alike. one x y h k alike))

    -- what is put out here is put out of another table that holds the rows
    moved : (its : Trees) (its_held : Holds cells (its (tree_of t))) (its_rows : List Row) (b : IsAnswer (keyed_query t) (overlay its []) [] its_rows) → (o : Output) → Has a.ordered o → Has b.ordered o
    moved its its_held its_rows b o there =
        let project = columns_at (places 1 (columns_of t)) in
        let order = rising_at (places 1 (width_of t)) in
        let kept = subst (λ (os : List Output). Has os o) (kept_is (tree_of t) project order (table_lies t) db rows a) (back (tree_of t) project order (table_lies t) db rows a o there) in
        let r = has_mapped put (db (tree_of t)) o kept in
        let it = held.sound r.0 r.1 in
        let other = its_held.complete it.1 it.2 in
        let same : o ≡ put (value.Int other.0 ∷ values it.1) = r.2 ∙ ap put it.3 ∙ put_as (value.Int it.0) (value.Int other.0) (values it.1) in
        let listed = subst (λ (os : List Output). Has os (put (value.Int other.0 ∷ values it.1))) (sym (kept_is (tree_of t) project order (table_lies t) its its_rows b)) (mapped_has put (its (tree_of t)) (value.Int other.0 ∷ values it.1) other.1) in
        subst (Has b.ordered) (sym same) (into (tree_of t) project order (table_lies t) its its_rows b (put (value.Int other.0 ∷ values it.1)) listed)

  pub same_shown : (one two : Database) → IsLayout one.schema → IsLayout two.schema → IsDatabase one → IsDatabase two → (cells : List TableRow) → AreByKey (schema_of t) (width_of t) cells
      → Holds cells (book_trees one (tree_of t)) → Holds cells (book_trees two (tree_of t)) → (rows its_rows : List Row)
      → IsAnswer (keyed_query t) (overlay (book_trees one) []) [] rows → IsAnswer (keyed_query t) (overlay (book_trees two) []) [] its_rows → rows ≡ its_rows
  same_shown one two lies its_lies sound its_sound cells by_key held its_held rows its_rows a b =
      let ordered : a.ordered ≡ b.ordered = sorted_same cmp (output_cmp_total (keyed_query t)) a.ordered b.ordered
      (strictly one lies sound cells by_key held rows a) (strictly two its_lies its_sound cells by_key its_held its_rows b)
      (moved one lies sound cells by_key held rows a (book_trees two) its_held its_rows b) (moved two its_lies its_sound cells by_key its_held its_rows b (book_trees one) held rows a) in
      a.shown ∙ ap (map (λ (o : Output). o.1)) ordered ∙ sym b.shown
