-- What the schema of a book of version 1 is once the two tables of version 2 stand after all that
-- was there.
use Rattle.std.proofs.Common.{◌≡◌, ◌+◌, ◌<◌, codes, ℕ, zero, suc, List, [], ◌∷◌, ◌++◌, length, filter, not, ◌&&◌, ◌||◌, ◌==◌, Bool, true, false, Some, None, Option, refl, sym, ap, subst, ◌∙◌, inl, inr, arith, append-nil, eq-eqb}
use Rattle.std.specs.Prelude.{option_map, option_and_then, is_some, slice_get, find}
use Rattle.std.specs.List.{AllByRecursion, list_any, position_from}
use Rattle.std.proofs.lemmas.Bool.{cases_Bool}
use Rattle.sqlite.specs.Table.{Table}
use Rattle.sqlite.specs.Schema.{Schema}
use Rattle.sqlite.specs.Tree.{Trees}
use Rattle.sqlite.specs.Rows.{sequence}
use Rattle.sqlite.specs.Does.{lacks_sequence}
use Rattle.sqlite_schema.specs.declared.schema.Index.{Index}
use Rattle.sqlite_schema.specs.declared.schema.Reference.{Reference}
use Rattle.sqlite_schema.specs.Names.{same_name, table_named, index_named, view_named}
use Rattle.sqlite_schema.specs.Rules.{ParentKey, parent_key, key_in, key_places, declared_order}
use Rattle.sqlite_catalog.specs.Change.{created, next_tree, is_used}
use Rattle.sqlite_catalog.specs.Listing.{IsSound, IsIndexRow, IsTableRow, IsDefined}
use Rattle.sqlite_catalog.proofs.StepLemmas.{table_below}
use Rattle.sqlite_catalog.proofs.LayoutLemmas.{zipped_left}
use Rattle.sqlite_tied.specs.Compute.{everything}
use Rattle.sqlite_rules.specs.Lists.{Has}
use Rattle.sqlite_rules.proofs.ListLemmas.{all_has, all_from}
use Rattle.sqlite_value.specs.declared.keys.Order.{Order}
use Rattle.sqlite.specs.declared.types.Value.{Value}
use Rattle.sqlite.specs.declared.types.Value.TheVariants as value
use Rattle.book_statements.specs.Layout.{beside, first_tables, key_index, indexes_on, indexes_of, is_of, is_key_of, refers_to, names_new, ours, rules_tree, expiry_tree, entry_rules_at, lot_expiry_at, StandsAt, IsLayout, IsFirstLayout}
use Rattle.book_statements.proofs.Beside.{has_first, has_either}
use Rattle.book_statements.proofs.ListsGrown.{filter-append, none_pass, none_of, each_of, placed_step, placed_here, placed_after, got_after, found_after, append_one, not_some, first_false, either_false, differs, flipped, has_last, found_before, found_has}

-- ---- what a sound database's tables and indexes are

pub low_tree : (schema : Schema) (db : Trees) → IsSound schema db → (t : Table) → Has schema.tables t → t.tree < 65536
low_tree schema db sound t there =
    let lists = sound.lists in
    let listed = lists.listed in
    let row = zipped_left IsTableRow _ schema.tables t listed.tables there in
    let is = row.2 in
    let described = is.described in described.low

defined_on : (table : Table) (i : Index) (v : Value) → IsDefined table i v → i.table ≡ table.tree
defined_on table i value.Null h = ap (λ (j : Index). j.table) h.3
defined_on table i (value.Int n) h = absurd h
defined_on table i (value.Real x) h = absurd h
defined_on table i (value.Text t) h = ap (λ (j : Index). j.table) h.2
defined_on table i (value.Blob b) h = absurd h

index_on : (schema : Schema) (db : Trees) → IsSound schema db → (i : Index) → Has schema.indexes i → (t : Table) × Has schema.tables t × (i.table ≡ t.tree)
index_on schema db sound i there =
    let lists = sound.lists in
    let listed = lists.listed in
    let row = zipped_left (IsIndexRow schema.tables) _ schema.indexes i listed.indexes there in
    let is = row.2 in
    (is.table, is.listed, defined_on is.table i _ is.defined)

-- ---- the two tables come

same_rules : same_name (codes "entry_rules") (codes "entry_rules") ≡ true
unfolding everything same_name
same_rules = refl

same_expiry : same_name (codes "lot_expiry") (codes "lot_expiry") ≡ true
unfolding everything same_name
same_expiry = refl

none_named : (schema : Schema) (name : List ℕ) → is_used schema name ≡ false → table_named schema name ≡ None
none_named schema name free = not_some (table_named schema name) (first_false (is_some (table_named schema name)) (is_some (index_named schema name)) (is_some (view_named schema name)) free)

key_other : (ts us : List Table) (o : Option ParentKey) → is_key_of ts o ≡ false → ((key : ParentKey) → o ≡ Some key → is_of ts key.0 ≡ false → is_of us key.0 ≡ false) → is_key_of us o ≡ false
key_other ts us None h other = refl
key_other ts us (Some key) h other = other key refl h

module _ (s : Schema) (lies : IsFirstLayout s) (db : Trees) (sound : IsSound s db) where
  abbrev one : Schema
  one = created s (entry_rules_at 0)

  abbrev two : Schema
  two = created one (lot_expiry_at 0)

  abbrev r : ℕ
  r = next_tree s

  abbrev x : ℕ
  x = next_tree one

  abbrev X : Index
  X = key_index (lot_expiry_at x)

  tables_are : two.tables ≡ s.tables ++ entry_rules_at r ∷ lot_expiry_at x ∷ []
  tables_are = append_one s.tables (entry_rules_at r) (lot_expiry_at x)

  indexes_are : two.indexes ≡ s.indexes ++ X ∷ []
  indexes_are = ap (λ is. is ++ X ∷ []) (append-nil s.indexes)

  first_there : (t : Table) → Has first_tables t → Has s.tables t
  first_there t h = let others = lies.others in subst (λ (z : Schema). Has z.tables t) (sym lies.is) (has_first first_tables others.tables t h)

  into_one : (t : Table) → Has s.tables t → Has one.tables t
  into_one t h = has_first s.tables (entry_rules_at r ∷ []) t h

  rules_in_one : Has one.tables (entry_rules_at r)
  rules_in_one = has_last s.tables (entry_rules_at r ∷ []) (entry_rules_at r) (inl refl)

  r_below : r < x
  r_below = table_below one (entry_rules_at r) rules_in_one

  old_table : (i : Index) → Has s.indexes i → i.table < r
  old_table i h = let on = index_on s db sound i h in subst (λ n. n < r) (sym on.2) (table_below s on.0 on.1)

  module _ (free : is_used s (codes "entry_rules") ≡ false) (free_too : is_used one (codes "lot_expiry") ≡ false) (after : Trees) (sound_after : IsSound two after) where
    rules_found : table_named two (codes "entry_rules") ≡ Some (length s.tables)
    rules_found = ap (position_from (λ (t : Table). same_name t.name (codes "entry_rules")) 0) tables_are
        ∙ placed_after (λ (t : Table). same_name t.name (codes "entry_rules")) 0 s.tables (lot_expiry_at x ∷ []) (entry_rules_at r) (none_named s (codes "entry_rules") free) same_rules
        ∙ ap Some (let e : 0 + length s.tables ≡ length s.tables = omega arith in e)

    rules_there : slice_get two.tables (length s.tables) ≡ Some (entry_rules_at r)
    rules_there = ap (λ ts. slice_get ts (length s.tables)) tables_are ∙ got_after s.tables (lot_expiry_at x ∷ []) (entry_rules_at r)

    expiry_found : table_named two (codes "lot_expiry") ≡ Some (length one.tables)
    expiry_found = placed_after (λ (t : Table). same_name t.name (codes "lot_expiry")) 0 one.tables [] (lot_expiry_at x) (none_named one (codes "lot_expiry") free_too) same_expiry
        ∙ ap Some (let e : 0 + length one.tables ≡ length one.tables = omega arith in e)

    expiry_there : slice_get two.tables (length one.tables) ≡ Some (lot_expiry_at x)
    expiry_there = got_after one.tables [] (lot_expiry_at x)

    pub rules_tree_is : rules_tree two ≡ r
    rules_tree_is = rw (rules_found) (rw (rules_there) refl)

    pub expiry_tree_is : expiry_tree two ≡ x
    expiry_tree_is = rw (expiry_found) (rw (expiry_there) refl)

    rules_stand : StandsAt two (length s.tables) (entry_rules_at r)
    rules_stand = record {
      found = rules_found;
      there = rules_there;
      low = low_tree two after sound_after (entry_rules_at r) (has_first one.tables (lot_expiry_at x ∷ []) (entry_rules_at r) rules_in_one);
      first = ap (find (λ (u : Table). u.tree == r)) tables_are ∙ found_after (λ (u : Table). u.tree == r) s.tables (lot_expiry_at x ∷ []) (entry_rules_at r) (λ t h. differs t.tree r (table_below s t h)) (eq-eqb r r refl);
    }

    expiry_stands : StandsAt two (length one.tables) (lot_expiry_at x)
    expiry_stands = record {
      found = expiry_found;
      there = expiry_there;
      low = low_tree two after sound_after (lot_expiry_at x) (has_last one.tables (lot_expiry_at x ∷ []) (lot_expiry_at x) (inl refl));
      first = found_after (λ (u : Table). u.tree == x) one.tables [] (lot_expiry_at x) (λ t h. differs t.tree x (table_below one t h)) (eq-eqb x x refl);
    }

    -- the indexes
    rules_bare : indexes_on two r ≡ []
    rules_bare = ap (filter (λ (i : Index). i.table == r)) indexes_are ∙ filter-append (λ (i : Index). i.table == r) s.indexes (X ∷ [])
        ∙ ap (λ is. is ++ filter (λ (i : Index). i.table == r) (X ∷ [])) (none_pass (λ (i : Index). i.table == r) s.indexes (λ i h. differs i.table r (old_table i h)))
        ∙ none_pass (λ (i : Index). i.table == r) (X ∷ []) (λ i h. only i h)
      where
        only : (i : Index) → Has (X ∷ []) i → (i.table == r) ≡ false
        only i (inl e) = subst (λ (j : Index). (j.table == r) ≡ false) (sym e) (flipped r x (differs r x r_below))
        only i (inr none) = absurd none

    expiry_keyed : indexes_on two x ≡ X ∷ []
    expiry_keyed = ap (filter (λ (i : Index). i.table == x)) indexes_are ∙ filter-append (λ (i : Index). i.table == x) s.indexes (X ∷ [])
        ∙ ap (λ is. is ++ filter (λ (i : Index). i.table == x) (X ∷ [])) (none_pass (λ (i : Index). i.table == x) s.indexes (λ i h. differs i.table x (omega (arith, old_table i h, r_below)))) ∙ kept
      where
        kept : filter (λ (i : Index). i.table == x) (X ∷ []) ≡ X ∷ []
        kept = rw (eq-eqb x x refl) refl

    first_keyed : (t : Table) → Has first_tables t → indexes_on two t.tree ≡ indexes_of t
    first_keyed t h =
        let apart = lies.apart in
        ap (filter (λ (i : Index). i.table == t.tree)) indexes_are ∙ filter-append (λ (i : Index). i.table == t.tree) s.indexes (X ∷ [])
        ∙ ap (λ is. filter (λ (i : Index). i.table == t.tree) s.indexes ++ is) (none_pass (λ (i : Index). i.table == t.tree) (X ∷ []) only)
        ∙ append-nil (filter (λ (i : Index). i.table == t.tree) s.indexes) ∙ all_has (λ (u : Table). indexes_on s u.tree ≡ indexes_of u) first_tables t apart.indexes h
      where
        only : (i : Index) → Has (X ∷ []) i → (i.table == t.tree) ≡ false
        only i (inl e) = subst (λ (j : Index). (j.table == t.tree) ≡ false) (sym e) (flipped t.tree x (differs t.tree x (table_below one t (into_one t (first_there t h)))))
        only i (inr none) = absurd none

    -- the foreign keys
    abbrev both : List Table
    both = first_tables ++ entry_rules_at r ∷ lot_expiry_at x ∷ []

    unnamed_parent : (child : Table) → Has s.tables child → (ref : Reference) → Has child.references ref → parent_key two.tables ref ≡ parent_key s.tables ref
    unnamed_parent child h ref k =
        let none = each_of (λ (ref : Reference). same_name (codes "entry_rules") ref.parent || same_name (codes "lot_expiry") ref.parent) child.references (each_of names_new s.tables lies.unnamed child h) ref k in
        let each = either_false (same_name (codes "entry_rules") ref.parent) (same_name (codes "lot_expiry") ref.parent) none in
        ap (option_and_then (λ (t : Table). option_and_then (key_in t) (key_places t ref.parent_columns))) (ap (find (λ (t : Table). same_name t.name ref.parent)) tables_are
        ∙ found_before (λ (t : Table). same_name t.name ref.parent) s.tables (entry_rules_at r ∷ lot_expiry_at x ∷ []) (λ t there. new each t there))
      where
        new : (same_name (codes "entry_rules") ref.parent ≡ false) × (same_name (codes "lot_expiry") ref.parent ≡ false) → (t : Table) → Has (entry_rules_at r ∷ lot_expiry_at x ∷ []) t → same_name t.name ref.parent ≡ false
        new each t (inl e) = subst (λ (u : Table). same_name u.name ref.parent ≡ false) (sym e) each.0
        new each t (inr (inl e)) = subst (λ (u : Table). same_name u.name ref.parent ≡ false) (sym e) each.1
        new each t (inr (inr none)) = absurd none

    -- the tree of a table that was there is none of the new ones
    still_other : (n : ℕ) → n < r → is_of first_tables n ≡ false → is_of both n ≡ false
    still_other n low h = none_of (λ (t : Table). t.tree == n) both (λ t there. elim (has_either first_tables (entry_rules_at r ∷ lot_expiry_at x ∷ []) t there) [
      | inl one ↦ each_of (λ (t : Table). t.tree == n) first_tables h t one
      | inr new ↦ is_new t new
    ])
      where
        is_new : (t : Table) → Has (entry_rules_at r ∷ lot_expiry_at x ∷ []) t → (t.tree == n) ≡ false
        is_new t (inl e) = subst (λ (u : Table). (u.tree == n) ≡ false) (sym e) (flipped n r (differs n r low))
        is_new t (inr (inl e)) = subst (λ (u : Table). (u.tree == n) ≡ false) (sym e) (flipped n x (differs n x (omega (arith, low, r_below))))
        is_new t (inr (inr none)) = absurd none

    low_key : (ref : Reference) (key : ParentKey) → parent_key s.tables ref ≡ Some key → key.0 < r
    low_key ref key h = by (find (λ (t : Table). same_name t.name ref.parent) s.tables) refl h
      where
        some_key : (t : Table) (places : Option (List ℕ)) → option_and_then (key_in t) places ≡ Some key → key.0 ≡ t.tree
        some_key t None e = absurd (cc)
        some_key t (Some p) e = tree_is t p e
          where
            tree_is : (t : Table) (p : List ℕ) → key_in t p ≡ Some key → key.0 ≡ t.tree
            tree_is t p e = keyed t.tree p (declared t p) e
              where
                declared : Table → List ℕ → Option Order
                declared = declared_order

                keyed : (tree : ℕ) (p : List ℕ) (o : Option Order) → option_map (λ (o : Order). (tree, p, o)) o ≡ Some key → key.0 ≡ tree
                keyed tree p None e = absurd (cc)
                keyed tree p (Some o) e = let f : ◌≡◌ {A = Option ParentKey} (Some (tree, p, o)) (Some key) = e in (let g : (tree, p, o) ≡ key = cc in ap (λ (k : ParentKey). k.0) (sym g))

        by : (o : Option Table) → find (λ (t : Table). same_name t.name ref.parent) s.tables ≡ o → option_and_then (λ (t : Table). option_and_then (key_in t) (key_places t ref.parent_columns)) o ≡ Some key → key.0 < r
        by None e k = absurd (cc)
        by (Some t) e k = subst (λ n. n < r) (sym (some_key t (key_places t ref.parent_columns) k)) (table_below s t (found_has (λ (t : Table). same_name t.name ref.parent) s.tables t e))

    old_child : (child : Table) → Has s.tables child → refers_to both two.tables child ≡ false
    old_child child h =
        let apart = lies.apart in
        none_of (λ (ref : Reference). is_key_of both (parent_key two.tables ref)) child.references (λ ref k.
        let was = each_of (λ (ref : Reference). is_key_of first_tables (parent_key s.tables ref)) child.references (each_of (refers_to first_tables s.tables) s.tables apart.references child h) ref k in
        subst (λ (o : Option ParentKey). is_key_of both o ≡ false) (sym (unnamed_parent child h ref k))
        (key_other first_tables both (parent_key s.tables ref) was (λ key is none. still_other key.0 (low_key ref key is) none)))

    unreferred : list_any (refers_to both two.tables) two.tables ≡ false
    unreferred = subst (λ (ts : List Table). list_any (refers_to both two.tables) ts ≡ false) (sym tables_are)
        (none_of (refers_to both two.tables) (s.tables ++ entry_rules_at r ∷ lot_expiry_at x ∷ []) (λ t h. elim (has_either s.tables (entry_rules_at r ∷ lot_expiry_at x ∷ []) t h) [
          | inl old ↦ old_child t old
          | inr new ↦ without t new
        ]))
      where
        without : (t : Table) → Has (entry_rules_at r ∷ lot_expiry_at x ∷ []) t → refers_to both two.tables t ≡ false
        without t (inl e) = subst (λ (u : Table). refers_to both two.tables u ≡ false) (sym e) refl
        without t (inr (inl e)) = subst (λ (u : Table). refers_to both two.tables u ≡ false) (sym e) refl
        without t (inr (inr none)) = absurd none

    ours_are : ours two ≡ both
    ours_are = λ i. first_tables ++ entry_rules_at (rules_tree_is i) ∷ lot_expiry_at (expiry_tree_is i) ∷ []

    own_tree : is_of first_tables r ≡ false
    own_tree = none_of (λ (t : Table). t.tree == r) first_tables (λ t h. differs t.tree r (table_below s t (first_there t h)))

    own_tree_too : is_of (entry_rules_at r ∷ first_tables) x ≡ false
    own_tree_too = rw (differs r x r_below) (none_of (λ (t : Table). t.tree == x) first_tables (λ t h. differs t.tree x (table_below one t (into_one t (first_there t h)))))

    indexed : (t : Table) → Has both t → indexes_on two t.tree ≡ indexes_of t
    indexed t h = elim (has_either first_tables (entry_rules_at r ∷ lot_expiry_at x ∷ []) t h) [ inl first ↦ first_keyed t first | inr new ↦ by t new ]
      where
        by : (t : Table) → Has (entry_rules_at r ∷ lot_expiry_at x ∷ []) t → indexes_on two t.tree ≡ indexes_of t
        by t (inl e) = subst (λ (u : Table). indexes_on two u.tree ≡ indexes_of u) (sym e) rules_bare
        by t (inr (inl e)) = subst (λ (u : Table). indexes_on two u.tree ≡ indexes_of u) (sym e) expiry_keyed
        by t (inr (inr none)) = absurd none

    pub widened_layout : IsLayout two
    widened_layout =
        let o = lies.others in
        let first = beside o in record {
          others = record {
            tables = (o.tables ++ entry_rules_at (next_tree first) ∷ []) ++ lot_expiry_at (next_tree (created first (entry_rules_at 0))) ∷ [];
            indexes = (o.indexes ++ []) ++ key_index (lot_expiry_at (next_tree (created first (entry_rules_at 0)))) ∷ [];
            views = o.views;
          };
          is = ap (λ (z : Schema). created (created z (entry_rules_at 0)) (lot_expiry_at 0)) lies.is;
          rules_place = length s.tables;
          rules = subst (λ n. StandsAt two (length s.tables) (entry_rules_at n)) (sym rules_tree_is) rules_stand;
          expiry_place = length one.tables;
          expiry = subst (λ n. StandsAt two (length one.tables) (lot_expiry_at n)) (sym expiry_tree_is) expiry_stands;
          own_rules = subst (λ n. is_of first_tables n ≡ false) (sym rules_tree_is) own_tree;
          own_expiry = subst (λ n. is_of (entry_rules_at n ∷ first_tables) (expiry_tree two) ≡ false) (sym rules_tree_is) (subst (λ n. is_of (entry_rules_at r ∷ first_tables) n ≡ false) (sym expiry_tree_is) own_tree_too);
          apart = record {
            indexes = subst (λ (ts : List Table). AllByRecursion (λ (t : Table). indexes_on two t.tree ≡ indexes_of t) ts) (sym ours_are) (all_from (λ (t : Table). indexes_on two t.tree ≡ indexes_of t) both indexed);
            references = subst (λ (ts : List Table). list_any (refers_to ts two.tables) two.tables ≡ false) (sym ours_are) unreferred;
          };
        }

-- ---- a schema whose counted tables have what they need still has it with a table more

pub still_counted : (s : Schema) (t : Table) → t.is_counted ≡ false → lacks_sequence s ≡ false → lacks_sequence (created s t) ≡ false
still_counted s t plain h = by (list_any (λ (u : Table). u.is_counted) s.tables) refl (is_some (sequence s)) refl h
  where
    new : Table
    new = record t { tree = next_tree s }

    any_last : (ts : List Table) → list_any (λ (u : Table). u.is_counted) (ts ++ new ∷ []) ≡ list_any (λ (u : Table). u.is_counted) ts
    any_last [] = rw plain refl
    any_last (u ∷ ts) = ap (λ b. u.is_counted || b) (any_last ts)

    -- what is found among some is found among more
    still : (ts : List Table) (n : ℕ) (k : ℕ) → position_from (λ (u : Table). same_name u.name (codes "sqlite_sequence")) n ts ≡ Some k → position_from (λ (u : Table). same_name u.name (codes "sqlite_sequence")) n (ts ++ new ∷ []) ≡ Some k
    still [] n k e = absurd (cc)
    still (u ∷ ts) n k e = elim (cases_Bool (same_name u.name (codes "sqlite_sequence"))) [
      | inl here ↦ placed_here (λ (u : Table). same_name u.name (codes "sqlite_sequence")) n u (ts ++ new ∷ []) here ∙ sym (placed_here (λ (u : Table). same_name u.name (codes "sqlite_sequence")) n u ts here) ∙ e
      | inr later ↦ placed_step (λ (u : Table). same_name u.name (codes "sqlite_sequence")) n u (ts ++ new ∷ []) later
          ∙ still ts (n + 1) k (sym (placed_step (λ (u : Table). same_name u.name (codes "sqlite_sequence")) n u ts later) ∙ e)
    ]

    got_still : (ts : List Table) (k : ℕ) (u : Table) → slice_get ts k ≡ Some u → slice_get (ts ++ new ∷ []) k ≡ Some u
    got_still [] k u e = absurd (cc)
    got_still (v ∷ ts) zero u e = e
    got_still (v ∷ ts) (suc k) u e = got_still ts k u e

    by_place : (o : Option ℕ) → table_named s (codes "sqlite_sequence") ≡ o → is_some (option_and_then (slice_get s.tables) o) ≡ true → is_some (sequence (created s t)) ≡ true
    by_place None e some = absurd (let f : ◌≡◌ {A = Bool} false true = some in cc)
    by_place (Some k) e some = by_table (slice_get s.tables k) refl some
      where
        by_table : (p : Option Table) → slice_get s.tables k ≡ p → is_some p ≡ true → is_some (sequence (created s t)) ≡ true
        by_table None f it = absurd (let g : ◌≡◌ {A = Bool} false true = it in cc)
        by_table (Some u) f it = rw (still s.tables 0 k e) (rw (got_still s.tables k u f) refl)

    by : (a : Bool) → list_any (λ (u : Table). u.is_counted) s.tables ≡ a → (b : Bool) → is_some (sequence s) ≡ b → (list_any (λ (u : Table). u.is_counted) s.tables && not (is_some (sequence s))) ≡ false → lacks_sequence (created s t) ≡ false
    by false p b q h = rw (any_last s.tables ∙ p) refl
    by true p true q h = rw (by_place (table_named s (codes "sqlite_sequence")) refl q) (never (list_any (λ (u : Table). u.is_counted) (s.tables ++ new ∷ [])))
      where
        never : (c : Bool) → (c && false) ≡ false
        never true = refl
        never false = refl
    by true p false q h = absurd (let f : (list_any (λ (u : Table). u.is_counted) s.tables && not (is_some (sequence s))) ≡ true = rw (p, q) refl in let g : ◌≡◌ {A = Bool} true false = sym f ∙ h in cc)
