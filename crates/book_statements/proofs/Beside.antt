-- The book's tables among others: no foreign key acts on them, and no other index guards them.
use Rattle.std.proofs.Common.{◌≡◌, ◌≢◌, ◌⊎◌, codes, Ok, ℕ, zero, suc, List, [], ◌∷◌, ◌++◌, drop, filter, flat_map, ◌&&◌, ◌||◌, ◌==◌, cond, Bool, true, false, Some, None, Option, refl, sym, ap, subst, ◌∙◌, inl, inr, arith, eq-eqb, eqb-true}
use Rattle.std.specs.Prelude.{slice_get}
use Rattle.std.specs.List.{AllByRecursion, list_any, filter_map}
use Rattle.std.proofs.lemmas.Bool.{cases_Bool}
use Rattle.sqlite.specs.Order.{Row}
use Rattle.sqlite.specs.Table.{Table}
use Rattle.sqlite.specs.Schema.{Schema}
use Rattle.sqlite_schema.specs.declared.schema.Index.{Index}
use Rattle.sqlite_schema.specs.declared.schema.Keys.{Keys}
use Rattle.sqlite_schema.specs.declared.schema.Reference.{Reference}
use Rattle.sqlite_value.specs.Keys.{plain}
use Rattle.sqlite_schema.specs.Rules.{ParentKey, parent_key, agree}
use Rattle.sqlite_tied.specs.Compute.{everything}
use Rattle.sqlite_rules.specs.declared.action.Deed.{Deed}
use Rattle.sqlite_rules.specs.Action.{works, work_by, work_for, pairs, Writes}
use Rattle.sqlite_rules.specs.Edit.{Edit, taken_by, Applies}
use Rattle.sqlite_rules.specs.Keys.{conflicts, shares, aims}
use Rattle.sqlite_rules.specs.Lists.{Has}
use Rattle.sqlite_rules.proofs.ListLemmas.{some_from, all_has, all_from}
use Rattle.sqlite_rules.proofs.ProbeLemmas.{mapped_has}
use Rattle.sqlite.specs.Tree.{Trees}
use Rattle.sqlite.specs.Effect.{Database}
use Rattle.sqlite.proofs.Callers.{one_step}
use Rattle.sqlite_schema.specs.declared.schema.Action.TheVariants.{Cascade, NoAction}
use Rattle.book_statements.specs.Layout.{layout, number, text, keyed, key_index, Others, beside, book_tables, first_tables, indexes_on, indexes_of, is_of, is_key_of, refers_to, ours, placed, tree_in, rules_tree, expiry_tree, entry_rules_at, lot_expiry_at, entry_rules_layout, lot_expiry_layout, AreApart, IsLayout}
use Rattle.book_statements.specs.Steps.{WritesAt, WritesInto}

pub has_first : {A : Type 0} (xs ys : List A) (x : A) → Has xs x → Has (xs ++ ys) x
has_first [] ys x h = absurd h
has_first (y ∷ xs) ys x (inl e) = inl e
has_first (y ∷ xs) ys x (inr h) = inr (has_first xs ys x h)

pub has_either : {A : Type 0} (xs ys : List A) (x : A) → Has (xs ++ ys) x → Has xs x ⊎ Has ys x
has_either [] ys x h = inr h
has_either (y ∷ xs) ys x (inl e) = inl (inl e)
has_either (y ∷ xs) ys x (inr h) = elim (has_either xs ys x h) [ inl one ↦ inl (inr one) | inr other ↦ inr other ]

got_has : (ts : List Table) (at : ℕ) (t : Table) → slice_get ts at ≡ Some t → Has ts t
got_has [] at t h = absurd (cc)
got_has (x ∷ ts) zero t h = inl (let e : Some x ≡ Some t = h in cc)
got_has (x ∷ ts) (suc at) t h = inr (got_has ts at t h)

-- the book's tables alone
alone : IsLayout layout
unfolding everything
alone = record {
  others = record { tables = entry_rules_layout ∷ lot_expiry_layout ∷ []; indexes = key_index lot_expiry_layout ∷ []; views = [] };
  is = refl;
  rules_place = 9;
  rules = record { found = refl; there = refl; low = omega arith; first = refl };
  expiry_place = 10;
  expiry = record { found = refl; there = refl; low = omega arith; first = refl };
  own_rules = refl;
  own_expiry = refl;
  apart = record { indexes = (refl, (refl, (refl, (refl, (refl, (refl, (refl, (refl, (refl, (refl, (refl, tt))))))))))); references = refl };
}

pub lies_alone : (schema : Schema) → schema ≡ layout → IsLayout schema
lies_alone schema is = subst IsLayout (sym is) alone

-- by itself each of its tables is in the tree of its number
pub empty_alone : (schema : Schema) (db : Trees) → schema ≡ layout → AllByRecursion (λ (t : Table). db t.tree ≡ []) (drop 1 book_tables) → AllByRecursion (λ (t : Table). placed schema db t.tree ≡ []) (drop 1 book_tables)
unfolding everything
empty_alone schema db is empty = subst (λ (s : Schema). AllByRecursion (λ (t : Table). placed s db t.tree ≡ []) (drop 1 book_tables)) (sym is) empty

-- A table of the house's own, with its index, is one that may stand there: after the two tables of
-- version 2, and before them.
abbrev note_at : ℕ → Table
note_at tree = keyed (codes "note") tree (1 ∷ 2 ∷ []) [] (text (codes "who") ∷ number (codes "line") ∷ text (codes "said") ∷ [])

notes_may_stand : IsLayout (beside (record { tables = entry_rules_layout ∷ lot_expiry_layout ∷ note_at 21 ∷ []; indexes = key_index lot_expiry_layout ∷ key_index (note_at 21) ∷ []; views = [] }))
unfolding everything
notes_may_stand = record {
  others = record { tables = entry_rules_layout ∷ lot_expiry_layout ∷ note_at 21 ∷ []; indexes = key_index lot_expiry_layout ∷ key_index (note_at 21) ∷ []; views = [] };
  is = refl;
  rules_place = 9;
  rules = record { found = refl; there = refl; low = omega arith; first = refl };
  expiry_place = 10;
  expiry = record { found = refl; there = refl; low = omega arith; first = refl };
  own_rules = refl;
  own_expiry = refl;
  apart = record { indexes = (refl, (refl, (refl, (refl, (refl, (refl, (refl, (refl, (refl, (refl, (refl, tt))))))))))); references = refl };
}

notes_may_stand_before : IsLayout (beside (record { tables = note_at 18 ∷ entry_rules_at 20 ∷ lot_expiry_at 21 ∷ []; indexes = key_index (note_at 18) ∷ key_index (lot_expiry_at 21) ∷ []; views = [] }))
unfolding everything
notes_may_stand_before = record {
  others = record { tables = note_at 18 ∷ entry_rules_at 20 ∷ lot_expiry_at 21 ∷ []; indexes = key_index (note_at 18) ∷ key_index (lot_expiry_at 21) ∷ []; views = [] };
  is = refl;
  rules_place = 10;
  rules = record { found = refl; there = refl; low = omega arith; first = refl };
  expiry_place = 11;
  expiry = record { found = refl; there = refl; low = omega arith; first = refl };
  own_rules = refl;
  own_expiry = refl;
  apart = record { indexes = (refl, (refl, (refl, (refl, (refl, (refl, (refl, (refl, (refl, (refl, (refl, tt))))))))))); references = refl };
}

-- One with a foreign key to `stock` isn't: what the book writes would act on its rows, or be
-- refused for them.
abbrev to_stock : Reference
to_stock = record {
  columns = 1 ∷ 2 ∷ 3 ∷ [];
  parent = codes "stock";
  parent_columns = codes "who" ∷ codes "item" ∷ codes "lot" ∷ [];
  on_delete = Cascade;
  on_update = NoAction;
  is_deferred = false;
}

stock_is_referred_to : refers_to book_tables (book_tables ++ record (note_at 21) { references = to_stock ∷ [] } ∷ []) (record (note_at 21) { references = to_stock ∷ [] }) ≡ true
unfolding everything
stock_is_referred_to = refl

-- a schema that stays as it was
pub still_lies : (before after : Schema) → after ≡ before → IsLayout before → IsLayout after
still_lies before after same lies = subst IsLayout (sym same) lies

neither : (a b : Bool) → (a || b) ≡ false → (a ≡ false) × (b ≡ false)
neither true b h = absurd (let e : ◌≡◌ {A = Bool} true false = h in cc)
neither false b h = (refl, h)

clash : (b : Bool) → b ≡ true → b ≡ false → ⊥
clash b h k = let e : ◌≡◌ {A = Bool} true false = sym h ∙ k in cc

pub tree_of_one : (ts : List Table) (t : Table) → Has ts t → is_of ts t.tree ≡ true
tree_of_one ts t listed = some_from (λ (u : Table). u.tree == t.tree) ts t listed (eq-eqb t.tree t.tree refl)

-- a tree that is none of these tables' is another than this
other_tree : (ts : List Table) (tree other : ℕ) → is_of ts tree ≡ true → is_of ts other ≡ false → (other == tree) ≡ false
other_tree ts tree other its apart = elim (cases_Bool (other == tree)) [
  | inl same ↦ absurd (clash (is_of ts tree) its (subst (λ n. is_of ts n ≡ false) (eqb-true other tree same) apart))
  | inr differs ↦ differs
]

apart_trees : (ts : List Table) (tree other : ℕ) → is_of ts tree ≡ true → is_of ts other ≡ false → tree ≢ other
apart_trees ts tree other its apart same = clash (is_of ts other) (subst (λ n. is_of ts n ≡ true) same its) apart

-- ---- where they stand

-- the book's tables are tables of the schema
pub ours_listed : (schema : Schema) (lies : IsLayout schema) (t : Table) → Has (ours schema) t → Has schema.tables t
ours_listed schema lies t h = elim (has_either first_tables (entry_rules_at (rules_tree schema) ∷ lot_expiry_at (expiry_tree schema) ∷ []) t h) [
  | inl first ↦
      let others = lies.others in
      subst (λ (s : Schema). Has s.tables t) (sym lies.is) (has_first first_tables others.tables t first)
  | inr two ↦ later two
]
  where
    later : Has (entry_rules_at (rules_tree schema) ∷ lot_expiry_at (expiry_tree schema) ∷ []) t → Has schema.tables t
    later (inl e) = let at = lies.rules in subst (Has schema.tables) (sym e) (got_has schema.tables lies.rules_place (entry_rules_at (rules_tree schema)) at.there)
    later (inr (inl e)) = let at = lies.expiry in subst (Has schema.tables) (sym e) (got_has schema.tables lies.expiry_place (lot_expiry_at (expiry_tree schema)) at.there)
    later (inr (inr none)) = absurd none

-- a table of the book by itself, as it stands in the schema
pub as_ours : (schema : Schema) (t : Table) → Has book_tables t → Has (ours schema) (record t { tree = tree_in schema t.tree })
as_ours schema t listed = mapped_has (λ (u : Table). record u { tree = tree_in schema u.tree }) book_tables t listed

abbrev Number : ℕ → Type 0
Number n = is_of book_tables n ≡ true

-- a number is that of a table of version 1, of `entry_rules` or of `lot_expiry`
abbrev Kind : ℕ → Type 0
Kind n = (is_of first_tables n ≡ true) ⊎ ((n ≡ 18) ⊎ (n ≡ 19))

kind_of : (n : ℕ) → Number n → Kind n
kind_of n h = by (is_of first_tables n) refl (18 == n) refl (19 == n) refl
  where
    later : (a b c d e f g h i j k : Bool) → (a || (b || (c || (d || (e || (f || (g || (h || (i || false))))))))) ≡ false → j ≡ false → k ≡ false
        → (a || (b || (c || (d || (e || (f || (g || (h || (i || (j || (k || false))))))))))) ≡ false
    later true b c d e f g h i j k p q r = absurd (let x : ◌≡◌ {A = Bool} true false = p in cc)
    later false true c d e f g h i j k p q r = absurd (let x : ◌≡◌ {A = Bool} true false = p in cc)
    later false false true d e f g h i j k p q r = absurd (let x : ◌≡◌ {A = Bool} true false = p in cc)
    later false false false true e f g h i j k p q r = absurd (let x : ◌≡◌ {A = Bool} true false = p in cc)
    later false false false false true f g h i j k p q r = absurd (let x : ◌≡◌ {A = Bool} true false = p in cc)
    later false false false false false true g h i j k p q r = absurd (let x : ◌≡◌ {A = Bool} true false = p in cc)
    later false false false false false false true h i j k p q r = absurd (let x : ◌≡◌ {A = Bool} true false = p in cc)
    later false false false false false false false true i j k p q r = absurd (let x : ◌≡◌ {A = Bool} true false = p in cc)
    later false false false false false false false false true j k p q r = absurd (let x : ◌≡◌ {A = Bool} true false = p in cc)
    later false false false false false false false false false true k p q r = absurd (let x : ◌≡◌ {A = Bool} true false = q in cc)
    later false false false false false false false false false false true p q r = absurd (let x : ◌≡◌ {A = Bool} true false = r in cc)
    later false false false false false false false false false false false p q r = refl

    none : is_of first_tables n ≡ false → (18 == n) ≡ false → (19 == n) ≡ false → is_of book_tables n ≡ false
    none p q r = later (0 == n) (1 == n) (4 == n) (6 == n) (8 == n) (10 == n) (12 == n) (14 == n) (16 == n) (18 == n) (19 == n) p q r

    by : (a : Bool) → is_of first_tables n ≡ a → (b : Bool) → (18 == n) ≡ b → (c : Bool) → (19 == n) ≡ c → Kind n
    by true p b q c r = inl p
    by false p true q c r = inr (inl (sym (eqb-true 18 n q)))
    by false p false q true r = inr (inr (sym (eqb-true 19 n r)))
    by false p false q false r = absurd (clash (is_of book_tables n) h (none p q r))

-- one of version 1 stands in its own tree
first_place : (schema : Schema) (n : ℕ) → is_of first_tables n ≡ true → tree_in schema n ≡ n
first_place schema n h = by (n == 18) refl (n == 19) refl
  where
    by : (a : Bool) → (n == 18) ≡ a → (b : Bool) → (n == 19) ≡ b → tree_in schema n ≡ n
    by true p b q = absurd (clash (is_of first_tables n) h (subst (λ m. is_of first_tables m ≡ false) (sym (eqb-true n 18 p)) refl))
    by false p true q = absurd (clash (is_of first_tables n) h (subst (λ m. is_of first_tables m ≡ false) (sym (eqb-true n 19 q)) refl))
    by false p false q = rw (p, q) refl

-- two of them stand in two trees
pub two_places : (schema : Schema) → IsLayout schema → (m n : ℕ) → Number m → Number n → m ≢ n → tree_in schema m ≢ tree_in schema n
two_places schema lies m n p q other = by m n (kind_of m p) (kind_of n q) other
  where
    r : ℕ
    r = rules_tree schema

    x : ℕ
    x = expiry_tree schema

    both : ((r == x) ≡ false) × (is_of first_tables x ≡ false)
    both = neither (r == x) (is_of first_tables x) lies.own_expiry

    not_same : (r == x) ≡ false → r ≢ x
    not_same h e = clash (r == x) (eq-eqb r x e) h

    by : (m n : ℕ) → Kind m → Kind n → m ≢ n → tree_in schema m ≢ tree_in schema n
    by m n (inl a) (inl b) other same = other (sym (first_place schema m a) ∙ same ∙ first_place schema n b)
    by m n (inl a) (inr (inl b)) other same = apart_trees first_tables m r a lies.own_rules (sym (first_place schema m a) ∙ same ∙ ap (tree_in schema) b)
    by m n (inl a) (inr (inr b)) other same = apart_trees first_tables m x a both.1 (sym (first_place schema m a) ∙ same ∙ ap (tree_in schema) b)
    by m n (inr (inl a)) (inl b) other same = apart_trees first_tables n r b lies.own_rules (sym (first_place schema n b) ∙ sym same ∙ ap (tree_in schema) a)
    by m n (inr (inr a)) (inl b) other same = apart_trees first_tables n x b both.1 (sym (first_place schema n b) ∙ sym same ∙ ap (tree_in schema) a)
    by m n (inr (inl a)) (inr (inl b)) other same = other (a ∙ sym b)
    by m n (inr (inr a)) (inr (inr b)) other same = other (a ∙ sym b)
    by m n (inr (inl a)) (inr (inr b)) other same = not_same both.0 (sym (ap (tree_in schema) a) ∙ same ∙ ap (tree_in schema) b)
    by m n (inr (inr a)) (inr (inl b)) other same = not_same both.0 (sym (ap (tree_in schema) b) ∙ sym same ∙ ap (tree_in schema) a)

-- what holds of the nine tables, whatever stands after them, holds of the schema
pub under : (P : Schema → Type 0) (schema : Schema) → IsLayout schema → ((others : Others) → P (beside others)) → P schema
under P schema lies all = subst P (sym lies.is) (all lies.others)

pub as_beside : (schema : Schema) (lies : IsLayout schema) → IsLayout (let others = lies.others in beside others)
as_beside schema lies = subst IsLayout lies.is lies

-- what is written into the tree of a table is written into the book's
pub into_book : (n : ℕ) → Number n → (Rows : List Row → List Row → Type 0) (old new : Database) → IsLayout old.schema → WritesAt (tree_in old.schema n) Rows old new → WritesInto n Rows old new
into_book n p Rows old new lies did = record {
  sound = did.sound;
  schema = did.schema;
  others = all_from (λ (t : Table). t.tree ≢ n → placed new.schema new.trees t.tree ≡ placed old.schema old.trees t.tree) book_tables spared;
  rows = subst (λ (s : Schema). Rows (placed old.schema old.trees n) (placed s new.trees n)) (sym did.schema) did.rows;
}
  where
    spared : (t : Table) → Has book_tables t → t.tree ≢ n → placed new.schema new.trees t.tree ≡ placed old.schema old.trees t.tree
    spared t listed other =
        let mine = ours_listed old.schema lies (record t { tree = tree_in old.schema t.tree }) (as_ours old.schema t listed) in
        let same : new.trees (tree_in old.schema t.tree) ≡ old.trees (tree_in old.schema t.tree) =
        all_has (λ (u : Table). u.tree ≢ tree_in old.schema n → new.trees u.tree ≡ old.trees u.tree) old.schema.tables (record t { tree = tree_in old.schema t.tree }) did.others mine
        (two_places old.schema lies t.tree n (tree_of_one book_tables t listed) p other) in
        subst (λ (s : Schema). placed s new.trees t.tree ≡ placed old.schema old.trees t.tree) (sym did.schema) same

-- ---- foreign keys

no_work_by : (ts : List Table) (depth tree : ℕ) (moves : List (Row × Row)) (child : Table) (ref : Reference) (deed : Option Deed) (key : Option ParentKey)
    → is_of ts tree ≡ true → is_key_of ts key ≡ false → work_by depth tree moves child ref deed key ≡ None
no_work_by ts depth tree moves child ref None key its apart = refl
no_work_by ts depth tree moves child ref (Some deed) None its apart = refl
no_work_by ts depth tree moves child ref (Some deed) (Some key) its apart = rw (other_tree ts tree key.0 its apart) refl

module _ (schema : Schema) (ts : List Table) (keys : Keys) (depth tree : ℕ) (olds news : List Row) (its : is_of ts tree ≡ true) where
  none_for : (child : Table) (refs : List Reference) → list_any (λ ref. is_key_of ts (parent_key schema.tables ref)) refs ≡ false
      → filter_map (work_for schema keys depth tree olds news child) refs ≡ []
  none_for child [] apart = refl
  none_for child (ref ∷ refs) apart =
      let both = neither (is_key_of ts (parent_key schema.tables ref)) _ apart in
      let none : work_for schema keys depth tree olds news child ref ≡ None = no_work_by ts depth tree (pairs olds news) child ref _ (parent_key schema.tables ref) its both.0 in
      rw none (none_for child refs both.1)

  none_of_all : (children : List Table) → list_any (refers_to ts schema.tables) children ≡ false
      → flat_map (λ child. filter_map (work_for schema keys depth tree olds news child) child.references) children ≡ []
  none_of_all [] apart = refl
  none_of_all (t ∷ children) apart =
      let both = neither (refers_to ts schema.tables t) _ apart in
      rw (none_for t t.references both.0) (none_of_all children both.1)

-- writing a table of the book sets off no foreign key
no_works : (schema : Schema) (ts : List Table) (keys : Keys) (depth : ℕ) (t : Table) (olds news : List Row) → AreApart ts schema → Has ts t → works schema keys depth t.tree olds news ≡ []
no_works schema ts keys depth t olds news apart listed = none_of_all schema ts keys depth t.tree olds news (tree_of_one ts t listed) schema.tables apart.references

-- so a write of one is its one step
pub one_write : (schema : Schema) → IsLayout schema → (keys : Keys) (db next : Trees) (edit : Edit) → Has (ours schema) edit.table → Writes schema keys db edit (Ok next)
    → Applies schema keys db edit next
one_write schema lies keys db next edit listed = one_step schema keys db next edit (no_works schema (ours schema) keys 0 edit.table (taken_by db edit) edit.news lies.apart listed)

-- ---- indexes

-- only the indexes on a table tell what is in the way of its rows
on_table : (target : Option (List ℕ)) (t : Table) (new row : Row) (is : List Index) → list_any (shares target t new row) is ≡ list_any (shares target t new row) (filter (λ (i : Index). i.table == t.tree) is)
on_table target t new row [] = refl
on_table target t new row (i ∷ is) =
    let on : List Index = filter (λ (i : Index). i.table == t.tree) is in
    let later = ap (λ b. shares target t new row i || b) (on_table target t new row is) in
    elim (cases_Bool (i.table == t.tree)) [
      | inl here ↦ later ∙ ap (λ b. list_any (shares target t new row) (cond b (i ∷ on) on)) (sym here)
      | inr other ↦ later ∙ ap (λ b. b || list_any (shares target t new row) on) (unshared other) ∙ ap (λ b. list_any (shares target t new row) (cond b (i ∷ on) on)) (sym other)
    ]
  where
    unique : (b c d : Bool) → (((b && false) && c) && d) ≡ false
    unique true c d = refl
    unique false c d = refl

    unshared : (i.table == t.tree) ≡ false → shares target t new row i ≡ false
    unshared other = rw other (unique i.is_unique (aims target i.columns) (agree i.order i.columns row i.columns new))

-- and those are the indexes of its keys
pub same_conflicts : (schema : Schema) (lies : IsLayout schema) (target : Option (List ℕ)) (t : Table) (new row : Row) → Has (ours schema) t
    → conflicts target schema.indexes t new row ≡ conflicts target (indexes_of t) t new row
same_conflicts schema lies target t new row listed =
    let apart = lies.apart in
    let own : indexes_on schema t.tree ≡ indexes_of t = all_has (λ (u : Table). indexes_on schema u.tree ≡ indexes_of u) (ours schema) t apart.indexes listed in
    ap (λ b. (aims target (0 ∷ []) && agree plain (0 ∷ []) row (0 ∷ []) new) || b) (on_table target t new row schema.indexes ∙ ap (list_any (shares target t new row)) own)
