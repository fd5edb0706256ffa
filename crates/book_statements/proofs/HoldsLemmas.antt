-- What a statement does to a table, as rows of the definitions.
use Rattle.std.proofs.Common.{◌≡◌, ◌≢◌, inl, inr, ℕ, zero, suc, ℤ, pos, List, [], ◌∷◌, take, map, filter, not, ◌&&◌, ◌||◌, Bool, true, false, refl, sym, ap, subst, ◌∙◌, arith}
use Rattle.std.specs.Prelude.{bytes_eq, ◌==◌, nat_lt}
use Rattle.std.proofs.lemmas.Bool.{cases_Bool}
use Rattle.std.proofs.lemmas.Bool.Decides.{nat_tests}
use Rattle.std.proofs.lemmas.Slice.Eq.{bytes_eq-Decides}
use Rattle.std.specs.Ordering.{int_cmp}
use Rattle.std.specs.declared.cmp.Ordering.TheVariants.{Less, Equal, Greater}
use Rattle.sqlite.specs.declared.types.Value.{Value}
use Rattle.sqlite.specs.declared.types.Value.TheVariants as value
use Rattle.sqlite.specs.Order.{Row, value_cmp}
use Rattle.sqlite.specs.Tree.{rowid, put_row}
use Rattle.sqlite_value.proofs.OrderLemmas.{value_cmp-Int}
use Rattle.sqlite_rules.specs.Lists.{Has}
use Rattle.sqlite_rules.proofs.ListLemmas.{has_filtered, has_kept}
use Rattle.sqlite_rules.proofs.ProbeLemmas.{has_mapped, mapped_has}
use Rattle.definitions.specs.Tables.{Cell, Null, Number, Text, Blob, TableRow}
use Rattle.definitions.specs.Schema as schema
use Rattle.definitions.specs.Schema.{Schema, key_in, outgoing_schema, reservation_schema, key_before}
use Rattle.definitions.specs.Changes.{with_state, is_reserved_for}
use Rattle.book_statements.specs.Held.{value_of, values, Holds, entry_values}
use Rattle.book_statements.specs.Standing.{AreByKey, HasKey, has_key_cells, IsOutgoing, IsBySeq}
use Rattle.book_statements.specs.Steps.{PutByKey, TakenByKey, SetsState, AreKeyed, key_of, has_key}
use Rattle.book_statements.proofs.PutRows.{put_there, put_kept, put_from, put_by_key, put_old, filter_by_key, map_by_key, only_by_key}
use Rattle.book_statements.proofs.Values.{and_true}

-- Cells and values.

pub same_cell : (a b : Cell) → value_of a ≡ value_of b → a ≡ b
same_cell Null Null h = refl
same_cell Null (Number n) h = absurd cc
same_cell Null (Text t) h = absurd cc
same_cell Null (Blob t) h = absurd cc
same_cell (Number n) Null h = absurd cc
same_cell (Number n) (Number m) h = cc
same_cell (Number n) (Text t) h = absurd cc
same_cell (Number n) (Blob t) h = absurd cc
same_cell (Text s) Null h = absurd cc
same_cell (Text s) (Number n) h = absurd cc
same_cell (Text s) (Text t) h = cc
same_cell (Text s) (Blob t) h = absurd cc
same_cell (Blob s) Null h = absurd cc
same_cell (Blob s) (Number n) h = absurd cc
same_cell (Blob s) (Text t) h = absurd cc
same_cell (Blob s) (Blob t) h = cc

heads : (x y : Value) (a b : Row) → x ∷ a ≡ y ∷ b → (x ≡ y) × (a ≡ b)
heads x y a b e = (cc, cc)

pub same_cells : (a b : TableRow) → values a ≡ values b → a ≡ b
same_cells [] [] h = refl
same_cells [] (y ∷ b) h = absurd cc
same_cells (x ∷ a) [] h = absurd cc
same_cells (x ∷ a) (y ∷ b) h = let both = heads (value_of x) (value_of y) (values a) (values b) h in (λ i. same_cell x y both.0 i ∷ same_cells a b both.1 i)

pub take_values : (k : ℕ) (row : TableRow) → take k (values row) ≡ values (take k row)
take_values zero row = refl
take_values (suc k) [] = refl
take_values (suc k) (c ∷ row) = ap (λ (r : Row). value_of c ∷ r) (take_values k row)

has_keys : (k : ℕ) (row : TableRow) → has_key_cells k row ≡ true → has_key k (values row) ≡ true
has_keys zero row h = refl
has_keys (suc k) [] h = h
has_keys (suc k) (Null ∷ row) h = h
has_keys (suc k) (Number n ∷ row) h = has_keys k row h
has_keys (suc k) (Text t ∷ row) h = has_keys k row h
has_keys (suc k) (Blob b ∷ row) h = h

pub are_keyed : (s : Schema) (k : ℕ) (rows : List TableRow) (stored : List Row) → AreByKey s k rows → Holds rows stored → AreKeyed k stored
are_keyed s k rows stored sorted held = record {
  rise = held.rise;
  each = λ row there. let it = held.sound row there in let has = sorted.each it.1 it.2 in (it.0, values it.1, it.3, has_keys k it.1 has.cells);
}

-- a stored row's key is its row's
stored_key : (s : Schema) (k : ℕ) (id : ℤ) (a b : TableRow) → HasKey s k a → HasKey s k b → take k (values a) ≡ take k (values b) → key_in s a ≡ key_in s b
stored_key s k id a b p q same = p.key ∙ same_cells (take k a) (take k b) (sym (take_values k a) ∙ same ∙ take_values k b) ∙ sym q.key

key_stored : (s : Schema) (k : ℕ) (a b : TableRow) → HasKey s k a → HasKey s k b → key_in s a ≡ key_in s b → take k (values a) ≡ take k (values b)
key_stored s k a b p q same = take_values k a ∙ ap values (sym p.key ∙ same ∙ q.key) ∙ sym (take_values k b)

-- ---- a row that is put by its key

module _ (s : Schema) (k : ℕ) (row : TableRow) (rows : List TableRow) (sorted : AreByKey s k rows) (has : HasKey s k row) where
  pub put_ordered : AreByKey s k (schema.put_row s row rows)
  put_ordered = record {
    by_key = put_by_key s row rows sorted.by_key;
    each = λ x there. elim (put_old s row rows x there) [ inl new ↦ subst (HasKey s k) (sym new) has | inr old ↦ sorted.each x old ];
  }

  pub put_holds : (stored next : List Row) → Holds rows stored → PutByKey k (values row) stored next → Holds (schema.put_row s row rows) next
  put_holds stored next held put = record {
    rise = put.rise;
    sound = λ line there. elim (put.sound line there) [
      | inl new ↦ (new.0, row, put_there s row rows, new.1)
      | inr old ↦
          let it = held.sound line old.0 in
          (it.0, it.1, put_kept s row rows it.1 it.2 (λ same. old.1 (ap (key_of k) it.3 ∙ key_stored s k it.1 row (sorted.each it.1 it.2) has same)), it.3)
    ];
    complete = λ cells there. elim (put_from s row rows cells sorted.by_key there) [
      | inl new ↦ (put.there.0, subst (λ (c : TableRow). Has next (value.Int put.there.0 ∷ values c)) (sym new) put.there.1)
      | inr old ↦
          let it = held.complete cells old.0 in
          (it.0, put.kept (value.Int it.0 ∷ values cells) it.1 (λ same. old.1 (stored_key s k it.0 cells row (sorted.each cells old.0) has same)))
    ];
  }

-- ---- rows that are taken out

reserved_names : (who order : List ℕ) (row : TableRow) → is_reserved_for who order row ≡ true → take 2 row ≡ Text who ∷ Text order ∷ []
reserved_names who order [] h = absurd (let e : ◌≡◌ {A = Bool} false true = h in cc)
reserved_names who order (Null ∷ row) h = absurd (let e : ◌≡◌ {A = Bool} false true = h in cc)
reserved_names who order (Number n ∷ row) h = absurd (let e : ◌≡◌ {A = Bool} false true = h in cc)
reserved_names who order (Blob b ∷ row) h = absurd (let e : ◌≡◌ {A = Bool} false true = h in cc)
reserved_names who order (Text w ∷ []) h = absurd (let e : ◌≡◌ {A = Bool} false true = h in cc)
reserved_names who order (Text w ∷ Null ∷ row) h = absurd (let e : ◌≡◌ {A = Bool} false true = h in cc)
reserved_names who order (Text w ∷ Number n ∷ row) h = absurd (let e : ◌≡◌ {A = Bool} false true = h in cc)
reserved_names who order (Text w ∷ Blob b ∷ row) h = absurd (let e : ◌≡◌ {A = Bool} false true = h in cc)
reserved_names who order (Text w ∷ Text o ∷ row) h =
    let both = and_true _ _ h in
    (λ i. Text ((bytes_eq-Decides w who).0 both.0 i) ∷ Text ((bytes_eq-Decides o order).0 both.1 i) ∷ [])

two_heads : (a b c d : Cell) → ◌≡◌ {A = TableRow} (a ∷ b ∷ []) (c ∷ d ∷ []) → (a ≡ c) × (b ≡ d)
two_heads a b c d e = (cc, cc)

names_reserved : (who order : List ℕ) (row : TableRow) → take 2 row ≡ Text who ∷ Text order ∷ [] → is_reserved_for who order row ≡ true
names_reserved who order [] h = absurd cc
names_reserved who order (a ∷ []) h = absurd cc
names_reserved who order (a ∷ b ∷ row) h =
    let both = two_heads a b (Text who) (Text order) h in
    ap (λ (c : Cell). is_reserved_for who order (c ∷ b ∷ row)) both.0 ∙ ap (λ (c : Cell). is_reserved_for who order (Text who ∷ c ∷ row)) both.1
    ∙ rw ((bytes_eq-Decides who who).1 refl, (bytes_eq-Decides order order).1 refl) refl

not_both : (b : Bool) → b ≡ true → not b ≡ true → ⊥
not_both true h k = let e : ◌≡◌ {A = Bool} false true = k in cc
not_both false h k = let e : ◌≡◌ {A = Bool} false true = h in cc

is_not : (b : Bool) → (b ≡ true → ⊥) → not b ≡ true
is_not true h = absurd (h refl)
is_not false h = refl

module _ (who order : List ℕ) (rows : List TableRow) where
  abbrev stays : TableRow → Bool
  stays row = not (is_reserved_for who order row)

  pub freed_ordered : AreByKey reservation_schema 4 rows → AreByKey reservation_schema 4 (filter stays rows)
  freed_ordered sorted = record {
    by_key = filter_by_key reservation_schema stays rows sorted.by_key;
    each = λ x there. sorted.each x (has_filtered stays rows x there).0;
  }

  pub freed_holds : (stored next : List Row) → Holds rows stored → TakenByKey 2 (value.Text who ∷ value.Text order ∷ []) stored next → Holds (filter stays rows) next
  freed_holds stored next held taken = record {
    rise = taken.rise;
    sound = λ line there.
        let old = taken.sound line there in
        let it = held.sound line old.0 in (
          it.0,
          it.1,
          has_kept stays rows it.1 it.2 (is_not (is_reserved_for who order it.1) (λ hit.
              old.1 (ap (key_of 2) it.3 ∙ take_values 2 it.1 ∙ ap values (reserved_names who order it.1 hit)))),
          it.3,
        );
    complete = λ cells there.
        let old = has_filtered stays rows cells there in
        let it = held.complete cells old.0 in (
          it.0,
          taken.kept (value.Int it.0 ∷ values cells) it.1 (λ same.
              not_both (is_reserved_for who order cells) (names_reserved who order cells (same_cells (take 2 cells) (Text who ∷ Text order ∷ []) (sym (take_values 2 cells) ∙ same))) old.1),
        );
  }

-- ---- a document's state

module _ (who : List ℕ) (n : ℕ) (state : List ℕ) where
  abbrev f : TableRow → TableRow
  f = with_state who n state

  abbrev its : List ℕ → ℕ → Bool
  its w m = bytes_eq w who && m == n

  -- what becomes of a row
  restated : (w : List ℕ) (m : ℕ) (kind content old : List ℕ) → its w m ≡ true → f (Text w ∷ Number m ∷ Text kind ∷ Blob content ∷ Text old ∷ []) ≡ Text w ∷ Number m ∷ Text kind ∷ Blob content ∷ Text state ∷ []
  restated w m kind content old h = rw h refl

  unstated : (w : List ℕ) (m : ℕ) (kind content old : List ℕ) → its w m ≡ false → f (Text w ∷ Number m ∷ Text kind ∷ Blob content ∷ Text old ∷ []) ≡ Text w ∷ Number m ∷ Text kind ∷ Blob content ∷ Text old ∷ []
  unstated w m kind content old h = rw h refl

  its_itself : its who n ≡ true
  its_itself = rw ((bytes_eq-Decides who who).1 refl) (same_number n)
    where
      same_number : (n : ℕ) → (n == n) ≡ true
      same_number n = grind (arith, nat_tests)

  its_names : (w : List ℕ) (m : ℕ) → its w m ≡ true → (w ≡ who) × (m ≡ n)
  its_names w m h = let both = and_true _ _ h in ((bytes_eq-Decides w who).0 both.0, same_numbers m n both.1)
    where
      same_numbers : (m n : ℕ) → (m == n) ≡ true → m ≡ n
      same_numbers m n h = grind (arith, nat_tests, h)

  keeps_key : (row : TableRow) → IsOutgoing row → key_in outgoing_schema (f row) ≡ key_in outgoing_schema row
  keeps_key row is = ap (λ (r : TableRow). key_in outgoing_schema (f r)) is.5 ∙ sym (ap (key_in outgoing_schema) is.5)

  -- a row of another key stays
  unmoved : (row : TableRow) → IsOutgoing row → (take 2 row ≢ Text who ∷ Number n ∷ []) → f row ≡ row
  unmoved row is other = elim (cases_Bool (its is.0 is.1)) [
    | inl hit ↦ absurd (let names = its_names is.0 is.1 hit in other (ap (take 2) is.5 ∙ (λ i. Text (names.0 i) ∷ Number (names.1 i) ∷ [])))
    | inr miss ↦ ap f is.5 ∙ unstated is.0 is.1 is.2 is.3 is.4 miss ∙ sym is.5
  ]

  still_outgoing : (row : TableRow) → IsOutgoing row → IsOutgoing (f row)
  still_outgoing row is = elim (cases_Bool (its is.0 is.1)) [
    | inl hit ↦ (is.0, is.1, is.2, is.3, state, ap f is.5 ∙ restated is.0 is.1 is.2 is.3 is.4 hit)
    | inr miss ↦ (is.0, is.1, is.2, is.3, is.4, ap f is.5 ∙ unstated is.0 is.1 is.2 is.3 is.4 miss)
  ]

  module _ (rows : List TableRow) (each : (row : TableRow) → Has rows row → IsOutgoing row) (sorted : AreByKey outgoing_schema 2 rows) where
    pub stated_each : (row : TableRow) → Has (map f rows) row → IsOutgoing row
    stated_each row there = let it = has_mapped f rows row there in subst IsOutgoing (sym it.2) (still_outgoing it.0 (each it.0 it.1))

    pub stated_ordered : AreByKey outgoing_schema 2 (map f rows)
    stated_ordered = record {
      by_key = map_by_key outgoing_schema f rows (λ r there. keeps_key r (each r there)) sorted.by_key;
      each = λ row there. let it = stated_each row there in subst (HasKey outgoing_schema 2) (sym it.5) (record { key = refl; cells = refl });
    }

    -- where no row is moved the rows are the same
    all_unmoved : (rs : List TableRow) → ((row : TableRow) → Has rs row → f row ≡ row) → map f rs ≡ rs
    all_unmoved [] h = refl
    all_unmoved (r ∷ rs) h = (λ i. h r (inl refl) i ∷ all_unmoved rs (λ x there. h x (inr there)) i)

    pub stated_holds : (stored next : List Row) → Holds rows stored → SetsState who (pos n) state stored next → Holds (map f rows) next
    stated_holds stored next held (inl none) =
        subst (Holds (map f rows)) (sym none.1) (subst (λ rs. Holds rs stored) (sym (all_unmoved rows (λ row there.
        let it = held.complete row there in
        unmoved row (each row there) (λ same. none.0 (value.Int it.0 ∷ values row) it.1 (take_values 2 row ∙ ap values same))))) held)
    stated_holds stored next held (inr (id, kind, content, before, there, put)) =
        let old : TableRow = Text who ∷ Number n ∷ Text kind ∷ Blob content ∷ Text before ∷ [] in
        let new : TableRow = Text who ∷ Number n ∷ Text kind ∷ Blob content ∷ Text state ∷ [] in
        let found = held.sound (value.Int id ∷ values old) there in
        let is : old ≡ found.1 = same_cells old found.1 (heads (value.Int id) (value.Int found.0) (values old) (values found.1) found.3).1 in
        let listed : Has rows old = subst (Has rows) (sym is) found.2 in
        let made : f old ≡ new = restated who n kind content before its_itself in
        record {
          rise = put.rise;
          sound = λ line here. elim (put.sound line here) [
            | inl fresh ↦ (fresh.0, new, subst (Has (map f rows)) made (mapped_has f rows old listed), fresh.1)
            | inr kept ↦
                let it = held.sound line kept.0 in
                let same = unmoved it.1 (each it.1 it.2) (λ key. kept.1 (ap (key_of 2) it.3 ∙ take_values 2 it.1 ∙ ap values key)) in
                (it.0, it.1, subst (Has (map f rows)) same (mapped_has f rows it.1 it.2), it.3)
          ];
          complete = λ cells here.
              let it = has_mapped f rows cells here in
              let is_out = each it.0 it.1 in
              elim (cases_Bool (its is_out.0 is_out.1)) [
                | inl hit ↦
                    let names = its_names is_out.0 is_out.1 hit in
                    let key : key_in outgoing_schema it.0 ≡ key_in outgoing_schema old = ap (key_in outgoing_schema) is_out.5 ∙ (λ i. Text (names.0 i) ∷ Number (names.1 i) ∷ []) in
                    let same = only_by_key outgoing_schema rows it.0 old sorted.by_key it.1 listed key in
                    (put.there.0, subst (λ (c : TableRow). Has next (value.Int put.there.0 ∷ values c)) (sym (it.2 ∙ ap f same ∙ made)) put.there.1)
                | inr miss ↦
                    let same : cells ≡ it.0 = it.2 ∙ ap f is_out.5 ∙ unstated is_out.0 is_out.1 is_out.2 is_out.3 is_out.4 miss ∙ sym is_out.5 in
                    let stored_row = held.complete it.0 it.1 in (
                      stored_row.0,
                      subst (λ (c : TableRow). Has next (value.Int stored_row.0 ∷ values c)) (sym same)
                          (put.kept (value.Int stored_row.0 ∷ values it.0) stored_row.1 (λ key.
                          let front = same_cells (take 2 it.0) (Text who ∷ Number n ∷ []) (sym (take_values 2 it.0) ∙ key) in
                          let both = two_heads (Text is_out.0) (Number is_out.1) (Text who) (Number n) (ap (take 2) (sym is_out.5) ∙ front) in
                          not_its is_out.0 is_out.1 (ap value_of both.0) (ap value_of both.1) miss)),
                    )
              ];
        }
      where
        not_its : (w : List ℕ) (m : ℕ) → value.Text w ≡ value.Text who → value.Int (pos m) ≡ value.Int (pos n) → its w m ≡ false → ⊥
        not_its w m p q miss =
            let same : w ≡ who = cc in
            let number : m ≡ n = cc in
            let hit : its w m ≡ true = rw (same, number) its_itself in
            let e : ◌≡◌ {A = Bool} true false = sym hit ∙ miss in cc

-- ---- a row of `entry` or of `entry_rules`

below : (m n : ℕ) → nat_lt m n ≡ true → int_cmp (pos m) (pos n) ≡ Less
below m n h = grind (arith, nat_tests, h)

beyond : (m n : ℕ) → nat_lt m n ≡ true → int_cmp (pos n) (pos m) ≡ Greater
beyond m n h = grind (arith, nat_tests, h)

level : (m n : ℕ) → nat_lt m n ≡ false → nat_lt n m ≡ false → int_cmp (pos m) (pos n) ≡ Equal
level m n h g = grind (arith, nat_tests, h, g)

or_and_false : (a b : Bool) → (a || (not b && false)) ≡ a
or_and_false true b = refl
or_and_false false true = refl
or_and_false false false = refl

-- the rowid is the number of the entry, so it stands where its row does
pub seq_put : (s : Schema) (row : TableRow) (rows : List TableRow) → IsBySeq s row → ((r : TableRow) → Has rows r → IsBySeq s r)
    → map entry_values (schema.put_row s row rows) ≡ put_row (entry_values row) (map entry_values rows)
seq_put s row [] is each = refl
seq_put s row (r ∷ rows) is each = go (nat_lt is.0 o.0) (nat_lt o.0 is.0) refl refl (seq_put s row rows is (λ x there. each x (inr there)))
  where
    o : IsBySeq s r
    o = each r (inl refl)

    first : key_before (key_in s row) (key_in s r) ≡ nat_lt is.0 o.0
    first = (λ i. key_before (is.3 i) (o.3 i)) ∙ or_and_false (nat_lt is.0 o.0) (nat_lt o.0 is.0)

    second : key_before (key_in s r) (key_in s row) ≡ nat_lt o.0 is.0
    second = (λ i. key_before (o.3 i) (is.3 i)) ∙ or_and_false (nat_lt o.0 is.0) (nat_lt is.0 o.0)

    order : value_cmp (rowid (entry_values r)) (rowid (entry_values row)) ≡ int_cmp (pos o.0) (pos is.0)
    order = (λ i. value_cmp (rowid (entry_values (o.2 i))) (rowid (entry_values (is.2 i)))) ∙ value_cmp-Int (pos o.0) (pos is.0)

    go : (a b : Bool) → nat_lt is.0 o.0 ≡ a → nat_lt o.0 is.0 ≡ b → map entry_values (schema.put_row s row rows) ≡ put_row (entry_values row) (map entry_values rows)
        → map entry_values (schema.put_row s row (r ∷ rows)) ≡ put_row (entry_values row) (map entry_values (r ∷ rows))
    go true b p q more = rw (first ∙ p, order ∙ beyond is.0 o.0 p) refl
    go false true p q more = rw (first ∙ p, second ∙ q, order ∙ below o.0 is.0 q) (ap (λ (rs : List Row). entry_values r ∷ rs) more)
    go false false p q more = rw (first ∙ p, second ∙ q, order ∙ level o.0 is.0 q p) refl
