-- The running rows that the queries show of a depositor are those of the definitions.
use Rattle.std.proofs.Common.{◌≡◌, inl, inr, ℕ, pos, List, [], ◌∷◌, map, flat_map, ◌&&◌, ◌||◌, cond, Bool, true, false, refl, sym, ap, ◌∙◌}
use Rattle.std.specs.Prelude.{nat_lt}
use Rattle.std.specs.Ordering.{is_lt, is_eq, ordering_then, nat_cmp}
use Rattle.std.specs.Cmp.Lexicographic.{slice_cmp}
use Rattle.std.specs.declared.cmp.Ordering.{Ordering}
use Rattle.std.specs.declared.cmp.Ordering.TheVariants.{Less, Equal, Greater}
use Rattle.std.proofs.lemmas.Map.Text.{is_eq-slice_cmp}
use Rattle.std.proofs.lemmas.Slice.Eq.{bytes_eq-Decides}
use Rattle.sqlite.specs.declared.types.Value.TheVariants as value
use Rattle.sqlite.specs.Order.{Row, value_cmp}
use Rattle.sqlite.specs.Query.{IsAnswer, Output}
use Rattle.sqlite.specs.Program.{overlay}
use Rattle.sqlite.specs.Tree.{Trees}
use Rattle.sqlite_value.proofs.OrderLemmas.{value_cmp-Text, value_cmp-Int}
use Rattle.sqlite_catalog.specs.Listing.{IsSound}
use Rattle.sqlite_rules.specs.Lists.{Has}
use Rattle.definitions.specs.Rules.{Today}
use Rattle.definitions.specs.Bytes.{comes_before}
use Rattle.definitions.specs.Header.{Who, is_partner, who_text}
use Rattle.definitions.specs.Register.{Entry, own}
use Rattle.definitions.specs.History.{events}
use Rattle.definitions.specs.Accepted.{IsLegal}
use Rattle.definitions.specs.Rows.{LotRow, OutRow, running_rows, outgoing_rows}
use Rattle.definitions.specs.Tables.{Text, TableRow, depositors, for_each, stock_cells, stock_table, expiry_cells, lot_expiry_table, outgoing_cells, outgoing_table}
use Rattle.definitions.specs.Schema.{stock_schema, lot_expiry_schema, outgoing_schema}
use Rattle.rules.specs.Keyed.{row_key, key_before as pairs_in_order}
use Rattle.rules.proofs.KeyLemmas.{numbers_strict}
use Rattle.rules.proofs.Blocks.{prefixed}
use Rattle.book_statements.specs.Held.{Holds}
use Rattle.sqlite.specs.Schema.{Schema}
use Rattle.book_statements.specs.Layout.{IsLayout, placed, expiry_tree, stock_layout, lot_expiry_layout, outgoing_layout}
use Rattle.book_statements.specs.Dated.{Dated, date_shown, dates_of}
use Rattle.book_tables.specs.Showing.{lot_shown, out_shown}
use Rattle.book_statements.specs.declared.names.TableName.TheVariants.{Stock, LotExpiry, Outgoing}
use Rattle.book_statements.specs.Standing.{AreOrdered, filled}
use Rattle.book_statements.proofs.HoldsLemmas.{are_keyed}
use Rattle.book_statements.proofs.Ordered.{all_ordered, lots_rise, sent_rise}
use Rattle.book_statements.proofs.DateLemmas.{date_cells, date_key, dates_in, dates_rise}
use Rattle.book_tables.proofs.Parts.{stock_part, dates_part, outgoing_part}
use Rattle.book_statements.proofs.Rising.{each_block}
use Rattle.book_tables.proofs.Showing.{IsShown, shown_rows}
use Rattle.book_statements.proofs.ShowingTexts.{lots_columns, dates_columns, pair_order, all_lots_query, all_dates_query, outbox_columns, outbox_order, outbox_query}
use Rattle.book_statements.proofs.UpsertLemmas.{only_row}

-- each row of a table of depositors begins with a text
pub begun : (L : List Entry) (rows : List Entry → List TableRow) (row : TableRow) → Has (for_each L rows) row → (s : List ℕ) × (r : TableRow) × (row ≡ Text s ∷ r)
begun L rows = each_block (λ row. (s : List ℕ) × (r : TableRow) × (row ≡ Text s ∷ r)) who_text (λ w. rows (own L w)) (depositors L) (λ w r there. (who_text w, r, refl))

-- The order of a pair of texts.

then_less : (o p : Ordering) → is_lt (ordering_then o (ordering_then p Equal)) ≡ (is_lt o || (is_eq o && is_lt p))
then_less Less p = refl
then_less Equal Less = refl
then_less Equal Equal = refl
then_less Equal Greater = refl
then_less Greater p = refl

both_equal : (o p : Ordering) → is_eq (ordering_then o (ordering_then p Equal)) ≡ true → (is_eq o ≡ true) × (is_eq p ≡ true)
both_equal Less p h = absurd (let e : ◌≡◌ {A = Bool} false true = h in cc)
both_equal Equal Less h = absurd (let e : ◌≡◌ {A = Bool} false true = h in cc)
both_equal Equal Equal h = (refl, refl)
both_equal Equal Greater h = absurd (let e : ◌≡◌ {A = Bool} false true = h in cc)
both_equal Greater p h = absurd (let e : ◌≡◌ {A = Bool} false true = h in cc)

pub pairs_ranked : (i l j m : List ℕ) → is_lt (ordering_then (value_cmp (value.Text i) (value.Text j)) (ordering_then (value_cmp (value.Text l) (value.Text m)) Equal)) ≡ pairs_in_order (i, l) (j, m)
pairs_ranked i l j m =
    (λ p. is_lt (ordering_then (value_cmp-Text i j p) (ordering_then (value_cmp-Text l m p) Equal)))
    ∙ then_less (slice_cmp nat_cmp i j) (slice_cmp nat_cmp l m)
    ∙ ap (λ (b : Bool). comes_before i j || (b && comes_before l m)) (is_eq-slice_cmp i j)

pub texts_ranked : (i j : List ℕ) → is_lt (ordering_then (value_cmp (value.Text i) (value.Text j)) Equal) ≡ comes_before i j
texts_ranked i j = (λ p. is_lt (ordering_then (value_cmp-Text i j p) Equal)) ∙ by (slice_cmp nat_cmp i j)
  where
    by : (o : Ordering) → is_lt (ordering_then o Equal) ≡ is_lt o
    by Less = refl
    by Equal = refl
    by Greater = refl

pub one_equal : (o : Ordering) → is_eq (ordering_then o Equal) ≡ true → is_eq o ≡ true
one_equal Less h = h
one_equal Equal h = refl
one_equal Greater h = h

pub text_is : (i j : List ℕ) → is_eq (value_cmp (value.Text i) (value.Text j)) ≡ true → i ≡ j
text_is i j h = (bytes_eq-Decides i j).0 (sym (is_eq-slice_cmp i j) ∙ ap is_eq (sym (value_cmp-Text i j)) ∙ h)

pub same_pair : (first i j l m : List ℕ) → is_eq (ordering_then (value_cmp (value.Text i) (value.Text j)) (ordering_then (value_cmp (value.Text l) (value.Text m)) Equal)) ≡ true
    → ◌≡◌ {A = Row} (value.Text first ∷ value.Text i ∷ value.Text l ∷ []) (value.Text first ∷ value.Text j ∷ value.Text m ∷ [])
same_pair first i j l m h =
    let both = both_equal (value_cmp (value.Text i) (value.Text j)) (value_cmp (value.Text l) (value.Text m)) h in
    let item = text_is i j both.0 in
    let lot = text_is l m both.1 in
    λ k. value.Text first ∷ value.Text (item k) ∷ value.Text (lot k) ∷ []

-- Stock.

abbrev pub lot_out : LotRow → Output
lot_out r = (value.Text r.item ∷ value.Text r.lot ∷ [], lot_shown r)

lots_are : (W : Who) (L : List Entry) (who : Who) → IsLegal Today W L → is_partner who ≡ true
    → IsShown pairs_in_order row_key stock_cells 6 3 lots_columns pair_order lot_out (who_text who) (stock_table L) (running_rows (events (own L who)))
lots_are W L who legal partner = record {
  lies = λ db. refl;
  part = stock_part W L who legal partner;
  firsts = begun L (λ M. map stock_cells (running_rows (events M)));
  rises = lots_rise (events (own L who));
  puts = λ id r. refl;
  ranks = λ a b. pairs_ranked a.item a.lot b.item b.lot;
  tied = λ a b. same_pair (who_text who) a.item b.item a.lot b.lot;
}

-- the answer of a partner's lots is its running rows, but for their dates
pub all_lots_shown : (schema : Schema) (lies : IsLayout schema) (W : Who) (L : List Entry) (who : Who) (db : Trees) (rows : List Row) → IsLegal Today W L → is_partner who ≡ true → IsSound schema db → Holds (stock_table L) (db 6)
    → IsAnswer all_lots_query (overlay db []) (value.Text (who_text who) ∷ []) rows → rows ≡ map lot_shown (running_rows (events (own L who)))
all_lots_shown schema lies W L who db rows legal partner sound held a =
    let ordered : AreOrdered (filled W L) = all_ordered W L in
    shown_rows pairs_in_order row_key stock_cells 6 3 lots_columns pair_order lot_out (who_text who) (stock_table L) (running_rows (events (own L who))) (lots_are W L who legal partner) db held
    (only_row schema lies stock_layout.name 6 3 stock_layout.checks stock_layout.columns db (inr (inr (inr (inl refl)))) sound (are_keyed stock_schema 3 (stock_table L) (db 6) (ordered.each Stock) held)) rows a

-- Dates.

abbrev pub date_out : Dated → Output
date_out d = (value.Text d.item ∷ value.Text d.lot ∷ [], date_shown d)

dates_are : (W : Who) (L : List Entry) (who : Who) → IsLegal Today W L → is_partner who ≡ true
    → IsShown pairs_in_order date_key date_cells 19 3 dates_columns pair_order date_out (who_text who) (lot_expiry_table L) (dates_of (running_rows (events (own L who))))
dates_are W L who legal partner = record {
  lies = λ db. refl;
  part = dates_part W L who legal partner ∙ ap (prefixed (who_text who)) (dates_in (running_rows (events (own L who))));
  firsts = begun L (λ M. flat_map expiry_cells (running_rows (events M)));
  rises = dates_rise (running_rows (events (own L who))) (lots_rise (events (own L who)));
  puts = λ id d. refl;
  ranks = λ a b. pairs_ranked a.item a.lot b.item b.lot;
  tied = λ a b. same_pair (who_text who) a.item b.item a.lot b.lot;
}

-- the answer of a partner's dates is those of its running rows
pub dates_shown : (schema : Schema) (lies : IsLayout schema) (W : Who) (L : List Entry) (who : Who) (db : Trees) (rows : List Row) → IsLegal Today W L → is_partner who ≡ true → IsSound schema db → Holds (lot_expiry_table L) (placed schema db 19)
    → IsAnswer all_dates_query (overlay (placed schema db) []) (value.Text (who_text who) ∷ []) rows → rows ≡ map date_shown (dates_of (running_rows (events (own L who))))
dates_shown schema lies W L who db rows legal partner sound held a =
    let ordered : AreOrdered (filled W L) = all_ordered W L in
    shown_rows pairs_in_order date_key date_cells 19 3 dates_columns pair_order date_out (who_text who) (lot_expiry_table L) (dates_of (running_rows (events (own L who)))) (dates_are W L who legal partner) (placed schema db) held
    (only_row schema lies lot_expiry_layout.name (expiry_tree schema) 3 [] lot_expiry_layout.columns db (inr (inr (inr (inr (inr (inr (inr (inr (inr (inr (inl refl))))))))))) sound
    (are_keyed lot_expiry_schema 3 (lot_expiry_table L) (placed schema db 19) (ordered.each LotExpiry) held)) rows a

-- What went out.

abbrev out_out : OutRow → Output
out_out r = (value.Int (pos r.n) ∷ [], out_shown r)

pub numbers_ranked : (m n : ℕ) → is_lt (ordering_then (value_cmp (value.Int (pos m)) (value.Int (pos n))) Equal) ≡ nat_lt m n
numbers_ranked m n = (λ p. is_lt (ordering_then (value_cmp-Int (pos m) (pos n) p) Equal)) ∙ by (nat_lt m n) (nat_lt n m)
  where
    by : (b d : Bool) → is_lt (ordering_then (cond b Less (cond d Greater Equal)) Equal) ≡ b
    by true d = refl
    by false true = refl
    by false false = refl

pub number_is : (m n : ℕ) → is_eq (ordering_then (value_cmp (value.Int (pos m)) (value.Int (pos n))) Equal) ≡ true → m ≡ n
number_is m n h = by (nat_lt m n) (nat_lt n m) refl refl (sym (λ p. is_eq (ordering_then (value_cmp-Int (pos m) (pos n) p) Equal)) ∙ h)
  where
    by : (b d : Bool) → nat_lt m n ≡ b → nat_lt n m ≡ d → is_eq (ordering_then (cond b Less (cond d Greater Equal)) Equal) ≡ true → m ≡ n
    by true d e f g = absurd (let k : ◌≡◌ {A = Bool} false true = g in cc)
    by false true e f g = absurd (let k : ◌≡◌ {A = Bool} false true = g in cc)
    by false false e f g = numbers_strict.total m n e f

outgoing_is : (W : Who) (L : List Entry) (who : Who) → IsLegal Today W L → is_partner who ≡ true
    → IsShown nat_lt (λ (r : OutRow). r.n) outgoing_cells 4 2 outbox_columns outbox_order out_out (who_text who) (outgoing_table W L) (outgoing_rows W (own L who))
outgoing_is W L who legal partner = record {
  lies = λ db. refl;
  part = outgoing_part W L who legal partner;
  firsts = begun L (λ M. map outgoing_cells (outgoing_rows W M));
  rises = sent_rise W (events (own L who)) [] (own L who);
  puts = λ id r. refl;
  ranks = λ a b. numbers_ranked a.n b.n;
  tied = λ a b h. let same = number_is a.n b.n h in λ i. value.Text (who_text who) ∷ value.Int (pos (same i)) ∷ [];
}

-- the answer of what went out to a partner is all of its outgoing rows
pub outgoing_rows_shown : (schema : Schema) (lies : IsLayout schema) (W : Who) (L : List Entry) (who : Who) (db : Trees) (rows : List Row) → IsLegal Today W L → is_partner who ≡ true → IsSound schema db → Holds (outgoing_table W L) (db 4)
    → IsAnswer outbox_query (overlay db []) (value.Text (who_text who) ∷ []) rows → rows ≡ map out_shown (outgoing_rows W (own L who))
outgoing_rows_shown schema lies W L who db rows legal partner sound held a =
    let ordered : AreOrdered (filled W L) = all_ordered W L in
    shown_rows nat_lt (λ (r : OutRow). r.n) outgoing_cells 4 2 outbox_columns outbox_order out_out (who_text who) (outgoing_table W L) (outgoing_rows W (own L who)) (outgoing_is W L who legal partner) db held
    (only_row schema lies outgoing_layout.name 4 2 outgoing_layout.checks outgoing_layout.columns db (inr (inr (inl refl))) sound (are_keyed outgoing_schema 2 (outgoing_table W L) (db 4) (ordered.each Outgoing) held)) rows a
