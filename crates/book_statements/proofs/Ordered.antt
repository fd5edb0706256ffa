-- The rows that a register has in each table stand in the order of its key.
use Rattle.std.proofs.Common.{◌≡◌, ℕ, ◌+◌, ◌<◌, Bool, true, false, List, [], ◌∷◌, ◌++◌, map, refl, sym, ap, subst, ◌∙◌, inl, inr, arith, Some, None, Option, length}
use Rattle.std.specs.Prelude.{nat_lt, if◌then◌else◌, flat_map, filter_map, filter}
use Rattle.std.specs.List.{list_all, enumerate_from}
use Rattle.std.proofs.lemmas.Bool.{lt-ltb}
use Rattle.sqlite_rules.specs.Lists.{Has}
use Rattle.sqlite_rules.proofs.ProbeLemmas.{has_mapped}
use Rattle.definitions.specs.declared.rules.Rules.{Rules}
use Rattle.definitions.specs.Bytes.{comes_before}
use Rattle.definitions.specs.Moments.{Moment}
use Rattle.definitions.specs.Header.{Who, who_text}
use Rattle.definitions.specs.Means.{Line, Advice, Address}
use Rattle.definitions.specs.Events.{Event, Advised, Ordered, Reserved, pair_before}
use Rattle.definitions.specs.Register.{Deed, Enrolled, Received, Performed, Entry, own, is_numbered, next_number}
use Rattle.definitions.specs.History.{events}
use Rattle.definitions.specs.Rows.{OutRow, named, lot_row, running_rows, out_row, outgoing_on, outgoing_rows}
use Rattle.definitions.specs.Page.{PageAdvice, PageLine, PageOrder, advices_of, orders_of, page_advice, page_order, page_advices, page_orders, reserved_lines}
use Rattle.definitions.specs.Lists.{in_order}
use Rattle.definitions.specs.Tables.{Cell, Number, Text, TableRow, text_or_null, depositors, for_each, entries_on, entry_rules_on, outgoing_cells, outgoing_table, stock_cells, stock_table, advice_cells, advice_rows, advice_table, advice_line_cells, advice_line_rows, advice_line_table, orders_cells, orders_rows, orders_table, order_line_cells, order_line_rows, order_line_table, reservation_cells, reservation_rows, reservation_table, expiry_cells, lot_expiry_table}
use Rattle.definitions.specs.Schema.{Schema, key_before, key_in, entry_schema, entry_rules_schema, outgoing_schema, stock_schema, advice_schema, advice_line_schema, orders_schema, order_line_schema, reservation_schema, lot_expiry_schema}
use Rattle.rules.specs.Keyed.{Pair, rises_by, row_key, shipment_of, number_of, key_before as pairs_in_order}
use Rattle.rules.proofs.KeyLemmas.{texts_strict, pairs_strict}
use Rattle.rules.proofs.KeyedLists.{both, order_rises, rises_map}
use Rattle.rules.proofs.Depositors.{depositors_rise}
use Rattle.rules.proofs.Portions.{rest_in, map_prefixed}
use Rattle.rules.proofs.SentRows.{next_snoc}
use Rattle.rules.proofs.Tables.{last_cell, pairs_before}
use Rattle.book_statements.specs.Dated.{dates_of}
use Rattle.book_statements.specs.declared.names.TableName.{TableName}
use Rattle.book_statements.specs.declared.names.TableName.TheVariants as table
use Rattle.book_statements.specs.Standing.{keying_of, schema_of, width_of, Filled, filled, OrderedAs, AreOrdered, AreByKey, HasKey, IsOutgoing, IsBySeq, IsRowIn}
use Rattle.book_statements.proofs.DateLemmas.{date_cells, date_key, dates_in, dates_rise}
use Rattle.book_statements.proofs.Rising.{by_key, mapped_rise, numbers_rise, blocks_rise, cells_rise, has_flat, each_block, each_mapped}

-- A table for each depositor.

-- a row of a depositor has its key under the schema
abbrev IsKeyed : Schema → ℕ → TableRow → Type 0
IsKeyed s k r = (t : List ℕ) → HasKey s k (Text t ∷ r)

table_ordered : (s : Schema) (k : ℕ) → ((t : List ℕ) (row : TableRow) → key_in s (Text t ∷ row) ≡ Text t ∷ rest_in 1 s row) → (L : List Entry) (rows : List Entry → List TableRow)
    → ((M : List Entry) → rises_by key_before (rest_in 1 s) (rows M) ≡ true) → ((M : List Entry) (r : TableRow) → Has (rows M) r → IsKeyed s k r) → AreByKey s k (for_each L rows)
table_ordered s k first L rows rise each = record {
  by_key = by_key s (for_each L rows) (blocks_rise (key_in s) (rest_in 1 s) first who_text (λ w. rows (own L w)) (depositors L) (depositors_rise L) (λ w there. rise (own L w)));
  each = each_block (HasKey s k) who_text (λ w. rows (own L w)) (depositors L) (λ w r there. each (own L w) r there (who_text w));
}

-- Entries.

entries_are : (before L : List Entry) (row : TableRow) → Has (entries_on before L) row → IsBySeq entry_schema row
entries_are before [] row h = absurd h
entries_are before (e ∷ L) row h = elim h [
  | inl same ↦ subst (IsBySeq entry_schema) (sym same) (length before + 1, _, refl, refl)
  | inr there ↦ entries_are (before ++ e ∷ []) L row there
]

rules_are : (before L : List Entry) (row : TableRow) → Has (entry_rules_on before L) row → IsBySeq entry_rules_schema row
rules_are before [] row h = absurd h
rules_are before (e ∷ L) row h = elim h [
  | inl same ↦ subst (IsBySeq entry_rules_schema) (sym same) (length before + 1, _, refl, refl)
  | inr there ↦ rules_are (before ++ e ∷ []) L row there
]

-- What went out.

pub row_number : (W : Who) (es : List Event) (before : List Entry) (e : Entry) → (out_row W es before e).n ≡ next_number before
row_number W es before e = by e.who e.moment e.rules e.deed
  where
    by : (w : Who) (t : Moment) (q : Rules) (d : Deed) → (out_row W es before (record { who = w; moment = t; deed = d; rules = q })).n ≡ next_number before
    by w t q Enrolled = refl
    by w t q (Received text) = refl
    by w t q (Performed ticket act) = refl

next_over : (n : ℕ) (before : List Entry) (e : Entry) → n < next_number before → n < next_number (before ++ e ∷ [])
next_over n before e h = omega (arith, h, next_snoc before e)

pub numbers_over : (W : Who) (es : List Event) (n : ℕ) (before M : List Entry) → n < next_number before → list_all (λ (q : OutRow). nat_lt n q.n) (outgoing_on W es before M) ≡ true
numbers_over W es n before [] h = refl
numbers_over W es n before (e ∷ M) h = by (is_numbered e) (numbers_over W es n (before ++ e ∷ []) M (next_over n before e h))
  where
    by : (b : Bool) → list_all (λ (q : OutRow). nat_lt n q.n) (outgoing_on W es (before ++ e ∷ []) M) ≡ true
        → list_all (λ (q : OutRow). nat_lt n q.n) ((if b then out_row W es before e ∷ [] else []) ++ outgoing_on W es (before ++ e ∷ []) M) ≡ true
    by true later = both (nat_lt n (out_row W es before e).n) (list_all (λ (q : OutRow). nat_lt n q.n) (outgoing_on W es (before ++ e ∷ []) M))
        (lt-ltb n (out_row W es before e).n (omega (arith, h, row_number W es before e))) later
    by false later = later

pub sent_rise : (W : Who) (es : List Event) (before M : List Entry) → rises_by nat_lt (λ (q : OutRow). q.n) (outgoing_on W es before M) ≡ true
sent_rise W es before [] = refl
sent_rise W es before (e ∷ M) = by (is_numbered e) refl (sent_rise W es (before ++ e ∷ []) M)
  where
    by : (b : Bool) → is_numbered e ≡ b → rises_by nat_lt (λ (q : OutRow). q.n) (outgoing_on W es (before ++ e ∷ []) M) ≡ true
        → rises_by nat_lt (λ (q : OutRow). q.n) ((if b then out_row W es before e ∷ [] else []) ++ outgoing_on W es (before ++ e ∷ []) M) ≡ true
    by true h later =
        let n = (out_row W es before e).n in
        let more : next_number (before ++ e ∷ []) ≡ next_number before + 1 = next_snoc before e ∙ ap (λ (b : Bool). next_number before + (if b then 1 else 0)) h in
        both (list_all (λ (q : OutRow). nat_lt n q.n) (outgoing_on W es (before ++ e ∷ []) M)) (rises_by nat_lt (λ (q : OutRow). q.n) (outgoing_on W es (before ++ e ∷ []) M))
        (numbers_over W es n (before ++ e ∷ []) M (omega (arith, row_number W es before e, more))) later
    by false h later = later

outgoing_ordered : (W : Who) (L : List Entry) → AreByKey outgoing_schema 2 (outgoing_table W L)
outgoing_ordered W L = table_ordered outgoing_schema 2 (λ t row. refl) L (λ M. map outgoing_cells (outgoing_rows W M))
    (λ M. mapped_rise nat_lt (λ (q : OutRow). q.n) (rest_in 1 outgoing_schema) outgoing_cells (λ a b. last_cell (nat_lt a.n b.n) (nat_lt b.n a.n)) (outgoing_rows W M) ∙ sent_rise W (events M) [] M)
    (λ M. each_mapped (IsKeyed outgoing_schema 2) outgoing_cells (outgoing_rows W M) (λ q t. record { key = refl; cells = refl }))

outgoing_are : (W : Who) (L : List Entry) (row : TableRow) → Has (outgoing_table W L) row → IsOutgoing row
outgoing_are W L = each_block IsOutgoing who_text (λ w. map outgoing_cells (outgoing_rows W (own L w))) (depositors L)
    (λ w. each_mapped (λ r. IsOutgoing (Text (who_text w) ∷ r)) outgoing_cells (outgoing_rows W (own L w)) (λ q. (who_text w, q.n, q.kind, q.content, q.state, refl)))

-- Stock.

abbrev pub line_pair : Line → Pair
line_pair l = (l.item, l.lot)

pub lots_rise : (es : List Event) → rises_by pairs_in_order row_key (running_rows es) ≡ true
lots_rise es =
    rises_map pairs_in_order (lot_row es) line_pair row_key (λ l. refl) (in_order pair_before (flat_map named es))
    ∙ order_rises pairs_in_order pairs_strict line_pair (flat_map named es)

stock_ordered : (L : List Entry) → AreByKey stock_schema 3 (stock_table L)
stock_ordered L = table_ordered stock_schema 3 (λ t row. refl) L (λ M. map stock_cells (running_rows (events M)))
    (λ M. mapped_rise pairs_in_order row_key (rest_in 1 stock_schema) stock_cells (λ a b. pairs_before a.item a.lot b.item b.lot) (running_rows (events M)) ∙ lots_rise (events M))
    (λ M. each_mapped (IsKeyed stock_schema 3) stock_cells (running_rows (events M)) (λ r t. record { key = refl; cells = refl }))

-- Advices.

advice_in : Event → Option Advice
advice_in (Advised a) = Some a
advice_in e = None

pub advices_rise : (es : List Event) → rises_by comes_before shipment_of (page_advices es) ≡ true
unfolding advice_in
advices_rise es =
    rises_map comes_before (page_advice es) (λ (a : Advice). a.shipment) shipment_of (λ a. refl) (advices_of es)
    ∙ order_rises comes_before texts_strict (λ (a : Advice). a.shipment) (filter_map advice_in es)

advice_ordered : (L : List Entry) → AreByKey advice_schema 2 (advice_table L)
advice_ordered L = table_ordered advice_schema 2 (λ t row. refl) L advice_rows
    (λ M. mapped_rise comes_before shipment_of (rest_in 1 advice_schema) advice_cells
    (λ a b. last_cell (comes_before a.shipment b.shipment) (comes_before b.shipment a.shipment)) (page_advices (events M)) ∙ advices_rise (events M))
    (λ M. each_mapped (IsKeyed advice_schema 2) advice_cells (page_advices (events M)) (λ a t. record { key = refl; cells = refl }))

abbrev pub advised_cells : ℕ × Line → TableRow
advised_cells p = Number p.0 ∷ Text p.1.item ∷ Text p.1.lot ∷ Number p.1.quantity ∷ []

-- lines of cells that begin with their numbers
numbered_rise : {X : Type 0} (rest : TableRow → List Cell) (g : ℕ × X → TableRow) → ((p : ℕ × X) → rest (g p) ≡ Number p.0 ∷ []) → (xs : List X)
    → rises_by key_before rest (map g (enumerate_from 1 xs)) ≡ true
numbered_rise {X} rest g number xs =
    mapped_rise nat_lt (λ (p : ℕ × X). p.0) rest g (λ p q. (λ i. key_before (number p i) (number q i)) ∙ last_cell (nat_lt p.0 q.0) (nat_lt q.0 p.0)) (enumerate_from 1 xs)
    ∙ numbers_rise 1 xs

advice_line_ordered : (L : List Entry) → AreByKey advice_line_schema 3 (advice_line_table L)
advice_line_ordered L = table_ordered advice_line_schema 3 (λ t row. refl) L advice_line_rows
    (λ M. cells_rise (rest_in 1 advice_line_schema) (rest_in 2 advice_line_schema) (λ t row. refl) shipment_of (λ (a : PageAdvice). map advised_cells (enumerate_from 1 a.lines)) advice_line_cells
    (λ a. map_prefixed a.shipment advised_cells (enumerate_from 1 a.lines)) (page_advices (events M)) (advices_rise (events M))
    (λ a there. numbered_rise (rest_in 2 advice_line_schema) advised_cells (λ p. refl) a.lines))
    (λ M r there.
    let at = has_flat advice_line_cells (page_advices (events M)) r there in
    each_mapped (IsKeyed advice_line_schema 3) (λ (p : ℕ × Line). Text at.0.shipment ∷ advised_cells p) (enumerate_from 1 at.0.lines) (λ p t. record { key = refl; cells = refl }) r at.2)

-- Orders.

order_in : Event → Option Reserved
order_in (Ordered o shares) = Some (record { order = o; shares = shares })
order_in e = None

pub orders_rise : (es : List Event) → rises_by comes_before number_of (page_orders es) ≡ true
unfolding order_in
orders_rise es =
    rises_map comes_before (page_order es) (λ (r : Reserved). r.order.number) number_of (λ r. refl) (orders_of es)
    ∙ order_rises comes_before texts_strict (λ (r : Reserved). r.order.number) (filter_map order_in es)

order_key : (o : PageOrder) → rest_in 1 orders_schema (orders_cells o) ≡ Text o.number ∷ []
order_key o = by o.address
  where
    by : (a : Option Address) → rest_in 1 orders_schema (orders_cells (record o { address = a })) ≡ Text o.number ∷ []
    by None = refl
    by (Some a) = refl

orders_ordered : (L : List Entry) → AreByKey orders_schema 2 (orders_table L)
orders_ordered L = table_ordered orders_schema 2 (λ t row. refl) L orders_rows
    (λ M. mapped_rise comes_before number_of (rest_in 1 orders_schema) orders_cells
    (λ a b. (λ i. key_before (order_key a i) (order_key b i)) ∙ last_cell (comes_before a.number b.number) (comes_before b.number a.number)) (page_orders (events M)) ∙ orders_rise (events M))
    (λ M. each_mapped (IsKeyed orders_schema 2) orders_cells (page_orders (events M)) (λ o t. record { key = ap (λ (c : List Cell). Text t ∷ c) (order_key o); cells = refl }))

abbrev pub ordered_cells : ℕ × PageLine → TableRow
ordered_cells p = Number p.0 ∷ Text p.1.item ∷ text_or_null p.1.pin ∷ Number p.1.quantity ∷ []

-- the last cells of a line play no part in its key
line_key : (t u : List ℕ) (p : ℕ × PageLine) → key_in order_line_schema (Text t ∷ Text u ∷ ordered_cells p) ≡ Text t ∷ Text u ∷ Number p.0 ∷ []
line_key t u p = by p.1.pin
  where
    by : (o : Option (List ℕ)) → key_in order_line_schema (Text t ∷ Text u ∷ Number p.0 ∷ Text p.1.item ∷ text_or_null o ∷ Number p.1.quantity ∷ []) ≡ Text t ∷ Text u ∷ Number p.0 ∷ []
    by None = refl
    by (Some pin) = refl

order_line_ordered : (L : List Entry) → AreByKey order_line_schema 3 (order_line_table L)
order_line_ordered L = table_ordered order_line_schema 3 (λ t row. refl) L order_line_rows
    (λ M. cells_rise (rest_in 1 order_line_schema) (rest_in 2 order_line_schema) (λ t row. refl) number_of (λ (o : PageOrder). map ordered_cells (enumerate_from 1 o.lines)) order_line_cells
    (λ o. map_prefixed o.number ordered_cells (enumerate_from 1 o.lines)) (page_orders (events M)) (orders_rise (events M))
    (λ o there. numbered_rise (rest_in 2 order_line_schema) ordered_cells (λ p. refl) o.lines))
    (λ M r there.
    let at = has_flat order_line_cells (page_orders (events M)) r there in
    each_mapped (IsKeyed order_line_schema 3) (λ (p : ℕ × PageLine). Text at.0.number ∷ ordered_cells p) (enumerate_from 1 at.0.lines) (λ p t. record { key = line_key t at.0.number p; cells = refl }) r at.2)

-- Reservations.

abbrev pub reserved_cells : Line → TableRow
reserved_cells l = Text l.item ∷ Text l.lot ∷ Number l.quantity ∷ []

-- what is reserved for an order of a page stands by item and lot
pub reserved_rise : (es : List Event) (r : Reserved) → rises_by pairs_in_order line_pair (page_order es r).reserved ≡ true
reserved_rise es r = by (page_order es r).is_open
  where
    by : (b : Bool) → rises_by pairs_in_order line_pair (if b then reserved_lines r.shares else []) ≡ true
    by true = order_rises pairs_in_order pairs_strict line_pair (filter (λ l. nat_lt 0 l.quantity) r.shares)
    by false = refl

reservation_ordered : (L : List Entry) → AreByKey reservation_schema 4 (reservation_table L)
reservation_ordered L = table_ordered reservation_schema 4 (λ t row. refl) L reservation_rows
    (λ M. cells_rise (rest_in 1 reservation_schema) (rest_in 2 reservation_schema) (λ t row. refl) number_of (λ (o : PageOrder). map reserved_cells o.reserved) reservation_cells
    (λ o. map_prefixed o.number reserved_cells o.reserved) (page_orders (events M)) (orders_rise (events M))
    (λ o there.
    let at = has_mapped (page_order (events M)) (orders_of (events M)) o there in
    mapped_rise pairs_in_order line_pair (rest_in 2 reservation_schema) reserved_cells (λ a b. pairs_before a.item a.lot b.item b.lot) o.reserved
    ∙ ap (λ (p : PageOrder). rises_by pairs_in_order line_pair p.reserved) at.2 ∙ reserved_rise (events M) at.0))
    (λ M r there.
    let at = has_flat reservation_cells (page_orders (events M)) r there in
    each_mapped (IsKeyed reservation_schema 4) (λ (l : Line). Text at.0.number ∷ reserved_cells l) at.0.reserved (λ l t. record { key = refl; cells = refl }) r at.2)

-- Dates.

dates_ordered : (L : List Entry) → AreByKey lot_expiry_schema 3 (lot_expiry_table L)
dates_ordered L = table_ordered lot_expiry_schema 3 (λ t row. refl) L (λ M. flat_map expiry_cells (running_rows (events M)))
    (λ M.
    let rows = running_rows (events M) in
    ap (rises_by key_before (rest_in 1 lot_expiry_schema)) (dates_in rows)
    ∙ mapped_rise pairs_in_order date_key (rest_in 1 lot_expiry_schema) date_cells (λ a b. pairs_before a.item a.lot b.item b.lot) (dates_of rows) ∙ dates_rise rows (lots_rise (events M)))
    (λ M r there.
    let rows = running_rows (events M) in
    each_mapped (IsKeyed lot_expiry_schema 3) date_cells (dates_of rows) (λ d t. record { key = refl; cells = refl }) r (subst (λ (rs : List TableRow). Has rs r) (dates_in rows) there))

-- all tables of any register
table_is_ordered : (W : Who) (L : List Entry) (t : TableName) → OrderedAs (keying_of t) (schema_of t) (width_of t) (filled W L t)
table_is_ordered W L table.Book = tt
table_is_ordered W L table.Entry = entries_are [] L
table_is_ordered W L table.Outgoing = outgoing_ordered W L
table_is_ordered W L table.Stock = stock_ordered L
table_is_ordered W L table.Advice = advice_ordered L
table_is_ordered W L table.AdviceLine = advice_line_ordered L
table_is_ordered W L table.Orders = orders_ordered L
table_is_ordered W L table.OrderLine = order_line_ordered L
table_is_ordered W L table.Reservation = reservation_ordered L
table_is_ordered W L table.EntryRules = rules_are [] L
table_is_ordered W L table.LotExpiry = dates_ordered L

-- of no table but `outgoing` anything is asked of a row
all_shaped : (f : Filled) → ((row : TableRow) → Has (f table.Outgoing) row → IsOutgoing row) → (t : TableName) (row : TableRow) → Has (f t) row → IsRowIn t row
all_shaped f sent table.Outgoing row there = sent row there
all_shaped f sent table.Book row there = tt
all_shaped f sent table.Entry row there = tt
all_shaped f sent table.Stock row there = tt
all_shaped f sent table.Advice row there = tt
all_shaped f sent table.AdviceLine row there = tt
all_shaped f sent table.Orders row there = tt
all_shaped f sent table.OrderLine row there = tt
all_shaped f sent table.Reservation row there = tt
all_shaped f sent table.EntryRules row there = tt
all_shaped f sent table.LotExpiry row there = tt

pub all_ordered : (W : Who) (L : List Entry) → AreOrdered (filled W L)
all_ordered W L = record { each = table_is_ordered W L; shaped = all_shaped (filled W L) (outgoing_are W L) }
