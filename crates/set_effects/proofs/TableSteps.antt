-- A proper change of a depositor's page, as changes of the tables, makes of the page's rows in the
-- tables those of the page with the change.
use Rattle.std.proofs.Common.{◌≡◌, ℕ, Bool, true, false, not, ◌&&◌, List, [], ◌∷◌, ◌++◌, ◌⊎◌, map, refl, sym, ap, ◌∙◌, inl, inr, Option, Some, None}
use Rattle.std.specs.Prelude.{fold, filter, flat_map, codes, bytes_eq, option_to_list}
use Rattle.std.specs.List.{list_all, enumerate_from}
use Rattle.std.proofs.lemmas.Bool.{cases_Bool, both_ways}
use Rattle.definitions.specs.Bytes.{comes_before}
use Rattle.definitions.specs.Means.{Line}
use Rattle.definitions.specs.Rows.{LotRow}
use Rattle.definitions.specs.Page.{PageAdvice, PageLine, PageOrder}
use Rattle.definitions.specs.Tables.{Null, Number, Text, Blob, TableRow, AllTables, text_or_null, stock_cells, expiry_cells, advice_cells, advice_line_cells, orders_cells, order_line_cells, reservation_cells}
use Rattle.definitions.specs.Schema.{Schema, key_before, key_in, put_row, stock_schema, advice_schema, advice_line_schema, orders_schema, order_line_schema, reservation_schema, lot_expiry_schema}
use Rattle.definitions.specs.Changes.{is_reserved_for}
use Rattle.definitions.proofs.TextLaws.{same_text, text_is}
use Rattle.stock.specs.Keyed.{put_by, rises_by, row_key, shipment_of, number_of, put_advice, put_order, key_before as pairs_in_order, put_row as put_lot, IsSorted}
use Rattle.stock.specs.OfPairs.{date_of_pair}
use Rattle.stock.specs.Pages.{PageFacts, is_shipment, is_number, advice_at, order_at}
use Rattle.stock.specs.Steps.{closed_advice, closed_order}
use Rattle.stock.proofs.Texts.{texts_never}
use Rattle.stock.proofs.KeyLemmas.{pairs_strict, shipment_test, number_test}
use Rattle.set_effects.specs.Proper.{KeepsDate, pair_of}
use Rattle.set_effects.proofs.Dates.{cells_of, date_cells, dates_of, undated_put, pair_dated, dated_put}
use Rattle.set_effects.proofs.Tables.{last_cell, pairs_before}
use Rattle.set_effects.proofs.Blocks.{prefixed, is_below, is_above, put_row_by, put_map, put_within, puts_within}
use Rattle.set_effects.proofs.Portions.{rest_in, folds_same, filter_within, map_prefixed, puts_all, puts_numbered, cells_blocks, cells_opened, cells_kept, block_freed}

-- the rows of a table before and after those of a depositor
pub record Sides : Type 0 where
  pub front : List TableRow
  pub back : List TableRow

pub record IsBeside (t : List ℕ) (x : Sides) : Type 0 where
  pub below : list_all (is_below t) x.front ≡ true
  pub above : list_all (is_above t) x.back ≡ true

abbrev pub framed : List ℕ → Sides → List TableRow → List TableRow
framed t x rows = x.front ++ (prefixed t rows ++ x.back)

-- the tables by their rows: those of version 1, and the two that come with version 2
abbrev pub eleven : List TableRow → List TableRow → List TableRow → List TableRow → List TableRow → List TableRow → List TableRow → List TableRow → List TableRow → List TableRow → List TableRow → AllTables
eleven book entry outgoing stock advice advice_line orders order_line reservation entry_rules lot_expiry =
    (codes "book", book)
    ∷ (codes "entry", entry)
    ∷ (codes "outgoing", outgoing)
    ∷ (codes "stock", stock)
    ∷ (codes "advice", advice)
    ∷ (codes "advice_line", advice_line)
    ∷ (codes "orders", orders)
    ∷ (codes "order_line", order_line)
    ∷ (codes "reservation", reservation)
    ∷ (codes "entry_rules", entry_rules)
    ∷ (codes "lot_expiry", lot_expiry)
    ∷ []

-- those of other depositors
pub record Others : Type 0 where
  pub stock : Sides
  pub advice : Sides
  pub advice_line : Sides
  pub orders : Sides
  pub order_line : Sides
  pub reservation : Sides
  pub lot_expiry : Sides

pub record AreBeside (t : List ℕ) (x : Others) : Type 0 where
  pub stock : IsBeside t x.stock
  pub advice : IsBeside t x.advice
  pub advice_line : IsBeside t x.advice_line
  pub orders : IsBeside t x.orders
  pub order_line : IsBeside t x.order_line
  pub reservation : IsBeside t x.reservation
  pub lot_expiry : IsBeside t x.lot_expiry

-- the tables in which a depositor's page stands among others
abbrev pub of_page : List TableRow → List TableRow → List TableRow → List TableRow → List ℕ → Others → PageFacts → AllTables
of_page book entry outgoing entry_rules t x p = eleven book entry outgoing
    (framed t x.stock (map stock_cells p.rows))
    (framed t x.advice (map advice_cells p.advices))
    (framed t x.advice_line (flat_map advice_line_cells p.advices))
    (framed t x.orders (map orders_cells p.orders))
    (framed t x.order_line (flat_map order_line_cells p.orders))
    (framed t x.reservation (flat_map reservation_cells p.orders))
    entry_rules
    (framed t x.lot_expiry (flat_map expiry_cells p.rows))

-- One table.

abbrev HasFirst : Schema → Type 0
HasFirst s = (t : List ℕ) (row : TableRow) → key_in s (Text t ∷ row) ≡ Text t ∷ rest_in 1 s row

put_framed : (s : Schema) → HasFirst s → (t : List ℕ) (x : Sides) (r : TableRow) (B : List TableRow) → IsBeside t x
    → put_row s (Text t ∷ r) (framed t x B) ≡ framed t x (put_by key_before (rest_in 1 s) r B)
put_framed s first t x r B beside = put_row_by s (Text t ∷ r) (framed t x B) ∙ put_within (key_in s) (rest_in 1 s) first t r x.front B x.back beside.below beside.above

puts_framed : (s : Schema) → HasFirst s → (t : List ℕ) (x : Sides) (rs B : List TableRow) → IsBeside t x
    → fold (λ (U : List TableRow) (r : TableRow). put_row s (Text t ∷ r) U) (framed t x B) rs
    ≡ framed t x (fold (λ (U : List TableRow) (r : TableRow). put_by key_before (rest_in 1 s) r U) B rs)
puts_framed s first t x rs B beside =
    folds_same s t rs (framed t x B) ∙ puts_within (key_in s) (rest_in 1 s) first t x.front B x.back rs beside.below beside.above

-- Stock.

pub stock_part : (t : List ℕ) (x : Sides) (r : LotRow) (rows : List LotRow) → IsBeside t x
    → put_row stock_schema (Text t ∷ stock_cells r) (framed t x (map stock_cells rows)) ≡ framed t x (map stock_cells (put_lot r rows))
stock_part t x r rows beside =
    put_framed stock_schema (λ u row. refl) t x (stock_cells r) (map stock_cells rows) beside
    ∙ ap (framed t x) (put_map pairs_in_order row_key (rest_in 1 stock_schema) stock_cells (λ a b. pairs_before a.item a.lot b.item b.lot) r rows)

-- Expiries: a row brings its date, and leaves the one that its pair has.

pub expiries_part : (t : List ℕ) (x : Sides) (r : LotRow) (rows : List LotRow) → IsBeside t x → IsSorted rows → KeepsDate (date_of_pair r.item r.lot rows) r.expiry
    → fold (λ (U : List TableRow) (q : TableRow). put_row lot_expiry_schema (Text t ∷ q) U) (framed t x (flat_map expiry_cells rows)) (expiry_cells r)
    ≡ framed t x (flat_map expiry_cells (put_lot r rows))
expiries_part t x r rows beside sorted kept =
    puts_framed lot_expiry_schema (λ u row. refl) t x (expiry_cells r) (flat_map expiry_cells rows) beside
    ∙ ap (framed t x) (by r.expiry refl)
  where
    by : (o : Option (List ℕ)) → r.expiry ≡ o
        → fold (λ (U : List TableRow) (q : TableRow). put_by key_before (rest_in 1 lot_expiry_schema) q U) (flat_map expiry_cells rows)
        (map (λ (date : List ℕ). Text r.item ∷ Text r.lot ∷ Text date ∷ []) (option_to_list o)) ≡ flat_map expiry_cells (put_lot r rows)
    by None is = cells_of rows ∙ ap (map date_cells) (undated_put r rows is kept sorted) ∙ sym (cells_of (put_lot r rows))
    by (Some date) is =
        ap (put_by key_before (rest_in 1 lot_expiry_schema) (date_cells (row_key r, date))) (cells_of rows)
        ∙ put_map pairs_in_order pair_dated (rest_in 1 lot_expiry_schema) date_cells (λ a b. pairs_before a.0.0 a.0.1 b.0.0 b.0.1) (row_key r, date) (dates_of rows)
        ∙ ap (map date_cells) (dated_put r date rows is sorted)
        ∙ sym (cells_of (put_lot r rows))

-- Advices.

pub advice_part : (t : List ℕ) (x : Sides) (k : PageAdvice) (ks : List PageAdvice) → IsBeside t x
    → put_row advice_schema (Text t ∷ advice_cells k) (framed t x (map advice_cells ks)) ≡ framed t x (map advice_cells (put_advice k ks))
advice_part t x k ks beside =
    put_framed advice_schema (λ u row. refl) t x (advice_cells k) (map advice_cells ks) beside
    ∙ ap (framed t x) (put_map comes_before shipment_of (rest_in 1 advice_schema) advice_cells (λ a b. last_cell (comes_before a.shipment b.shipment) (comes_before b.shipment a.shipment)) k ks)

abbrev line_cells : ℕ × Line → TableRow
line_cells p = Number p.0 ∷ Text p.1.item ∷ Text p.1.lot ∷ Number p.1.quantity ∷ []

abbrev line_rows : PageAdvice → List TableRow
line_rows a = map line_cells (enumerate_from 1 a.lines)

advice_block : (a : PageAdvice) → advice_line_cells a ≡ prefixed a.shipment (line_rows a)
advice_block a = map_prefixed a.shipment line_cells (enumerate_from 1 a.lines)

pub advice_lines_opened : (t : List ℕ) (x : Sides) (k : PageAdvice) (ks : List PageAdvice) → IsBeside t x → rises_by comes_before shipment_of ks ≡ true → advice_at k.shipment ks ≡ None
    → fold (λ (U : List TableRow) (r : TableRow). put_row advice_line_schema (Text t ∷ r) U) (framed t x (flat_map advice_line_cells ks)) (advice_line_cells k)
    ≡ framed t x (flat_map advice_line_cells (put_advice k ks))
advice_lines_opened t x k ks beside rises none =
    puts_framed advice_line_schema (λ u row. refl) t x (advice_line_cells k) (flat_map advice_line_cells ks) beside
    ∙ ap (framed t x) (cells_opened (rest_in 1 advice_line_schema) (rest_in 2 advice_line_schema) (λ u row. refl) shipment_of line_rows advice_line_cells advice_block
    (is_shipment k.shipment) k ks (shipment_test k.shipment) rises none (puts_numbered (rest_in 2 advice_line_schema) line_cells (λ p. refl) 1 k.lines))

pub advice_lines_kept : (t : List ℕ) (x : Sides) (k a : PageAdvice) (ks : List PageAdvice) → rises_by comes_before shipment_of ks ≡ true → advice_at k.shipment ks ≡ Some a → k ≡ closed_advice a
    → framed t x (flat_map advice_line_cells ks) ≡ framed t x (flat_map advice_line_cells (put_advice k ks))
advice_lines_kept t x k a ks rises some closed =
    ap (framed t x) (cells_kept (rest_in 1 advice_line_schema) (rest_in 2 advice_line_schema) (λ u row. refl) shipment_of line_rows advice_line_cells advice_block
    (is_shipment k.shipment) k a ks (shipment_test k.shipment) rises some (sym (ap (λ (z : PageAdvice). z.shipment) closed)) (sym (ap line_rows closed)))

-- Orders.

pub orders_part : (t : List ℕ) (x : Sides) (k : PageOrder) (ks : List PageOrder) → IsBeside t x
    → put_row orders_schema (Text t ∷ orders_cells k) (framed t x (map orders_cells ks)) ≡ framed t x (map orders_cells (put_order k ks))
orders_part t x k ks beside =
    put_framed orders_schema (λ u row. refl) t x (orders_cells k) (map orders_cells ks) beside
    ∙ ap (framed t x) (put_map comes_before number_of (rest_in 1 orders_schema) orders_cells by_number k ks)
  where
    key_is : (a : PageOrder) → rest_in 1 orders_schema (orders_cells a) ≡ Text a.number ∷ []
    key_is a = by a.address
      where
        by : (o : _) → rest_in 1 orders_schema (orders_cells (record a { address = o })) ≡ Text a.number ∷ []
        by None = refl
        by (Some address) = refl

    by_number : (a b : PageOrder) → key_before (rest_in 1 orders_schema (orders_cells a)) (rest_in 1 orders_schema (orders_cells b)) ≡ comes_before a.number b.number
    by_number a b = (λ i. key_before (key_is a i) (key_is b i)) ∙ last_cell (comes_before a.number b.number) (comes_before b.number a.number)

abbrev order_cells : ℕ × PageLine → TableRow
order_cells p = Number p.0 ∷ Text p.1.item ∷ text_or_null p.1.pin ∷ Number p.1.quantity ∷ []

abbrev order_rows : PageOrder → List TableRow
order_rows o = map order_cells (enumerate_from 1 o.lines)

order_block : (o : PageOrder) → order_line_cells o ≡ prefixed o.number (order_rows o)
order_block o = map_prefixed o.number order_cells (enumerate_from 1 o.lines)

pub order_lines_opened : (t : List ℕ) (x : Sides) (k : PageOrder) (ks : List PageOrder) → IsBeside t x → rises_by comes_before number_of ks ≡ true → order_at k.number ks ≡ None
    → fold (λ (U : List TableRow) (r : TableRow). put_row order_line_schema (Text t ∷ r) U) (framed t x (flat_map order_line_cells ks)) (order_line_cells k)
    ≡ framed t x (flat_map order_line_cells (put_order k ks))
order_lines_opened t x k ks beside rises none =
    puts_framed order_line_schema (λ u row. refl) t x (order_line_cells k) (flat_map order_line_cells ks) beside
    ∙ ap (framed t x) (cells_opened (rest_in 1 order_line_schema) (rest_in 2 order_line_schema) (λ u row. refl) number_of order_rows order_line_cells order_block
    (is_number k.number) k ks (number_test k.number) rises none (puts_numbered (rest_in 2 order_line_schema) order_cells (λ p. refl) 1 k.lines))

pub order_lines_kept : (t : List ℕ) (x : Sides) (k o : PageOrder) (ks : List PageOrder) → rises_by comes_before number_of ks ≡ true → order_at k.number ks ≡ Some o → k ≡ closed_order o
    → framed t x (flat_map order_line_cells ks) ≡ framed t x (flat_map order_line_cells (put_order k ks))
order_lines_kept t x k o ks rises some closed =
    ap (framed t x) (cells_kept (rest_in 1 order_line_schema) (rest_in 2 order_line_schema) (λ u row. refl) number_of order_rows order_line_cells order_block
    (is_number k.number) k o ks (number_test k.number) rises some (sym (ap (λ (z : PageOrder). z.number) closed)) (sym (ap order_rows closed)))

-- Reservations.

abbrev share_cells : Line → TableRow
share_cells l = Text l.item ∷ Text l.lot ∷ Number l.quantity ∷ []

abbrev share_rows : PageOrder → List TableRow
share_rows o = map share_cells o.reserved

share_block : (o : PageOrder) → reservation_cells o ≡ prefixed o.number (share_rows o)
share_block o = map_prefixed o.number share_cells o.reserved

pub reservations_opened : (t : List ℕ) (x : Sides) (k : PageOrder) (ks : List PageOrder) → IsBeside t x → rises_by comes_before number_of ks ≡ true → order_at k.number ks ≡ None
    → rises_by pairs_in_order pair_of k.reserved ≡ true
    → fold (λ (U : List TableRow) (r : TableRow). put_row reservation_schema (Text t ∷ r) U) (framed t x (flat_map reservation_cells ks)) (reservation_cells k)
    ≡ framed t x (flat_map reservation_cells (put_order k ks))
reservations_opened t x k ks beside rises none in_turn =
    puts_framed reservation_schema (λ u row. refl) t x (reservation_cells k) (flat_map reservation_cells ks) beside
    ∙ ap (framed t x) (cells_opened (rest_in 1 reservation_schema) (rest_in 2 reservation_schema) (λ u row. refl) number_of share_rows reservation_cells share_block
    (is_number k.number) k ks (number_test k.number) rises none
    (puts_all pairs_in_order pairs_strict pair_of (rest_in 2 reservation_schema) share_cells (λ a b. pairs_before a.item a.lot b.item b.lot) k.reserved in_turn))

pub text_apart : (s t : List ℕ) → (comes_before s t ≡ true) ⊎ (comes_before t s ≡ true) → bytes_eq s t ≡ false
text_apart s t h = elim (cases_Bool (bytes_eq s t)) [
  | inl e ↦
      let same = text_is s t e in
      elim h [
        | inl a ↦ absurd (both_ways (comes_before t t) (texts_never t) (ap (λ (u : List ℕ). comes_before u t) (sym same) ∙ a))
        | inr b ↦ absurd (both_ways (comes_before t t) (texts_never t) (ap (comes_before t) (sym same) ∙ b))
      ]
  | inr e ↦ e
]

abbrev pub stays : List ℕ → List ℕ → TableRow → Bool
stays t n row = not (is_reserved_for t n row)

stays_apart : (s t n : List ℕ) (q : TableRow) → bytes_eq s t ≡ false → stays t n (Text s ∷ q) ≡ true
stays_apart s t n [] h = refl
stays_apart s t n (Text o ∷ q) h = λ i. not (h i && bytes_eq o n)
stays_apart s t n (Null ∷ q) h = refl
stays_apart s t n (Number m ∷ q) h = refl
stays_apart s t n (Blob b ∷ q) h = refl

pub reservations_freed : (t : List ℕ) (x : Sides) (k o : PageOrder) (ks : List PageOrder) → IsBeside t x → rises_by comes_before number_of ks ≡ true → order_at k.number ks ≡ Some o → k ≡ closed_order o
    → filter (stays t k.number) (framed t x (flat_map reservation_cells ks)) ≡ framed t x (flat_map reservation_cells (put_order k ks))
reservations_freed t x k o ks beside rises some closed =
    filter_within (stays t k.number) t x.front (flat_map reservation_cells ks) x.back (λ s r h. stays_apart s t k.number r (text_apart s t h)) beside.below beside.above
    ∙ ap (framed t x)
    (ap (filter own) (cells_blocks (rest_in 1 reservation_schema) (rest_in 2 reservation_schema) (λ u row. refl) number_of share_rows reservation_cells share_block ks)
    ∙ block_freed own number_of share_rows (is_number k.number) k o ks (number_test k.number) rises some (sym (ap (λ (z : PageOrder). z.number) closed)) (ap share_rows closed)
    (λ s r h. λ i. not (same_text t i && text_apart s k.number h i)) (λ r. λ i. not (same_text t i && same_text k.number i))
    ∙ sym (cells_blocks (rest_in 1 reservation_schema) (rest_in 2 reservation_schema) (λ u row. refl) number_of share_rows reservation_cells share_block (put_order k ks)))
  where
    own : TableRow → Bool
    own r = stays t k.number (Text t ∷ r)
