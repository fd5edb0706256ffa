-- The rows of an order, of its lines and of what is reserved for it, under a depositor and a
-- number, are the order of its page under that.
use Rattle.std.proofs.Common.{◌≡◌, inl, inr, ℕ, ℤ, pos, List, [], ◌∷◌, map, filter, true, None, Some, Option, IsTrue, refl, sym, ap, ◌∙◌}
use Rattle.std.specs.Prelude.{nat_lt, find}
use Rattle.std.specs.List.{enumerate_from}
use Rattle.sqlite.specs.State.{State, IsLive}
use Rattle.sqlite.specs.declared.types.Value.TheVariants as value
use Rattle.sqlite.specs.Order.{Row}
use Rattle.sqlite.specs.Effect.{Database, IsDatabase}
use Rattle.sqlite.specs.Query.{Output, output}
use Rattle.sqlite_rules.specs.Lists.{Has}
use Rattle.sqlite_rules.proofs.ListLemmas.{has_found}
use Rattle.sqlite_rules.proofs.ProbeLemmas.{has_mapped}
use Rattle.definitions.specs.Rules.{Today}
use Rattle.definitions.specs.Header.{Who, is_partner, who_text}
use Rattle.definitions.specs.Means.{Line, Address}
use Rattle.definitions.specs.Register.{Entry, own}
use Rattle.definitions.specs.History.{events}
use Rattle.definitions.specs.Accepted.{IsLegal}
use Rattle.definitions.specs.Page.{PageLine, PageOrder, orders_of, page_order, page_orders, page_of}
use Rattle.definitions.specs.Tables.{Text, TableRow, orders_cells, orders_rows, orders_table, order_line_rows, order_line_table, reservation_rows, reservation_table}
use Rattle.definitions.specs.Schema.{order_line_schema, reservation_schema}
use Rattle.definitions.specs.Bytes.{comes_before}
use Rattle.definitions.proofs.TextLaws.{text_is as bytes_same}
use Rattle.rules.specs.Keyed.{number_of, key_before as pairs_in_order, rises_by}
use Rattle.rules.specs.Pages.{order_at, is_number}
use Rattle.rules.proofs.KeyLemmas.{texts_strict}
use Rattle.std.specs.List.{list_all}
use Rattle.rules.specs.Fitting.{is_fitting_line, is_fitting_ordered}
use Rattle.rules.proofs.Fits.{page_fits}
use Rattle.book_tables.proofs.Fits.{ordered_fit, reserved_fit}
use Rattle.book_statements.specs.Asking.{Finds}
use Rattle.book_statements.specs.Exits.{StandsWhileOpen}
use Rattle.book_statements.specs.Held.{values}
use Rattle.book_statements.specs.Layout.{order_line_layout, reservation_layout}
use Rattle.book_tables.specs.Looking.{lines_ordered, lines_reserved}
use Rattle.book_tables.specs.Showing.{order_shown, order_line_shown, line_shown}
use Rattle.book_statements.specs.declared.names.TableName.TheVariants.{Orders, OrderLine, Reservation}
use Rattle.book_statements.specs.Standing.{StandsSecond, AreOrdered, filled}
use Rattle.book_statements.proofs.Asked.{found}
use Rattle.book_tables.proofs.Finding.{no_row, first_row, one_key, second_of}
use Rattle.book_statements.proofs.HoldsLemmas.{are_keyed}
use Rattle.book_statements.proofs.NeedTexts.{order_text, order_columns, order_is, order_reads, order_lines_text, order_lines_is, order_lines_reads, line_columns, line_order, reserved_text, reserved_columns, reserved_order, reserved_is, reserved_reads, under_where}
use Rattle.book_statements.proofs.Ordered.{all_ordered, orders_rise, ordered_cells, reserved_cells, reserved_rise, line_pair}
use Rattle.book_statements.proofs.Rising.{numbers_rise}
use Rattle.book_tables.proofs.ShownRows.{numbers_ranked, number_is, pairs_ranked, same_pair}
use Rattle.book_tables.proofs.Under.{IsUnder, each_row, has_row, all_rows}
use Rattle.book_tables.proofs.UnderKey.{equal_bytes}
use Rattle.book_tables.proofs.UnderTables.{cells_under, parts_under}
use Rattle.book_statements.proofs.UpsertLemmas.{only_row}

-- The order.

abbrev order_out : PageOrder → Output
order_out a = ([], order_shown a)

abbrev orders : List Entry → Who → List PageOrder
orders L who = page_orders (events (own L who))

abbrev ordered_row : Who → PageOrder → TableRow
ordered_row who a = Text (who_text who) ∷ orders_cells a

order_puts : (who number : List ℕ) (id : ℤ) (o : PageOrder) → output (under_where 12 order_columns []) ((value.Text who ∷ value.Text number ∷ []) ∷ (value.Int id ∷ values (Text who ∷ orders_cells o)) ∷ []) ≡ order_out o
order_puts who number id o = by o.address
  where
    by : (a : Option Address) → output (under_where 12 order_columns []) ((value.Text who ∷ value.Text number ∷ []) ∷ (value.Int id ∷ values (Text who ∷ orders_cells (record o { address = a }))) ∷ []) ≡ order_out (record o { address = a })
    by None = refl
    by (Some a) = refl

order_under : (W : Who) (L : List Entry) (who : Who) (number : List ℕ) → IsLegal Today W L → is_partner who ≡ true
    → IsUnder 2 (ordered_row who) 12 order_columns [] order_out (value.Text (who_text who)) (value.Text number) (orders_table L) (filter (is_number number) (orders L who))
order_under W L who number legal partner =
    cells_under W L who legal partner orders_rows refl orders_cells (orders L who) refl (is_number number) (value.Text number) 2 (λ id a. equal_bytes a.number number)
    12 order_columns [] order_out (λ db. refl) (order_puts (who_text who) number)

module _ (old : State) (W : Who) (L : List Entry) (who : Who) (number : List ℕ) (partner : IsTrue (is_partner who)) (stands : StandsWhileOpen old W L)
    (rows : List Row) (finds : IsTrue old.is_open × Finds order_text (value.Text (who_text who) ∷ value.Text number ∷ []) old.now rows) where
  here : StandsSecond W L old.now
  here = stands finds.0

  one : (a b : PageOrder) → Has (orders L who) a → Has (orders L who) b → is_number number a ≡ true → is_number number b ≡ true → a ≡ b
  one a b h g p q = one_key comes_before number_of texts_strict (orders L who) a b (orders_rise (events (own L who))) h g (bytes_same a.number number p ∙ sym (bytes_same b.number number q))

  each : (row : Row) → Has rows row → (a : PageOrder) × Has (filter (is_number number) (orders L who)) a × (row ≡ order_shown a)
  each =
      let held = here.rows in
      let read = found order_text (value.Text (who_text who) ∷ value.Text number ∷ []) old.now rows _ here.schema order_reads order_is finds.1 in
      each_row 2 (ordered_row who) 12 order_columns [] order_out (value.Text (who_text who)) (value.Text number) (orders_table L) (filter (is_number number) (orders L who)) (order_under W L who number here.legal partner) old.now.trees (held Orders) rows (read.answer value.Null)

  there : (a : PageOrder) → Has (filter (is_number number) (orders L who)) a → Has rows (order_shown a)
  there =
      let held = here.rows in
      let read = found order_text (value.Text (who_text who) ∷ value.Text number ∷ []) old.now rows _ here.schema order_reads order_is finds.1 in
      has_row 2 (ordered_row who) 12 order_columns [] order_out (value.Text (who_text who)) (value.Text number) (orders_table L) (filter (is_number number) (orders L who)) (order_under W L who number here.legal partner) old.now.trees (held Orders) rows (read.answer value.Null)

  pub no_order : rows ≡ [] → order_at number (page_of (own L who)).orders ≡ None
  no_order = no_row (is_number number) (orders L who) order_shown rows each there one

  pub first_order : (row : Row) (more : List Row) → rows ≡ row ∷ more → (a : PageOrder) × (order_at number (page_of (own L who)).orders ≡ Some a) × (row ≡ order_shown a)
  first_order = first_row (is_number number) (orders L who) order_shown rows each there one

-- Its lines.

abbrev line_out : ℕ × PageLine → Output
line_out p = (value.Int (pos p.0) ∷ [], order_line_shown p.1)

abbrev line_cells : Who → List ℕ → ℕ × PageLine → TableRow
line_cells who number p = Text (who_text who) ∷ Text number ∷ ordered_cells p

abbrev its_lines : List Entry → Who → List ℕ → List PageLine
its_lines L who number = lines_ordered (order_at number (page_of (own L who)).orders)

lines_under : (W : Who) (L : List Entry) (who : Who) (number : List ℕ) → IsLegal Today W L → is_partner who ≡ true
    → IsUnder 2 (line_cells who number) 14 line_columns line_order line_out (value.Text (who_text who)) (value.Text number) (order_line_table L) (enumerate_from 1 (its_lines L who number))
lines_under W L who number legal partner =
    parts_under W L who legal partner order_line_rows refl number_of (λ (a : PageOrder). enumerate_from 1 a.lines) ordered_cells (orders L who) refl (orders_rise (events (own L who))) number
    14 line_columns line_order line_out (λ db. refl) (λ id p. refl) (λ (o : Option PageOrder). enumerate_from 1 (lines_ordered o)) refl (λ a. refl)

pub ordered_found : (W : Who) (L : List Entry) (who : Who) (number : List ℕ) (db : Database) (rows : List Row) → is_partner who ≡ true → IsDatabase db → StandsSecond W L db
    → Finds order_lines_text (value.Text (who_text who) ∷ value.Text number ∷ []) db rows → rows ≡ map order_line_shown (its_lines L who number)
ordered_found W L who number db rows partner sound stands h =
    let read = found order_lines_text (value.Text (who_text who) ∷ value.Text number ∷ []) db rows _ stands.schema order_lines_reads order_lines_is h in
    let held = stands.rows in
    let lies = stands.schema in
    let ordered : AreOrdered (filled W L) = all_ordered W L in
    all_rows 2 (line_cells who number) 14 line_columns line_order line_out (value.Text (who_text who)) (value.Text number) (order_line_table L) (enumerate_from 1 (its_lines L who number))
    (lines_under W L who number stands.legal partner) db.trees (held OrderLine) rows (read.answer value.Null)
    nat_lt (λ (p : ℕ × PageLine). p.0) 3 (numbers_rise 1 (its_lines L who number)) (λ a b. numbers_ranked a.0 b.0)
    (λ a b t. let same = number_is a.0 b.0 t in λ i. value.Text (who_text who) ∷ value.Text number ∷ value.Int (pos (same i)) ∷ [])
    (only_row db.schema lies order_line_layout.name 14 3 order_line_layout.checks order_line_layout.columns db.trees (inr (inr (inr (inr (inr (inr (inr (inl refl)))))))) sound
    (are_keyed order_line_schema 3 (order_line_table L) (db.trees 14) (ordered.each OrderLine) (held OrderLine)))
    ∙ second_of order_line_shown 1 (its_lines L who number)

pub ordered_read : (old : State) (W : Who) (L : List Entry) (who : Who) (number : List ℕ) → IsTrue (is_partner who) → IsLive old → StandsWhileOpen old W L → (rows : List Row)
    → IsTrue old.is_open × Finds order_lines_text (value.Text (who_text who) ∷ value.Text number ∷ []) old.now rows → (read : Option (List PageLine)) → ((ls : List PageLine) → list_all (is_fitting_ordered Today) ls ≡ true → rows ≡ map order_line_shown ls → read ≡ Some ls)
    → read ≡ Some (lines_ordered (order_at number (page_of (own L who)).orders))
ordered_read old W L who number partner live stands rows finds read right =
    let here = stands finds.0 in
    right _ (ordered_fit number (page_of (own L who)).orders (page_fits Today W L who here.legal).orders) (ordered_found W L who number old.now rows partner (live finds.0).0 here finds.1)

-- What is reserved for it.

abbrev reserved_out : Line → Output
reserved_out l = (value.Text l.item ∷ value.Text l.lot ∷ [], line_shown l)

abbrev share_cells : Who → List ℕ → Line → TableRow
share_cells who number l = Text (who_text who) ∷ Text number ∷ reserved_cells l

abbrev its_shares : List Entry → Who → List ℕ → List Line
its_shares L who number = lines_reserved (order_at number (page_of (own L who)).orders)

shares_under : (W : Who) (L : List Entry) (who : Who) (number : List ℕ) → IsLegal Today W L → is_partner who ≡ true
    → IsUnder 2 (share_cells who number) 16 reserved_columns reserved_order reserved_out (value.Text (who_text who)) (value.Text number) (reservation_table L) (its_shares L who number)
shares_under W L who number legal partner =
    parts_under W L who legal partner reservation_rows refl number_of (λ (o : PageOrder). o.reserved) reserved_cells (orders L who) refl (orders_rise (events (own L who))) number
    16 reserved_columns reserved_order reserved_out (λ db. refl) (λ id l. refl) lines_reserved refl (λ o. refl)

shares_rise : (L : List Entry) (who : Who) (number : List ℕ) (o : Option PageOrder) → find (is_number number) (orders L who) ≡ o → rises_by pairs_in_order line_pair (lines_reserved o) ≡ true
shares_rise L who number None e = refl
shares_rise L who number (Some o) e =
    let it = has_found (is_number number) (orders L who) o e in
    let at = has_mapped (page_order (events (own L who))) (orders_of (events (own L who))) o it.0 in
    ap (λ (p : PageOrder). rises_by pairs_in_order line_pair p.reserved) at.2 ∙ reserved_rise (events (own L who)) at.0

pub reserved_found : (W : Who) (L : List Entry) (who : Who) (number : List ℕ) (db : Database) (rows : List Row) → is_partner who ≡ true → IsDatabase db → StandsSecond W L db
    → Finds reserved_text (value.Text (who_text who) ∷ value.Text number ∷ []) db rows → rows ≡ map line_shown (its_shares L who number)
reserved_found W L who number db rows partner sound stands h =
    let read = found reserved_text (value.Text (who_text who) ∷ value.Text number ∷ []) db rows _ stands.schema reserved_reads reserved_is h in
    let held = stands.rows in
    let lies = stands.schema in
    let ordered : AreOrdered (filled W L) = all_ordered W L in
    all_rows 2 (share_cells who number) 16 reserved_columns reserved_order reserved_out (value.Text (who_text who)) (value.Text number) (reservation_table L) (its_shares L who number)
    (shares_under W L who number stands.legal partner) db.trees (held Reservation) rows (read.answer value.Null)
    pairs_in_order line_pair 4 (shares_rise L who number (order_at number (page_of (own L who)).orders) refl) (λ a b. pairs_ranked a.item a.lot b.item b.lot)
    (λ a b t. ap (λ (r : Row). value.Text (who_text who) ∷ r) (same_pair number a.item b.item a.lot b.lot t))
    (only_row db.schema lies reservation_layout.name 16 4 reservation_layout.checks reservation_layout.columns db.trees (inr (inr (inr (inr (inr (inr (inr (inr (inl refl))))))))) sound
    (are_keyed reservation_schema 4 (reservation_table L) (db.trees 16) (ordered.each Reservation) (held Reservation)))

pub reserved_read : (old : State) (W : Who) (L : List Entry) (who : Who) (number : List ℕ) → IsTrue (is_partner who) → IsLive old → StandsWhileOpen old W L → (rows : List Row)
    → IsTrue old.is_open × Finds reserved_text (value.Text (who_text who) ∷ value.Text number ∷ []) old.now rows → (read : Option (List Line)) → ((ls : List Line) → list_all (is_fitting_line Today) ls ≡ true → rows ≡ map line_shown ls → read ≡ Some ls)
    → read ≡ Some (lines_reserved (order_at number (page_of (own L who)).orders))
reserved_read old W L who number partner live stands rows finds read right =
    let here = stands finds.0 in
    right _ (reserved_fit number (page_of (own L who)).orders (page_fits Today W L who here.legal).orders) (reserved_found W L who number old.now rows partner (live finds.0).0 here finds.1)
