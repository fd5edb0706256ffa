-- The rows of stock under a depositor and an item are the lots of that item on its page, and those
-- of `lot_expiry` their dates.
use Rattle.std.proofs.Common.{◌≡◌, ◌∙◌, inl, inr, ℕ, List, [], ◌∷◌, ◌++◌, map, filter, flat_map, cond, Bool, true, false, bytes_eq, None, Some, Option, IsTrue, refl, sym, ap}
use Rattle.std.specs.Prelude.{option_to_list}
use Rattle.sqlite.specs.State.{State, IsLive}
use Rattle.sqlite.specs.declared.types.Value.TheVariants as value
use Rattle.sqlite.specs.Order.{Row}
use Rattle.sqlite.specs.Effect.{Database, IsDatabase}
use Rattle.definitions.specs.Rules.{Today}
use Rattle.definitions.specs.Header.{Who, is_partner, who_text}
use Rattle.definitions.specs.Register.{Entry, own}
use Rattle.definitions.specs.History.{events}
use Rattle.definitions.specs.Accepted.{IsLegal}
use Rattle.definitions.specs.Page.{page_of}
use Rattle.definitions.specs.Rows.{LotRow, running_rows}
use Rattle.definitions.specs.Tables.{Text, TableRow, stock_cells, stock_table, expiry_cells, lot_expiry_table}
use Rattle.definitions.specs.Schema.{stock_schema, lot_expiry_schema}
use Rattle.rules.specs.Keyed.{rises_by, row_key, key_before as pairs_in_order}
use Rattle.std.specs.List.{list_all}
use Rattle.rules.specs.Fitting.{is_fitting_row}
use Rattle.rules.proofs.Fits.{page_fits}
use Rattle.rules.proofs.Keys.{all_filter}
use Rattle.book_statements.specs.Asking.{Finds}
use Rattle.book_statements.specs.Exits.{StandsWhileOpen}
use Rattle.book_statements.specs.Layout.{stock_layout, lot_expiry_layout, book_trees, expiry_tree}
use Rattle.book_statements.specs.Dated.{Dated, date_shown, dates_of}
use Rattle.book_tables.specs.Showing.{lot_shown}
use Rattle.book_statements.specs.declared.names.TableName.TheVariants.{Stock, LotExpiry}
use Rattle.book_statements.specs.Standing.{StandsSecond, AreOrdered, filled}
use Rattle.book_statements.proofs.Asked.{found, found_placed}
use Rattle.book_tables.proofs.Finding.{rises_kept}
use Rattle.book_statements.proofs.HoldsLemmas.{are_keyed}
use Rattle.book_statements.proofs.NeedTexts.{lots_text, lots_is, lots_reads, dates_text, dates_query, dates_reads}
use Rattle.book_statements.proofs.ShowingTexts.{lots_columns, dates_columns, dates_names, pair_order}
use Rattle.book_statements.proofs.ExpiryReads.{dates_is}
use Rattle.book_statements.proofs.Ordered.{all_ordered, lots_rise}
use Rattle.book_statements.proofs.DateLemmas.{date_cells, date_key, dates_in, dates_rise}
use Rattle.book_tables.proofs.ShownRows.{lot_out, date_out, pairs_ranked, same_pair}
use Rattle.book_tables.proofs.Under.{IsUnder, all_rows}
use Rattle.book_tables.proofs.UnderKey.{equal_bytes}
use Rattle.book_tables.proofs.UnderTables.{cells_under}
use Rattle.book_statements.proofs.UpsertLemmas.{only_row}

abbrev lot_cells : Who → LotRow → TableRow
lot_cells who r = Text (who_text who) ∷ stock_cells r

lots_under : (W : Who) (L : List Entry) (who : Who) (item : List ℕ) → IsLegal Today W L → is_partner who ≡ true
    → IsUnder 2 (lot_cells who) 6 lots_columns pair_order lot_out (value.Text (who_text who)) (value.Text item) (stock_table L) (filter (λ r. bytes_eq r.item item) (running_rows (events (own L who))))
lots_under W L who item legal partner =
    cells_under W L who legal partner (λ M. map stock_cells (running_rows (events M))) refl stock_cells (running_rows (events (own L who))) refl (λ r. bytes_eq r.item item) (value.Text item) 2 (λ id m. equal_bytes m.item item)
    6 lots_columns pair_order lot_out (λ db. refl) (λ id m. refl)

pub lots_found : (W : Who) (L : List Entry) (who : Who) (item : List ℕ) (db : Database) (rows : List Row) → is_partner who ≡ true → IsDatabase db → StandsSecond W L db
    → Finds lots_text (value.Text (who_text who) ∷ value.Text item ∷ []) db rows → rows ≡ map lot_shown (filter (λ r. bytes_eq r.item item) (page_of (own L who)).rows)
lots_found W L who item db rows partner sound stands h =
    let read = found lots_text (value.Text (who_text who) ∷ value.Text item ∷ []) db rows _ stands.schema lots_reads lots_is h in
    let held = stands.rows in
    let lies = stands.schema in
    let ordered : AreOrdered (filled W L) = all_ordered W L in
    all_rows 2 (lot_cells who) 6 lots_columns pair_order lot_out (value.Text (who_text who)) (value.Text item) (stock_table L) (filter (λ r. bytes_eq r.item item) (running_rows (events (own L who))))
    (lots_under W L who item stands.legal partner) db.trees (held Stock) rows (read.answer value.Null)
    pairs_in_order row_key 3 (rises_kept pairs_in_order row_key (λ r. bytes_eq r.item item) (running_rows (events (own L who))) (lots_rise (events (own L who))))
    (λ a b. pairs_ranked a.item a.lot b.item b.lot)
    (λ a b. same_pair (who_text who) a.item b.item a.lot b.lot)
    (only_row db.schema lies stock_layout.name 6 3 stock_layout.checks stock_layout.columns db.trees (inr (inr (inr (inl refl)))) sound (are_keyed stock_schema 3 (stock_table L) (db.trees 6) (ordered.each Stock) (held Stock)))

-- The dates of the item's lots.

-- the dates of the rows that pass are those of them that pass
dates_kept : (item : List ℕ) (rows : List LotRow) → filter (λ (d : Dated). bytes_eq d.item item) (dates_of rows) ≡ dates_of (filter (λ (r : LotRow). bytes_eq r.item item) rows)
dates_kept item [] = refl
dates_kept item (r ∷ rows) = by r.expiry (bytes_eq r.item item) refl (dates_kept item rows)
  where
    rest : List Dated
    rest = filter (λ (d : Dated). bytes_eq d.item item) (dates_of rows)

    kept : List LotRow
    kept = filter (λ (s : LotRow). bytes_eq s.item item) rows

    by : (o : Option (List ℕ)) (b : Bool) → bytes_eq r.item item ≡ b → filter (λ (d : Dated). bytes_eq d.item item) (dates_of rows) ≡ dates_of (filter (λ (s : LotRow). bytes_eq s.item item) rows)
        → filter (λ (d : Dated). bytes_eq d.item item) (map (λ date. record { item = r.item; lot = r.lot; expiry = date }) (option_to_list o) ++ dates_of rows)
        ≡ dates_of (cond (bytes_eq r.item item) (record r { expiry = o } ∷ kept) kept)
    by None true h later = later ∙ sym (ap (λ (b : Bool). dates_of (cond b (record r { expiry = None } ∷ kept) kept)) h)
    by None false h later = later ∙ sym (ap (λ (b : Bool). dates_of (cond b (record r { expiry = None } ∷ kept) kept)) h)
    by (Some date) true h later =
        ap (λ (b : Bool). cond b (record { item = r.item; lot = r.lot; expiry = date } ∷ rest) rest) h ∙ ap (λ (ds : List Dated). record { item = r.item; lot = r.lot; expiry = date } ∷ ds) later
        ∙ sym (ap (λ (b : Bool). dates_of (cond b (record r { expiry = Some date } ∷ kept) kept)) h)
    by (Some date) false h later =
        ap (λ (b : Bool). cond b (record { item = r.item; lot = r.lot; expiry = date } ∷ rest) rest) h ∙ later ∙ sym (ap (λ (b : Bool). dates_of (cond b (record r { expiry = Some date } ∷ kept) kept)) h)

abbrev of_item : List ℕ → List LotRow → List Dated
of_item item rows = filter (λ (d : Dated). bytes_eq d.item item) (dates_of rows)

dates_under : (W : Who) (L : List Entry) (who : Who) (item : List ℕ) → IsLegal Today W L → is_partner who ≡ true
    → IsUnder 2 (λ (d : Dated). Text (who_text who) ∷ date_cells d) 19 dates_columns pair_order date_out (value.Text (who_text who)) (value.Text item) (lot_expiry_table L) (of_item item (running_rows (events (own L who))))
dates_under W L who item legal partner =
    cells_under W L who legal partner (λ M. flat_map expiry_cells (running_rows (events M))) refl date_cells (dates_of (running_rows (events (own L who)))) (dates_in (running_rows (events (own L who))))
    (λ d. bytes_eq d.item item) (value.Text item) 2 (λ id d. equal_bytes d.item item) 19 dates_columns pair_order date_out (λ db. refl) (λ id d. refl)

pub dates_found : (W : Who) (L : List Entry) (who : Who) (item : List ℕ) (db : Database) (rows : List Row) → is_partner who ≡ true → IsDatabase db → StandsSecond W L db
    → Finds dates_text (value.Text (who_text who) ∷ value.Text item ∷ []) db rows → rows ≡ map date_shown (dates_of (filter (λ r. bytes_eq r.item item) (page_of (own L who)).rows))
dates_found W L who item db rows partner sound stands h =
    let held = stands.rows in
    let lies = stands.schema in
    let answer = found_placed dates_text (value.Text (who_text who) ∷ value.Text item ∷ []) db rows dates_query dates_names 19 dates_reads (dates_is db.schema lies.expiry_place (expiry_tree db.schema) lies.expiry) h in
    let ordered : AreOrdered (filled W L) = all_ordered W L in
    let lots = running_rows (events (own L who)) in
    all_rows 2 (λ (d : Dated). Text (who_text who) ∷ date_cells d) 19 dates_columns pair_order date_out (value.Text (who_text who)) (value.Text item) (lot_expiry_table L) (of_item item lots)
    (dates_under W L who item stands.legal partner) (book_trees db) (held LotExpiry) rows answer
    pairs_in_order date_key 3 (rises_kept pairs_in_order date_key (λ d. bytes_eq d.item item) (dates_of lots) (dates_rise lots (lots_rise (events (own L who)))))
    (λ a b. pairs_ranked a.item a.lot b.item b.lot)
    (λ a b. same_pair (who_text who) a.item b.item a.lot b.lot)
    (only_row db.schema lies lot_expiry_layout.name (expiry_tree db.schema) 3 [] lot_expiry_layout.columns db.trees (inr (inr (inr (inr (inr (inr (inr (inr (inr (inr (inl refl))))))))))) sound
    (are_keyed lot_expiry_schema 3 (lot_expiry_table L) (book_trees db 19) (ordered.each LotExpiry) (held LotExpiry)))
    ∙ ap (map date_shown) (dates_kept item lots)

-- what rows were read as, of tables that stand while they are open
pub lots_read : (old mid : State) (W : Who) (L : List Entry) (who : Who) (item : List ℕ) → IsTrue (is_partner who) → IsLive old → IsLive mid → StandsWhileOpen old W L → StandsWhileOpen mid W L → (rows dates : List Row)
    → IsTrue old.is_open × Finds lots_text (value.Text (who_text who) ∷ value.Text item ∷ []) old.now rows → IsTrue mid.is_open × Finds dates_text (value.Text (who_text who) ∷ value.Text item ∷ []) mid.now dates → (read : Option (List LotRow))
    → ((rs : List LotRow) → list_all is_fitting_row rs ≡ true → rises_by pairs_in_order row_key rs ≡ true → rows ≡ map lot_shown rs → dates ≡ map date_shown (dates_of rs) → read ≡ Some rs)
    → read ≡ Some (filter (λ r. bytes_eq r.item item) (page_of (own L who)).rows)
lots_read old mid W L who item partner live mid_live stands mid_stands rows dates finds dated read right =
    let here = stands finds.0 in
    right _ (all_filter is_fitting_row (λ (r : LotRow). bytes_eq r.item item) (page_of (own L who)).rows ((page_fits Today W L who here.legal).rows))
    (rises_kept pairs_in_order row_key (λ r. bytes_eq r.item item) (running_rows (events (own L who))) (lots_rise (events (own L who))))
    (lots_found W L who item old.now rows partner (live finds.0).0 here finds.1) (dates_found W L who item mid.now dates partner (mid_live dated.0).0 (mid_stands dated.0) dated.1)
