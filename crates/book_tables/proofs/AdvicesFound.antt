-- The rows of advice and of its lines under a depositor and a shipment number are the advice of its
-- page under that.
use Rattle.std.proofs.Common.{◌≡◌, inl, inr, ℕ, pos, List, [], ◌∷◌, map, filter, true, None, Some, Option, IsTrue, refl, sym, ◌∙◌}
use Rattle.std.specs.Prelude.{nat_lt}
use Rattle.std.specs.List.{enumerate_from}
use Rattle.sqlite.specs.State.{State, IsLive}
use Rattle.sqlite.specs.declared.types.Value.TheVariants as value
use Rattle.sqlite.specs.Order.{Row}
use Rattle.sqlite.specs.Effect.{Database, IsDatabase}
use Rattle.sqlite.specs.Query.{Output}
use Rattle.sqlite_rules.specs.Lists.{Has}
use Rattle.definitions.specs.Rules.{Today}
use Rattle.definitions.specs.Header.{Who, is_partner, who_text}
use Rattle.definitions.specs.Means.{Line}
use Rattle.definitions.specs.Register.{Entry, own}
use Rattle.definitions.specs.History.{events}
use Rattle.definitions.specs.Accepted.{IsLegal}
use Rattle.definitions.specs.Page.{PageAdvice, page_advices, page_of}
use Rattle.definitions.specs.Tables.{Text, TableRow, advice_cells, advice_rows, advice_table, advice_line_rows, advice_line_table}
use Rattle.definitions.specs.Schema.{advice_line_schema}
use Rattle.definitions.specs.Bytes.{comes_before}
use Rattle.definitions.proofs.TextLaws.{text_is as bytes_same}
use Rattle.rules.specs.Keyed.{shipment_of}
use Rattle.rules.specs.Pages.{advice_at, is_shipment}
use Rattle.rules.proofs.KeyLemmas.{texts_strict}
use Rattle.std.specs.List.{list_all}
use Rattle.rules.specs.Fitting.{is_fitting_line}
use Rattle.rules.proofs.Fits.{page_fits}
use Rattle.book_tables.proofs.Fits.{advised_fit}
use Rattle.book_statements.specs.Asking.{Finds}
use Rattle.book_statements.specs.Exits.{StandsWhileOpen}
use Rattle.book_statements.specs.Layout.{advice_line_layout}
use Rattle.book_tables.specs.Looking.{lines_advised}
use Rattle.book_tables.specs.Showing.{advice_shown, line_shown}
use Rattle.book_statements.specs.declared.names.TableName.TheVariants.{Advice, AdviceLine}
use Rattle.book_statements.specs.Standing.{StandsSecond, AreOrdered, filled}
use Rattle.book_statements.proofs.Asked.{found}
use Rattle.book_tables.proofs.Finding.{no_row, first_row, one_key, second_of}
use Rattle.book_statements.proofs.HoldsLemmas.{are_keyed}
use Rattle.book_statements.proofs.NeedTexts.{advice_text, advice_columns, advice_is, advice_reads, advice_lines_text, advice_lines_is, advice_lines_reads, line_columns, line_order}
use Rattle.book_statements.proofs.Ordered.{all_ordered, advices_rise, advised_cells}
use Rattle.book_statements.proofs.Rising.{numbers_rise}
use Rattle.book_tables.proofs.ShownRows.{numbers_ranked, number_is}
use Rattle.book_tables.proofs.Under.{IsUnder, each_row, has_row, all_rows}
use Rattle.book_tables.proofs.UnderKey.{equal_bytes}
use Rattle.book_tables.proofs.UnderTables.{cells_under, parts_under}
use Rattle.book_statements.proofs.UpsertLemmas.{only_row}

-- The advice.

abbrev advice_out : PageAdvice → Output
advice_out a = ([], advice_shown a)

abbrev advices : List Entry → Who → List PageAdvice
advices L who = page_advices (events (own L who))

abbrev advised : Who → PageAdvice → TableRow
advised who a = Text (who_text who) ∷ advice_cells a

advice_under : (W : Who) (L : List Entry) (who : Who) (shipment : List ℕ) → IsLegal Today W L → is_partner who ≡ true
    → IsUnder 2 (advised who) 8 advice_columns [] advice_out (value.Text (who_text who)) (value.Text shipment) (advice_table L) (filter (is_shipment shipment) (advices L who))
advice_under W L who shipment legal partner =
    cells_under W L who legal partner advice_rows refl advice_cells (advices L who) refl (is_shipment shipment) (value.Text shipment) 2 (λ id a. equal_bytes a.shipment shipment)
    8 advice_columns [] advice_out (λ db. refl) (λ id a. refl)

module _ (old : State) (W : Who) (L : List Entry) (who : Who) (shipment : List ℕ) (partner : IsTrue (is_partner who)) (stands : StandsWhileOpen old W L)
    (rows : List Row) (finds : IsTrue old.is_open × Finds advice_text (value.Text (who_text who) ∷ value.Text shipment ∷ []) old.now rows) where
  here : StandsSecond W L old.now
  here = stands finds.0

  one : (a b : PageAdvice) → Has (advices L who) a → Has (advices L who) b → is_shipment shipment a ≡ true → is_shipment shipment b ≡ true → a ≡ b
  one a b h g p q = one_key comes_before shipment_of texts_strict (advices L who) a b (advices_rise (events (own L who))) h g (bytes_same a.shipment shipment p ∙ sym (bytes_same b.shipment shipment q))

  each : (row : Row) → Has rows row → (a : PageAdvice) × Has (filter (is_shipment shipment) (advices L who)) a × (row ≡ advice_shown a)
  each =
      let held = here.rows in
      let read = found advice_text (value.Text (who_text who) ∷ value.Text shipment ∷ []) old.now rows _ here.schema advice_reads advice_is finds.1 in
      each_row 2 (advised who) 8 advice_columns [] advice_out (value.Text (who_text who)) (value.Text shipment) (advice_table L) (filter (is_shipment shipment) (advices L who)) (advice_under W L who shipment here.legal partner) old.now.trees (held Advice) rows (read.answer value.Null)

  there : (a : PageAdvice) → Has (filter (is_shipment shipment) (advices L who)) a → Has rows (advice_shown a)
  there =
      let held = here.rows in
      let read = found advice_text (value.Text (who_text who) ∷ value.Text shipment ∷ []) old.now rows _ here.schema advice_reads advice_is finds.1 in
      has_row 2 (advised who) 8 advice_columns [] advice_out (value.Text (who_text who)) (value.Text shipment) (advice_table L) (filter (is_shipment shipment) (advices L who)) (advice_under W L who shipment here.legal partner) old.now.trees (held Advice) rows (read.answer value.Null)

  pub no_advice : rows ≡ [] → advice_at shipment (page_of (own L who)).advices ≡ None
  no_advice = no_row (is_shipment shipment) (advices L who) advice_shown rows each there one

  pub first_advice : (row : Row) (more : List Row) → rows ≡ row ∷ more → (a : PageAdvice) × (advice_at shipment (page_of (own L who)).advices ≡ Some a) × (row ≡ advice_shown a)
  first_advice = first_row (is_shipment shipment) (advices L who) advice_shown rows each there one

-- Its lines.

abbrev line_out : ℕ × Line → Output
line_out p = (value.Int (pos p.0) ∷ [], line_shown p.1)

abbrev line_cells : Who → List ℕ → ℕ × Line → TableRow
line_cells who shipment p = Text (who_text who) ∷ Text shipment ∷ advised_cells p

abbrev its_lines : List Entry → Who → List ℕ → List Line
its_lines L who shipment = lines_advised (advice_at shipment (page_of (own L who)).advices)

lines_under : (W : Who) (L : List Entry) (who : Who) (shipment : List ℕ) → IsLegal Today W L → is_partner who ≡ true
    → IsUnder 2 (line_cells who shipment) 10 line_columns line_order line_out (value.Text (who_text who)) (value.Text shipment) (advice_line_table L) (enumerate_from 1 (its_lines L who shipment))
lines_under W L who shipment legal partner =
    parts_under W L who legal partner advice_line_rows refl shipment_of (λ (a : PageAdvice). enumerate_from 1 a.lines) advised_cells (advices L who) refl (advices_rise (events (own L who))) shipment
    10 line_columns line_order line_out (λ db. refl) (λ id p. refl) (λ (o : Option PageAdvice). enumerate_from 1 (lines_advised o)) refl (λ a. refl)

pub advised_found : (W : Who) (L : List Entry) (who : Who) (shipment : List ℕ) (db : Database) (rows : List Row) → is_partner who ≡ true → IsDatabase db → StandsSecond W L db
    → Finds advice_lines_text (value.Text (who_text who) ∷ value.Text shipment ∷ []) db rows → rows ≡ map line_shown (its_lines L who shipment)
advised_found W L who shipment db rows partner sound stands h =
    let read = found advice_lines_text (value.Text (who_text who) ∷ value.Text shipment ∷ []) db rows _ stands.schema advice_lines_reads advice_lines_is h in
    let held = stands.rows in
    let lies = stands.schema in
    let ordered : AreOrdered (filled W L) = all_ordered W L in
    all_rows 2 (line_cells who shipment) 10 line_columns line_order line_out (value.Text (who_text who)) (value.Text shipment) (advice_line_table L) (enumerate_from 1 (its_lines L who shipment))
    (lines_under W L who shipment stands.legal partner) db.trees (held AdviceLine) rows (read.answer value.Null)
    nat_lt (λ (p : ℕ × Line). p.0) 3 (numbers_rise 1 (its_lines L who shipment)) (λ a b. numbers_ranked a.0 b.0)
    (λ a b t. let same = number_is a.0 b.0 t in λ i. value.Text (who_text who) ∷ value.Text shipment ∷ value.Int (pos (same i)) ∷ [])
    (only_row db.schema lies advice_line_layout.name 10 3 advice_line_layout.checks advice_line_layout.columns db.trees (inr (inr (inr (inr (inr (inl refl)))))) sound
    (are_keyed advice_line_schema 3 (advice_line_table L) (db.trees 10) (ordered.each AdviceLine) (held AdviceLine)))
    ∙ second_of line_shown 1 (its_lines L who shipment)

pub advised_read : (old : State) (W : Who) (L : List Entry) (who : Who) (shipment : List ℕ) → IsTrue (is_partner who) → IsLive old → StandsWhileOpen old W L → (rows : List Row)
    → IsTrue old.is_open × Finds advice_lines_text (value.Text (who_text who) ∷ value.Text shipment ∷ []) old.now rows → (read : Option (List Line)) → ((ls : List Line) → list_all (is_fitting_line Today) ls ≡ true → rows ≡ map line_shown ls → read ≡ Some ls)
    → read ≡ Some (lines_advised (advice_at shipment (page_of (own L who)).advices))
advised_read old W L who shipment partner live stands rows finds read right =
    let here = stands finds.0 in
    right _ (advised_fit shipment (page_of (own L who)).advices (page_fits Today W L who here.legal).advices) (advised_found W L who shipment old.now rows partner (live finds.0).0 here finds.1)
