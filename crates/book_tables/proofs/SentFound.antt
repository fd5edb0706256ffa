-- The row of `outgoing` under a depositor and a number: what it tells of the document and of the
-- text of that number.
use Rattle.std.proofs.Common.{◌≡◌, ℕ, pos, List, [], ◌∷◌, map, filter, length, Bool, true, false, None, Some, IsTrue, option_map, refl, sym, ap, ◌∙◌}
use Rattle.std.specs.Prelude.{find, nat_lt, ◌==◌, if◌then◌else◌}
use Rattle.std.proofs.lemmas.Bool.{eqb-true}
use Rattle.sqlite.specs.State.{State}
use Rattle.sqlite.specs.declared.types.Value.TheVariants as value
use Rattle.sqlite.specs.Order.{Row, column}
use Rattle.sqlite.specs.Query.{Output, IsAnswer}
use Rattle.sqlite.specs.Program.{overlay}
use Rattle.sqlite_rules.specs.Lists.{Has}
use Rattle.sqlite_rules.proofs.ListLemmas.{has_filtered, has_found, has_kept}
use Rattle.definitions.specs.Header.{Who, is_partner, who_text}
use Rattle.definitions.specs.Register.{Entry, own}
use Rattle.definitions.specs.History.{events}
use Rattle.definitions.specs.Page.{page_of}
use Rattle.definitions.specs.Rows.{OutRow, outgoing_rows, outbox_rows}
use Rattle.definitions.specs.Tables.{Text, TableRow, outgoing_cells, outgoing_table}
use Rattle.rules.specs.Pages.{document_at}
use Rattle.rules.proofs.KeyLemmas.{numbers_strict}
use Rattle.book_statements.specs.Asking.{Finds}
use Rattle.book_tables.specs.Contents.{IsContent}
use Rattle.book_statements.specs.Exits.{StandsWhileOpen}
use Rattle.store.specs.Sent.{text_under}
use Rattle.book_tables.specs.Looking.{IsRowOf}
use Rattle.book_tables.specs.Showing.{sent_shown, content_shown}
use Rattle.book_statements.specs.declared.names.TableName.TheVariants.{Outgoing}
use Rattle.book_statements.specs.Standing.{StandsSecond}
use Rattle.book_statements.proofs.Asked.{found}
use Rattle.book_tables.proofs.DocumentRows.{no_document, its_document}
use Rattle.book_tables.proofs.Finding.{no_row, first_row, one_key, one_found, none_passes, not_found}
use Rattle.book_statements.proofs.KeyLemmas.{equal_numbers}
use Rattle.book_tables.specs.Outgoing.{content_text}
use Rattle.book_tables.proofs.ContentText.{content_columns, content_is, content_reads}
use Rattle.book_tables.proofs.Sendings.{is_read, legal_sent}
use Rattle.book_statements.proofs.NeedTexts.{sent_text, sent_columns, sent_is, sent_reads, under_where}
use Rattle.book_statements.proofs.Ordered.{sent_rise}
use Rattle.book_tables.proofs.Places.{none_at_all, not_none}
use Rattle.book_tables.proofs.Under.{IsUnder, each_row, has_row}
use Rattle.book_tables.proofs.UnderTables.{cells_under}

abbrev rows_under : ℕ → OutRow → Bool
rows_under n r = r.n == n

abbrev sent_cells : Who → OutRow → TableRow
sent_cells who r = Text (who_text who) ∷ outgoing_cells r

-- two rows under one number are one
one_row : (W : Who) (M : List Entry) (n : ℕ) (a b : OutRow) → Has (outgoing_rows W M) a → Has (outgoing_rows W M) b → rows_under n a ≡ true → rows_under n b ≡ true → a ≡ b
one_row W M n a b h g p q = one_key nat_lt (λ (r : OutRow). r.n) numbers_strict (outgoing_rows W M) a b (sent_rise W (events M) [] M) h g (eqb-true a.n n p ∙ sym (eqb-true b.n n q))

-- The document.

abbrev sent_out : OutRow → Output
sent_out r = ([], sent_shown r)

module _ (old : State) (W : Who) (L : List Entry) (who : Who) (n : ℕ) (partner : IsTrue (is_partner who)) (stands : StandsWhileOpen old W L)
    (rows : List Row) (finds : IsTrue old.is_open × Finds sent_text (value.Text (who_text who) ∷ value.Int (pos n) ∷ []) old.now rows) where
  here : StandsSecond W L old.now
  here = stands finds.0

  abbrev sent : List OutRow
  sent = outgoing_rows W (own L who)

  sent_under : IsUnder 2 (sent_cells who) 4 sent_columns [] sent_out (value.Text (who_text who)) (value.Int (pos n)) (outgoing_table W L) (filter (rows_under n) sent)
  sent_under =
      cells_under W L who here.legal partner (λ M. map outgoing_cells (outgoing_rows W M)) refl outgoing_cells sent refl (rows_under n) (value.Int (pos n)) 2 (λ id r. equal_numbers r.n n)
      4 sent_columns [] sent_out (λ db. refl) (λ id r. refl)

  answer : IsAnswer (under_where 4 sent_columns []) (overlay old.now.trees []) (value.Text (who_text who) ∷ value.Int (pos n) ∷ []) rows
  answer = let read = found sent_text (value.Text (who_text who) ∷ value.Int (pos n) ∷ []) old.now rows _ here.schema sent_reads sent_is finds.1 in read.answer value.Null

  each : (row : Row) → Has rows row → (r : OutRow) × Has (filter (rows_under n) sent) r × (row ≡ sent_shown r)
  each = let held = here.rows in each_row 2 (sent_cells who) 4 sent_columns [] sent_out (value.Text (who_text who)) (value.Int (pos n)) (outgoing_table W L) (filter (rows_under n) sent) sent_under old.now.trees (held Outgoing) rows answer

  there : (r : OutRow) → Has (filter (rows_under n) sent) r → Has rows (sent_shown r)
  there = let held = here.rows in has_row 2 (sent_cells who) 4 sent_columns [] sent_out (value.Text (who_text who)) (value.Int (pos n)) (outgoing_table W L) (filter (rows_under n) sent) sent_under old.now.trees (held Outgoing) rows answer

  pub none_sent : rows ≡ [] → document_at n (page_of (own L who)).documents ≡ None
  none_sent is = no_document W n (own L who) (no_row (rows_under n) sent sent_shown rows each there (one_row W (own L who) n) is)

  pub first_sent : (row : Row) (more : List Row) → rows ≡ row ∷ more → (r : OutRow) × IsRowOf n r (document_at n (page_of (own L who)).documents) × (row ≡ sent_shown r)
  first_sent row more is =
      let it = first_row (rows_under n) sent sent_shown rows each there (one_row W (own L who) n) row more is in
      (it.0, its_document W n (own L who) it.0 it.1, it.2)

-- The text.

abbrev has_content : OutRow → Bool
has_content r = nat_lt 0 (length r.content)

abbrev content_out : OutRow → Output
content_out r = ([], content_shown r)

-- what is found among the rows with a text, where it is the one of its number among all
kept_one : (W : Who) (M : List Entry) (n : ℕ) (r : OutRow) (b : Bool) → find (rows_under n) (outgoing_rows W M) ≡ Some r → has_content r ≡ b → find (rows_under n) (outbox_rows W M) ≡ (if b then Some r else None)
kept_one W M n r true is content =
    let it = has_found (rows_under n) (outgoing_rows W M) r is in
    one_found (rows_under n) (outbox_rows W M) r (has_kept has_content (outgoing_rows W M) r it.0 content) it.1
    (λ q listed passes. one_row W M n q r (has_filtered has_content (outgoing_rows W M) q listed).0 it.0 passes it.1)
kept_one W M n r false is content =
    let it = has_found (rows_under n) (outgoing_rows W M) r is in
    not_found (rows_under n) (outbox_rows W M) (λ q listed passes.
    let kept = has_filtered has_content (outgoing_rows W M) q listed in
    let same = one_row W M n q r kept.0 it.0 passes it.1 in
    let e : ◌≡◌ {A = Bool} true false = sym kept.1 ∙ ap has_content same ∙ content in cc)

kept_none : (W : Who) (M : List Entry) (n : ℕ) → find (rows_under n) (outgoing_rows W M) ≡ None → find (rows_under n) (outbox_rows W M) ≡ None
kept_none W M n is = not_found (rows_under n) (outbox_rows W M) (λ q listed passes. none_passes (rows_under n) (outgoing_rows W M) q is (has_filtered has_content (outgoing_rows W M) q listed).0 passes)

module _ (old : State) (W : Who) (L : List Entry) (who : Who) (n : ℕ) (partner : IsTrue (is_partner who)) (stands : StandsWhileOpen old W L)
    (rows : List Row) (finds : IsTrue old.is_open × Finds content_text (value.Text (who_text who) ∷ value.Int (pos n) ∷ []) old.now rows) where
  stood : StandsSecond W L old.now
  stood = stands finds.0

  abbrev texts : List OutRow
  texts = outgoing_rows W (own L who)

  texts_under : IsUnder 2 (sent_cells who) 4 content_columns [] content_out (value.Text (who_text who)) (value.Int (pos n)) (outgoing_table W L) (filter (rows_under n) texts)
  texts_under =
      cells_under W L who stood.legal partner (λ M. map outgoing_cells (outgoing_rows W M)) refl outgoing_cells texts refl (rows_under n) (value.Int (pos n)) 2 (λ id r. equal_numbers r.n n)
      4 content_columns [] content_out (λ db. refl) (λ id r. refl)

  content_answer : IsAnswer (under_where 4 content_columns []) (overlay old.now.trees []) (value.Text (who_text who) ∷ value.Int (pos n) ∷ []) rows
  content_answer = let read = found content_text (value.Text (who_text who) ∷ value.Int (pos n) ∷ []) old.now rows _ stood.schema content_reads content_is finds.1 in read.answer value.Null

  each_text : (row : Row) → Has rows row → (r : OutRow) × Has (filter (rows_under n) texts) r × (row ≡ content_shown r)
  each_text = let held = stood.rows in each_row 2 (sent_cells who) 4 content_columns [] content_out (value.Text (who_text who)) (value.Int (pos n)) (outgoing_table W L) (filter (rows_under n) texts) texts_under old.now.trees (held Outgoing) rows content_answer

  text_there : (r : OutRow) → Has (filter (rows_under n) texts) r → Has rows (content_shown r)
  text_there = let held = stood.rows in has_row 2 (sent_cells who) 4 content_columns [] content_out (value.Text (who_text who)) (value.Int (pos n)) (outgoing_table W L) (filter (rows_under n) texts) texts_under old.now.trees (held Outgoing) rows content_answer

  -- the rows show a content, which is the text but where it is empty
  pub text_shown : (content : List ℕ) × IsContent rows content × (text_under W (own L who) n ≡ (if length content == 0 then None else Some content))
  text_shown = by rows refl
    where
      by : (rs : List Row) → rows ≡ rs → (content : List ℕ) × IsContent rs content × (text_under W (own L who) n ≡ (if length content == 0 then None else Some content))
      by [] is = ([], refl, ap (option_map (λ (r : OutRow). r.content)) (kept_none W (own L who) n (no_row (rows_under n) texts content_shown rows each_text text_there (one_row W (own L who) n) is)))
      by (row ∷ more) is =
          let it = first_row (rows_under n) texts content_shown rows each_text text_there (one_row W (own L who) n) row more is in
          let sent = legal_sent W L who stood.legal it.0 (has_found (rows_under n) texts it.0 it.1).0 in
          (it.0.content, (ap (λ (x : Row). column x 0) it.2, is_read row it.0 it.2 sent), told it.0 it.1 (length it.0.content == 0) refl)
        where
          told : (r : OutRow) → find (rows_under n) texts ≡ Some r → (b : Bool) → (length r.content == 0) ≡ b → text_under W (own L who) n ≡ (if b then None else Some r.content)
          told r at true e = ap (option_map (λ (q : OutRow). q.content)) (kept_one W (own L who) n r false at (none_at_all (length r.content) e))
          told r at false e = ap (option_map (λ (q : OutRow). q.content)) (kept_one W (own L who) n r true at (not_none (length r.content) e))
