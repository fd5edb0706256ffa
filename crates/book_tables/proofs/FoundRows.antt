-- What the queries of running rows find in tables that stand for a register.
use Rattle.std.proofs.Common.{◌≡◌, ℕ, List, [], ◌∷◌, map, filter, length, true, Some, Option, IsTrue, subst}
use Rattle.std.specs.Prelude.{nat_lt}
use Rattle.std.specs.List.{list_all}
use Rattle.sqlite_rules.specs.Lists.{Has}
use Rattle.sqlite.specs.State.{State, IsLive}
use Rattle.sqlite.specs.declared.types.Value.TheVariants as value
use Rattle.sqlite.specs.Order.{Row}
use Rattle.sqlite.specs.Effect.{Database, IsDatabase}
use Rattle.definitions.specs.Rules.{Today}
use Rattle.definitions.specs.Header.{Who, is_partner, who_text}
use Rattle.definitions.specs.Register.{Entry, own}
use Rattle.definitions.specs.History.{events}
use Rattle.definitions.specs.Rows.{LotRow, OutRow, running_rows, outgoing_rows, outbox_rows}
use Rattle.rules.specs.Keyed.{rises_by, row_key, key_before as pairs_in_order}
use Rattle.rules.specs.Fitting.{is_fitting_row}
use Rattle.rules.proofs.Fits.{page_fits}
use Rattle.book_statements.specs.Asking.{Finds}
use Rattle.book_statements.specs.Layout.{expiry_tree}
use Rattle.book_statements.specs.Exits.{StandsWhileOpen}
use Rattle.book_statements.specs.Dated.{date_shown, dates_of}
use Rattle.book_tables.specs.Showing.{lot_shown, out_shown, IsSent}
use Rattle.book_statements.specs.declared.names.TableName.TheVariants.{Stock, LotExpiry, Outgoing}
use Rattle.book_statements.specs.Standing.{StandsSecond}
use Rattle.book_statements.proofs.Asked.{found, found_placed}
use Rattle.book_statements.proofs.Ordered.{lots_rise}
use Rattle.book_tables.proofs.Sendings.{legal_sent}
use Rattle.book_statements.proofs.ShowingTexts.{all_lots_text, all_lots_is, all_lots_reads, all_dates_text, all_dates_query, dates_names, all_dates_reads, outbox_text, outbox_is, outbox_reads}
use Rattle.book_statements.proofs.ExpiryReads.{all_dates_is}
use Rattle.book_tables.proofs.ShownRows.{all_lots_shown, dates_shown, outgoing_rows_shown}

all_lots_found : (W : Who) (L : List Entry) (who : Who) (db : Database) (rows : List Row) → is_partner who ≡ true → IsDatabase db → StandsSecond W L db
    → Finds all_lots_text (value.Text (who_text who) ∷ []) db rows → rows ≡ map lot_shown (running_rows (events (own L who)))
all_lots_found W L who db rows partner sound stands h =
    let read = found all_lots_text (value.Text (who_text who) ∷ []) db rows _ stands.schema all_lots_reads all_lots_is h in
    let held = stands.rows in
    all_lots_shown db.schema stands.schema W L who db.trees rows stands.legal partner sound (held Stock) (read.answer value.Null)

dates_found : (W : Who) (L : List Entry) (who : Who) (db : Database) (rows : List Row) → is_partner who ≡ true → IsDatabase db → StandsSecond W L db
    → Finds all_dates_text (value.Text (who_text who) ∷ []) db rows → rows ≡ map date_shown (dates_of (running_rows (events (own L who))))
dates_found W L who db rows partner sound stands h =
    let lies = stands.schema in
    let held = stands.rows in
    dates_shown db.schema lies W L who db.trees rows stands.legal partner sound (held LotExpiry)
    (found_placed all_dates_text (value.Text (who_text who) ∷ []) db rows all_dates_query dates_names 19 all_dates_reads (all_dates_is db.schema lies.expiry_place (expiry_tree db.schema) lies.expiry) h)

outgoing_found : (W : Who) (L : List Entry) (who : Who) (db : Database) (rows : List Row) → is_partner who ≡ true → IsDatabase db → StandsSecond W L db
    → Finds outbox_text (value.Text (who_text who) ∷ []) db rows → rows ≡ map out_shown (outgoing_rows W (own L who))
outgoing_found W L who db rows partner sound stands h =
    let read = found outbox_text (value.Text (who_text who) ∷ []) db rows _ stands.schema outbox_reads outbox_is h in
    let held = stands.rows in
    outgoing_rows_shown db.schema stands.schema W L who db.trees rows stands.legal partner sound (held Outgoing) (read.answer value.Null)

-- Rows that are read back of tables that stand while they are open.

pub stock_read : (old mid : State) (W : Who) (L : List Entry) (who : Who) → IsTrue (is_partner who) → IsLive old → IsLive mid → StandsWhileOpen old W L → StandsWhileOpen mid W L → (rows dates : List Row)
    → IsTrue old.is_open × Finds all_lots_text (value.Text (who_text who) ∷ []) old.now rows → IsTrue mid.is_open × Finds all_dates_text (value.Text (who_text who) ∷ []) mid.now dates → (read : Option (List LotRow))
    → ((rs : List LotRow) → list_all is_fitting_row rs ≡ true → rises_by pairs_in_order row_key rs ≡ true → rows ≡ map lot_shown rs → dates ≡ map date_shown (dates_of rs) → read ≡ Some rs)
    → read ≡ Some (running_rows (events (own L who)))
stock_read old mid W L who partner live mid_live stands mid_stands rows dates finds dated read right =
    let here = stands finds.0 in
    right (running_rows (events (own L who))) ((page_fits Today W L who here.legal).rows) (lots_rise (events (own L who))) (all_lots_found W L who old.now rows partner (live finds.0).0 here finds.1)
    (dates_found W L who mid.now dates partner (mid_live dated.0).0 (mid_stands dated.0) dated.1)

module _ (old : State) (W : Who) (L : List Entry) (who : Who) (partner : IsTrue (is_partner who)) (live : IsLive old) (stands : StandsWhileOpen old W L) (text : List ℕ) (told : text ≡ who_text who) (rows : List Row) where
  pub sent_read : IsTrue old.is_open × Finds outbox_text (value.Text text ∷ []) old.now rows → (read : Option (List OutRow))
      → ((rs : List OutRow) → ((r : OutRow) → Has rs r → IsSent r) → rows ≡ map out_shown rs → read ≡ Some (filter (λ (r : OutRow). nat_lt 0 (length r.content)) rs)) → read ≡ Some (outbox_rows W (own L who))
  sent_read finds read right =
      let here = stands finds.0 in
      right (outgoing_rows W (own L who)) (legal_sent W L who here.legal)
      (outgoing_found W L who old.now rows partner (live finds.0).0 here (subst (λ t. Finds outbox_text (value.Text t ∷ []) old.now rows) told finds.1))
