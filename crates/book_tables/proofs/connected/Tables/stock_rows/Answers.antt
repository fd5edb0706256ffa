use Rattle.std.proofs.Common.{rules, true, ◌≡◌, ◌∙◌, sym, ap, subst₂, List, Option, Ok, Some, option_map, map, IsTrue}
use Rattle.std.specs.Prelude.{IsErrAnd}
use Rattle.std.specs.List.{list_all}
use Rattle.definitions.specs.Header.{is_partner}
use Rattle.definitions.specs.Register.{own}
use Rattle.definitions.specs.History.{events}
use Rattle.definitions.specs.Rows.{LotRow, shown_row, running_rows}
use Rattle.store.specs.Fault.{Fault}
use Rattle.store.specs.Fault.TheVariants.{OutOfMemory}
use Rattle.sqlite.specs.Held.{state}
use Rattle.sqlite.specs.Order.{Row}
use Rattle.rules.specs.Fitting.{is_fitting_row}
use Rattle.rules.specs.Keyed.{key_before, rises_by, row_key}
use Rattle.book_statements.specs.Dated.{date_shown, dates_of}
use Rattle.book_tables.specs.Showing.{lot_shown}
use Rattle.book_tables.proofs.AskedLater.{stands_later, clean_before}
use Rattle.book_tables.proofs.FoundRows.{stock_read}
use Rattle.book_tables.proofs.Queries.{asked_on, asked_then, asked_short, asked_fails, asked_wrong}
use Rattle.book_tables.proofs.ReadLemmas.{none_some, same_some}
use Rattle.book_statements.proofs.ShowingTexts.{all_lots_reads, all_dates_reads}
use Rattle.book_tables.proofs.connected.Tables.stock_rows.Goals as goal

abbrev ReadsRight : List Row → List Row → Option (List LotRow) → Type 0
ReadsRight rows dates read = (rs : List LotRow) → list_all is_fitting_row rs ≡ true → rises_by key_before row_key rs ≡ true → rows ≡ map lot_shown rs → dates ≡ map date_shown (dates_of rs) → read ≡ Some rs

pub of_depositor-requires : goal.of_depositor-requires
of_depositor-requires g c = all_lots_reads

pub of_depositor-requires-2 : goal.of_depositor-requires-2
of_depositor-requires-2 g c = all_dates_reads

pub returns-in_err-dates-clause-asked : goal.returns-in_err-dates-clause-asked
returns-in_err-dates-clause-asked g c =
    let same : IsErrAnd c.from_residual-in_err-dates.result (λ (f : Fault). f ≡ c.in_err-dates.field-0.0) = search rules in
    asked_on g.S.Store c.args.self.now c.of_depositor.new.self c.of_depositor-2.new.self c.in_ok-rows.rows c.from_residual-in_err-dates.result c.in_ok-rows.ensures.asked
    (asked_fails g.S.Store c.of_depositor.new.self c.of_depositor-2.new.self c.in_err-dates.field-0.0 c.from_residual-in_err-dates.result same c.in_err-dates.ensures.asked)

pub returns-in_err-lots-clause-asked : goal.returns-in_err-lots-clause-asked
returns-in_err-lots-clause-asked g c =
    let same : IsErrAnd c.from_residual-in_err-lots.result (λ (f : Fault). f ≡ OutOfMemory) = search rules in
    asked_on g.S.Store c.args.self.now c.of_depositor.new.self c.of_depositor-2.new.self c.in_ok-rows.rows c.from_residual-in_err-lots.result c.in_ok-rows.ensures.asked
    (asked_short g.S.Store c.of_depositor.new.self c.of_depositor-2.new.self c.in_ok-dates.dates c.from_residual-in_err-lots.result same c.in_ok-dates.ensures.asked)

pub returns-in_err-of_each-in-Some-clause-asked : goal.returns-in_err-of_each-in-Some-clause-asked
returns-in_err-of_each-in-Some-clause-asked g c =
    let same : IsErrAnd c.from_residual-in_err-of_each-in-Some.result (λ (f : Fault). f ≡ OutOfMemory) = search rules in
    asked_on g.S.Store c.args.self.now c.of_depositor.new.self c.of_depositor-2.new.self c.in_ok-rows.rows c.from_residual-in_err-of_each-in-Some.result c.in_ok-rows.ensures.asked
    (asked_short g.S.Store c.of_depositor.new.self c.of_depositor-2.new.self c.in_ok-dates.dates c.from_residual-in_err-of_each-in-Some.result same c.in_ok-dates.ensures.asked)

pub returns-in-Some-clause-rows : goal.returns-in-Some-clause-rows
returns-in-Some-clause-rows g c = λ clean W L stands.
    let partner : IsTrue (is_partner c.args.who) = search rules in
    let old = state g.S.Store c.args.self.now.conn in
    let mid = state g.S.Store c.of_depositor.new.self.conn in
    let new = state g.S.Store c.of_depositor-2.new.self.conn in
    let early = clean_before mid new c.in_ok-dates.ensures.asked.left clean in
    let right = subst₂ (λ (rows dates : List Row). ReadsRight rows dates (option_map (λ v. v.items) c.in_ok-lots.field-0)) c.deref.ensures.value c.deref-2.ensures.value c.in_ok-lots.ensures.shows in
    let lots : c.in-Some.lots.items ≡ running_rows (events (own L c.args.who)) =
    same_some c.in-Some.lots.items (running_rows (events (own L c.args.who))) (sym (ap (option_map (λ v. v.items)) c.in-Some.is)
    ∙ stock_read old mid W L c.args.who partner c.in_ok-rows.ensures.live c.in_ok-dates.ensures.live stands (stands_later old mid W L early c.in_ok-rows.ensures.asked.left stands)
    c.in_ok-rows.rows.items c.in_ok-dates.dates.items (c.in_ok-rows.ensures.finds early) (c.in_ok-dates.ensures.finds clean) _ right) in
    c.in_ok-of_each-in-Some.ensures ∙ ap (map shown_row) (c.deref-in-Some.ensures.value ∙ lots)

pub returns-in-Some-clause-asked : goal.returns-in-Some-clause-asked
returns-in-Some-clause-asked g c =
    asked_on g.S.Store c.args.self.now c.of_depositor.new.self c.of_depositor-2.new.self c.in_ok-rows.rows _ c.in_ok-rows.ensures.asked
    (asked_then g.S.Store c.of_depositor.new.self c.of_depositor-2.new.self c.in_ok-dates.dates _ c.in_ok-dates.ensures.asked tt)

pub returns-clause-asked : goal.returns-clause-asked
returns-clause-asked g c =
    asked_wrong g.S.Store c.args.self.now c.of_depositor-2.new.self c.in_ok-dates.dates
    (asked_on g.S.Store c.args.self.now c.of_depositor.new.self c.of_depositor-2.new.self c.in_ok-rows.rows (Ok c.in_ok-dates.dates) c.in_ok-rows.ensures.asked c.in_ok-dates.ensures.asked)
    (λ clean W L stands.
    let partner : IsTrue (is_partner c.args.who) = search rules in
    let old = state g.S.Store c.args.self.now.conn in
    let mid = state g.S.Store c.of_depositor.new.self.conn in
    let new = state g.S.Store c.of_depositor-2.new.self.conn in
    let early = clean_before mid new c.in_ok-dates.ensures.asked.left clean in
    let right = subst₂ (λ (rows dates : List Row). ReadsRight rows dates (option_map (λ v. v.items) c.in_ok-lots.field-0)) c.deref.ensures.value c.deref-2.ensures.value c.in_ok-lots.ensures.shows in
    none_some _ (running_rows (events (own L c.args.who))) (ap (option_map (λ v. v.items)) c.in-None.is)
    (stock_read old mid W L c.args.who partner c.in_ok-rows.ensures.live c.in_ok-dates.ensures.live stands (stands_later old mid W L early c.in_ok-rows.ensures.asked.left stands)
    c.in_ok-rows.rows.items c.in_ok-dates.dates.items (c.in_ok-rows.ensures.finds early) (c.in_ok-dates.ensures.finds clean) _ right))
