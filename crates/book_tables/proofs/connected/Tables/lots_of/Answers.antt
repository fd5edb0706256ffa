use Rattle.std.proofs.Common.{rules, true, ◌≡◌, ◌∙◌, sym, ap, subst₂, List, Option, Ok, Some, option_map, map, IsTrue}
use Rattle.std.specs.Prelude.{IsErrAnd}
use Rattle.std.specs.List.{list_all}
use Rattle.definitions.specs.Header.{is_partner}
use Rattle.definitions.specs.Rows.{LotRow}
use Rattle.rules.specs.Fitting.{is_fitting_row}
use Rattle.store.specs.Fault.{Fault}
use Rattle.store.specs.Fault.TheVariants.{OutOfMemory}
use Rattle.sqlite.specs.Held.{state}
use Rattle.sqlite.specs.Order.{Row}
use Rattle.rules.specs.Keyed.{key_before, rises_by, row_key}
use Rattle.book_statements.specs.Dated.{date_shown, dates_of}
use Rattle.book_tables.specs.Showing.{lot_shown}
use Rattle.book_tables.proofs.AskedLater.{stands_later, clean_before}
use Rattle.book_tables.proofs.LotsFound.{lots_read}
use Rattle.book_tables.proofs.Queries.{asked_on, asked_then, asked_short, asked_fails, asked_wrong}
use Rattle.book_tables.proofs.ReadLemmas.{none_some, same_some}
use Rattle.book_statements.proofs.NeedTexts.{lots_reads, dates_reads}
use Rattle.book_tables.proofs.connected.Tables.lots_of.Goals as goal

abbrev ReadsRight : List Row → List Row → Option (List LotRow) → Type 0
ReadsRight rows dates read = (rs : List LotRow) → list_all is_fitting_row rs ≡ true → rises_by key_before row_key rs ≡ true → rows ≡ map lot_shown rs → dates ≡ map date_shown (dates_of rs) → read ≡ Some rs

pub under_text-requires : goal.under_text-requires
under_text-requires g c = lots_reads

pub under_text-requires-2 : goal.under_text-requires-2
under_text-requires-2 g c = dates_reads

pub returns-in_err-dates-clause-asked : goal.returns-in_err-dates-clause-asked
returns-in_err-dates-clause-asked g c =
    let same : IsErrAnd c.from_residual-in_err-dates.result (λ (f : Fault). f ≡ c.in_err-dates.field-0.0) = search rules in
    asked_on g.S.Store c.args.self.now c.under_text.new.self c.under_text-2.new.self c.in_ok-rows.rows c.from_residual-in_err-dates.result c.in_ok-rows.ensures.asked
    (asked_fails g.S.Store c.under_text.new.self c.under_text-2.new.self c.in_err-dates.field-0.0 c.from_residual-in_err-dates.result same c.in_err-dates.ensures.asked)

pub returns-in_err-lots-clause-asked : goal.returns-in_err-lots-clause-asked
returns-in_err-lots-clause-asked g c =
    let same : IsErrAnd c.from_residual-in_err-lots.result (λ (f : Fault). f ≡ OutOfMemory) = search rules in
    asked_on g.S.Store c.args.self.now c.under_text.new.self c.under_text-2.new.self c.in_ok-rows.rows c.from_residual-in_err-lots.result c.in_ok-rows.ensures.asked
    (asked_short g.S.Store c.under_text.new.self c.under_text-2.new.self c.in_ok-dates.dates c.from_residual-in_err-lots.result same c.in_ok-dates.ensures.asked)

pub returns-in-Some-clause-lots : goal.returns-in-Some-clause-lots
returns-in-Some-clause-lots g c = λ clean W L stands.
    let partner : IsTrue (is_partner c.args.who) = search rules in
    let old = state g.S.Store c.args.self.now.conn in
    let mid = state g.S.Store c.under_text.new.self.conn in
    let new = state g.S.Store c.under_text-2.new.self.conn in
    let early = clean_before mid new c.in_ok-dates.ensures.asked.left clean in
    let right = subst₂ (λ (rows dates : List Row). ReadsRight rows dates (option_map (λ v. v.items) c.in_ok-lots.field-0)) c.deref.ensures.value c.deref-2.ensures.value c.in_ok-lots.ensures.shows in
    same_some c.in-Some.lots.items _ (sym (ap (option_map (λ v. v.items)) c.in-Some.is)
    ∙ lots_read old mid W L c.args.who c.args.item.now partner c.in_ok-rows.ensures.live c.in_ok-dates.ensures.live stands (stands_later old mid W L early c.in_ok-rows.ensures.asked.left stands)
    c.in_ok-rows.rows.items c.in_ok-dates.dates.items (c.in_ok-rows.ensures.finds early) (c.in_ok-dates.ensures.finds clean) _ right)

pub returns-in-Some-clause-asked : goal.returns-in-Some-clause-asked
returns-in-Some-clause-asked g c =
    asked_on g.S.Store c.args.self.now c.under_text.new.self c.under_text-2.new.self c.in_ok-rows.rows _ c.in_ok-rows.ensures.asked
    (asked_then g.S.Store c.under_text.new.self c.under_text-2.new.self c.in_ok-dates.dates _ c.in_ok-dates.ensures.asked tt)

pub returns-clause-asked : goal.returns-clause-asked
returns-clause-asked g c =
    asked_wrong g.S.Store c.args.self.now c.under_text-2.new.self c.in_ok-dates.dates
    (asked_on g.S.Store c.args.self.now c.under_text.new.self c.under_text-2.new.self c.in_ok-rows.rows (Ok c.in_ok-dates.dates) c.in_ok-rows.ensures.asked c.in_ok-dates.ensures.asked)
    (λ clean W L stands.
    let partner : IsTrue (is_partner c.args.who) = search rules in
    let old = state g.S.Store c.args.self.now.conn in
    let mid = state g.S.Store c.under_text.new.self.conn in
    let new = state g.S.Store c.under_text-2.new.self.conn in
    let early = clean_before mid new c.in_ok-dates.ensures.asked.left clean in
    let right = subst₂ (λ (rows dates : List Row). ReadsRight rows dates (option_map (λ v. v.items) c.in_ok-lots.field-0)) c.deref.ensures.value c.deref-2.ensures.value c.in_ok-lots.ensures.shows in
    none_some _ _ (ap (option_map (λ v. v.items)) c.in-None.is)
    (lots_read old mid W L c.args.who c.args.item.now partner c.in_ok-rows.ensures.live c.in_ok-dates.ensures.live stands (stands_later old mid W L early c.in_ok-rows.ensures.asked.left stands)
    c.in_ok-rows.rows.items c.in_ok-dates.dates.items (c.in_ok-rows.ensures.finds early) (c.in_ok-dates.ensures.finds clean) _ right))
