use Rattle.std.proofs.Common.{rules, ◌≡◌, ◌∙◌, sym, ap, None, Some, Option, Ok, List}
use Rattle.std.specs.Option.{option_copied}
use Rattle.std.specs.Prelude.{slice_get, IsErrAnd}
use Rattle.store.specs.Fault.{Fault}
use Rattle.store.specs.Fault.TheVariants.{OutOfMemory}
use Rattle.sqlite.specs.Held.{state}
use Rattle.sqlite.specs.Order.{Row}
use Rattle.book_tables.proofs.AskedLater.{stands_later, clean_before}
use Rattle.book_tables.proofs.Looked.{begins_with, is_empty}
use Rattle.book_tables.proofs.NumberedFound.{none_numbered, one_numbered, with_rules, rules_there}
use Rattle.book_tables.proofs.Queries.{asked_on, asked_then, asked_short, asked_fails, asked_wrong}
use Rattle.book_tables.proofs.ReadLemmas.{none_some}
use Rattle.book_tables.proofs.connected.Tables.entry_at.Goals as goal

pub returns-in_default-clause-entry : goal.returns-in_default-clause-entry
returns-in_default-clause-entry g c = λ clean W L stands.
    let none : ◌≡◌ {A = Option Row} None (slice_get c.in_ok-rows.rows.items 0) = sym (ap option_copied c.in_default.is) ∙ c.first.ensures.value ∙ ap (λ (rs : List Row). slice_get rs 0) c.deref.ensures.value in
    none_numbered (state g.S.Store c.args.self.now.conn) W L c.args.seq stands c.in_ok-rows.rows.items (c.in_ok-rows.ensures.finds clean) (is_empty c.in_ok-rows.rows.items none)

pub returns-in_err-rules-clause-asked : goal.returns-in_err-rules-clause-asked
returns-in_err-rules-clause-asked g c =
    let same : IsErrAnd c.from_residual-in_err-rules.result (λ (f : Fault). f ≡ c.in_err-rules.field-0.0) = search rules in
    asked_on g.S.Store c.args.self.now c.rows_at.new.self c.rules_at.new.self c.in_ok-rows.rows c.from_residual-in_err-rules.result c.in_ok-rows.ensures.asked
    (asked_fails g.S.Store c.rows_at.new.self c.rules_at.new.self c.in_err-rules.field-0.0 c.from_residual-in_err-rules.result same c.in_err-rules.ensures.asked)

-- a row without rules
pub returns-in_default-2-clause-asked : goal.returns-in_default-2-clause-asked
returns-in_default-2-clause-asked g c =
    asked_wrong g.S.Store c.args.self.now c.rules_at.new.self c.in_ok-rules.field-0
    (asked_on g.S.Store c.args.self.now c.rows_at.new.self c.rules_at.new.self c.in_ok-rows.rows (Ok c.in_ok-rules.field-0) c.in_ok-rows.ensures.asked c.in_ok-rules.ensures.asked)
    (λ clean W L stands.
    let old = state g.S.Store c.args.self.now.conn in
    let mid = state g.S.Store c.rows_at.new.self.conn in
    let new = state g.S.Store c.rules_at.new.self.conn in
    let early = clean_before mid new c.in_ok-rules.ensures.asked.left clean in
    let first : ◌≡◌ {A = Option Row} (Some c.in-Some.row.now) (slice_get c.in_ok-rows.rows.items 0) = sym (ap option_copied c.in-Some.is) ∙ c.first.ensures.value ∙ ap (λ (rs : List Row). slice_get rs 0) c.deref.ensures.value in
    let more = begins_with c.in_ok-rows.rows.items c.in-Some.row.now first in
    let it = one_numbered old W L c.args.seq stands c.in_ok-rows.rows.items (c.in_ok-rows.ensures.finds early) c.in-Some.row.now more.0 more.1 in
    rules_there _ it.0 c.in_ok-rules.field-0 it.1 (c.in_ok-rules.ensures.rules clean W L (stands_later old mid W L early c.in_ok-rows.ensures.asked.left stands)) c.in_default-2.is)

pub returns-in_err-entry-clause-asked : goal.returns-in_err-entry-clause-asked
returns-in_err-entry-clause-asked g c =
    let same : IsErrAnd c.from_residual-in_err-entry.result (λ (f : Fault). f ≡ OutOfMemory) = search rules in
    asked_on g.S.Store c.args.self.now c.rows_at.new.self c.rules_at.new.self c.in_ok-rows.rows c.from_residual-in_err-entry.result c.in_ok-rows.ensures.asked
    (asked_short g.S.Store c.rows_at.new.self c.rules_at.new.self c.in_ok-rules.field-0 c.from_residual-in_err-entry.result same c.in_ok-rules.ensures.asked)

pub returns-in-Some-3-clause-entry : goal.returns-in-Some-3-clause-entry
returns-in-Some-3-clause-entry g c = λ clean W L stands.
    let old = state g.S.Store c.args.self.now.conn in
    let mid = state g.S.Store c.rows_at.new.self.conn in
    let new = state g.S.Store c.rules_at.new.self.conn in
    let early = clean_before mid new c.in_ok-rules.ensures.asked.left clean in
    let first : ◌≡◌ {A = Option Row} (Some c.in-Some.row.now) (slice_get c.in_ok-rows.rows.items 0) = sym (ap option_copied c.in-Some.is) ∙ c.first.ensures.value ∙ ap (λ (rs : List Row). slice_get rs 0) c.deref.ensures.value in
    let more = begins_with c.in_ok-rows.rows.items c.in-Some.row.now first in
    let it = one_numbered old W L c.args.seq stands c.in_ok-rows.rows.items (c.in_ok-rows.ensures.finds early) c.in-Some.row.now more.0 more.1 in
    let ruled = sym c.in-Some-2.is ∙ c.in_ok-rules.ensures.rules clean W L (stands_later old mid W L early c.in_ok-rows.ensures.asked.left stands) in
    sym c.in-Some-3.is ∙ c.in_ok-entry.ensures it.0 it.3 it.2 ∙ with_rules _ it.0 c.in-Some-2.rules it.1 ruled

pub returns-in-Some-3-clause-asked : goal.returns-in-Some-3-clause-asked
returns-in-Some-3-clause-asked g c =
    asked_on g.S.Store c.args.self.now c.rows_at.new.self c.rules_at.new.self c.in_ok-rows.rows _ c.in_ok-rows.ensures.asked
    (asked_then g.S.Store c.rows_at.new.self c.rules_at.new.self c.in_ok-rules.field-0 _ c.in_ok-rules.ensures.asked tt)

pub returns-clause-asked : goal.returns-clause-asked
returns-clause-asked g c =
    asked_wrong g.S.Store c.args.self.now c.rules_at.new.self c.in_ok-rules.field-0
    (asked_on g.S.Store c.args.self.now c.rows_at.new.self c.rules_at.new.self c.in_ok-rows.rows (Ok c.in_ok-rules.field-0) c.in_ok-rows.ensures.asked c.in_ok-rules.ensures.asked)
    (λ clean W L stands.
    let old = state g.S.Store c.args.self.now.conn in
    let mid = state g.S.Store c.rows_at.new.self.conn in
    let new = state g.S.Store c.rules_at.new.self.conn in
    let early = clean_before mid new c.in_ok-rules.ensures.asked.left clean in
    let first : ◌≡◌ {A = Option Row} (Some c.in-Some.row.now) (slice_get c.in_ok-rows.rows.items 0) = sym (ap option_copied c.in-Some.is) ∙ c.first.ensures.value ∙ ap (λ (rs : List Row). slice_get rs 0) c.deref.ensures.value in
    let more = begins_with c.in_ok-rows.rows.items c.in-Some.row.now first in
    let it = one_numbered old W L c.args.seq stands c.in_ok-rows.rows.items (c.in_ok-rows.ensures.finds early) c.in-Some.row.now more.0 more.1 in
    none_some c.in_ok-entry.field-0 _ c.in-None.is (c.in_ok-entry.ensures it.0 it.3 it.2))
