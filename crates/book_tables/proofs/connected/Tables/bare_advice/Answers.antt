use Rattle.std.proofs.Common.{rules, ◌≡◌, ◌∙◌, sym, ap, None, Some, Option, option_map, List, IsTrue}
use Rattle.std.specs.Option.{option_copied}
use Rattle.std.specs.Prelude.{slice_get}
use Rattle.definitions.specs.Header.{is_partner}
use Rattle.sqlite.specs.Held.{state}
use Rattle.sqlite.specs.Order.{Row}
use Rattle.book_tables.specs.Looking.{bare_advice}
use Rattle.book_tables.proofs.AdvicesFound.{no_advice, first_advice}
use Rattle.book_tables.proofs.Looked.{begins_with, is_empty}
use Rattle.book_statements.proofs.NeedTexts.{advice_reads}
use Rattle.book_tables.proofs.Queries.{asked_wrong}
use Rattle.book_tables.proofs.ReadLemmas.{none_some}
use Rattle.book_tables.proofs.connected.Tables.bare_advice.Goals as goal

pub under_text-requires : goal.under_text-requires
under_text-requires g c = advice_reads

pub returns-in_default-clause-advice : goal.returns-in_default-clause-advice
returns-in_default-clause-advice g c = λ clean W L stands.
    let partner : IsTrue (is_partner c.args.who) = search rules in
    let none : ◌≡◌ {A = Option Row} None (slice_get c.in_ok-rows.rows.items 0) = sym (ap option_copied c.in_default.is) ∙ c.first.ensures.value ∙ ap (λ (rs : List Row). slice_get rs 0) c.deref.ensures.value in
    sym (ap (option_map bare_advice) (no_advice (state g.S.Store c.args.self.now.conn) W L c.args.who c.args.shipment.now partner stands c.in_ok-rows.rows.items (c.in_ok-rows.ensures.finds clean) (is_empty c.in_ok-rows.rows.items none)))

pub returns-in-Some-2-clause-advice : goal.returns-in-Some-2-clause-advice
returns-in-Some-2-clause-advice g c = λ clean W L stands.
    let partner : IsTrue (is_partner c.args.who) = search rules in
    let first : ◌≡◌ {A = Option Row} (Some c.in-Some.row.now) (slice_get c.in_ok-rows.rows.items 0) = sym (ap option_copied c.in-Some.is) ∙ c.first.ensures.value ∙ ap (λ (rs : List Row). slice_get rs 0) c.deref.ensures.value in
    let more = begins_with c.in_ok-rows.rows.items c.in-Some.row.now first in
    let it = first_advice (state g.S.Store c.args.self.now.conn) W L c.args.who c.args.shipment.now partner stands c.in_ok-rows.rows.items (c.in_ok-rows.ensures.finds clean) c.in-Some.row.now more.0 more.1 in
    sym c.in-Some-2.is ∙ c.in_ok-advice.ensures it.0 it.2 ∙ sym (ap (option_map bare_advice) it.1)

pub returns-clause-asked : goal.returns-clause-asked
returns-clause-asked g c = asked_wrong g.S.Store c.args.self.now c.under_text.new.self c.in_ok-rows.rows c.in_ok-rows.ensures.asked (λ clean W L stands.
    let partner : IsTrue (is_partner c.args.who) = search rules in
    let first : ◌≡◌ {A = Option Row} (Some c.in-Some.row.now) (slice_get c.in_ok-rows.rows.items 0) = sym (ap option_copied c.in-Some.is) ∙ c.first.ensures.value ∙ ap (λ (rs : List Row). slice_get rs 0) c.deref.ensures.value in
    let more = begins_with c.in_ok-rows.rows.items c.in-Some.row.now first in
    let it = first_advice (state g.S.Store c.args.self.now.conn) W L c.args.who c.args.shipment.now partner stands c.in_ok-rows.rows.items (c.in_ok-rows.ensures.finds clean) c.in-Some.row.now more.0 more.1 in
    none_some c.in_ok-advice.field-0 (bare_advice it.0) c.in-None.is (c.in_ok-advice.ensures it.0 it.2))
