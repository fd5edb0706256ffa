use Rattle.std.proofs.Common.{rules, ◌≡◌, ◌∙◌, sym, ap, None, Some, Option, option_map, List, IsTrue}
use Rattle.std.specs.Option.{option_copied}
use Rattle.std.specs.Prelude.{slice_get}
use Rattle.definitions.specs.Header.{is_partner}
use Rattle.sqlite.specs.Held.{state}
use Rattle.sqlite.specs.Order.{Row}
use Rattle.book_tables.specs.Looking.{bare_order}
use Rattle.book_tables.proofs.OrdersFound.{no_order, first_order}
use Rattle.book_tables.proofs.Looked.{begins_with, is_empty}
use Rattle.book_statements.proofs.NeedTexts.{order_reads}
use Rattle.book_tables.proofs.Queries.{asked_wrong}
use Rattle.book_tables.proofs.ReadLemmas.{none_some}
use Rattle.book_tables.proofs.connected.Tables.bare_order.Goals as goal

pub under_text-requires : goal.under_text-requires
under_text-requires g c = order_reads

pub returns-in_default-clause-order : goal.returns-in_default-clause-order
returns-in_default-clause-order g c = λ clean W L stands.
    let partner : IsTrue (is_partner c.args.who) = search rules in
    let none : ◌≡◌ {A = Option Row} None (slice_get c.in_ok-rows.rows.items 0) = sym (ap option_copied c.in_default.is) ∙ c.first.ensures.value ∙ ap (λ (rs : List Row). slice_get rs 0) c.deref.ensures.value in
    sym (ap (option_map bare_order) (no_order (state g.S.Store c.args.self.now.conn) W L c.args.who c.args.number.now partner stands c.in_ok-rows.rows.items (c.in_ok-rows.ensures.finds clean) (is_empty c.in_ok-rows.rows.items none)))

pub returns-in-Some-2-clause-order : goal.returns-in-Some-2-clause-order
returns-in-Some-2-clause-order g c = λ clean W L stands.
    let partner : IsTrue (is_partner c.args.who) = search rules in
    let first : ◌≡◌ {A = Option Row} (Some c.in-Some.row.now) (slice_get c.in_ok-rows.rows.items 0) = sym (ap option_copied c.in-Some.is) ∙ c.first.ensures.value ∙ ap (λ (rs : List Row). slice_get rs 0) c.deref.ensures.value in
    let more = begins_with c.in_ok-rows.rows.items c.in-Some.row.now first in
    let it = first_order (state g.S.Store c.args.self.now.conn) W L c.args.who c.args.number.now partner stands c.in_ok-rows.rows.items (c.in_ok-rows.ensures.finds clean) c.in-Some.row.now more.0 more.1 in
    sym c.in-Some-2.is ∙ c.in_ok-order.ensures it.0 it.2 ∙ sym (ap (option_map bare_order) it.1)

pub returns-clause-asked : goal.returns-clause-asked
returns-clause-asked g c = asked_wrong g.S.Store c.args.self.now c.under_text.new.self c.in_ok-rows.rows c.in_ok-rows.ensures.asked (λ clean W L stands.
    let partner : IsTrue (is_partner c.args.who) = search rules in
    let first : ◌≡◌ {A = Option Row} (Some c.in-Some.row.now) (slice_get c.in_ok-rows.rows.items 0) = sym (ap option_copied c.in-Some.is) ∙ c.first.ensures.value ∙ ap (λ (rs : List Row). slice_get rs 0) c.deref.ensures.value in
    let more = begins_with c.in_ok-rows.rows.items c.in-Some.row.now first in
    let it = first_order (state g.S.Store c.args.self.now.conn) W L c.args.who c.args.number.now partner stands c.in_ok-rows.rows.items (c.in_ok-rows.ensures.finds clean) c.in-Some.row.now more.0 more.1 in
    none_some c.in_ok-order.field-0 (bare_order it.0) c.in-None.is (c.in_ok-order.ensures it.0 it.2))
