use Rattle.std.proofs.Common.{◌≡◌, ◌∙◌, sym, ap, None, Some, Option, option_map, List}
use Rattle.std.specs.Option.{option_copied}
use Rattle.std.specs.Prelude.{slice_get}
use Rattle.rules.specs.Written.{Written}
use Rattle.sqlite.specs.Held.{state}
use Rattle.sqlite.specs.Order.{Row}
use Rattle.book_tables.proofs.Looked.{begins_with, is_empty}
use Rattle.book_tables.proofs.NumberedFound.{none_ruled, one_ruled}
use Rattle.book_tables.proofs.Queries.{asked_wrong}
use Rattle.book_tables.proofs.ReadLemmas.{none_some}
use Rattle.book_tables.proofs.connected.Tables.rules_at.Goals as goal

pub returns-in_default-clause-rules : goal.returns-in_default-clause-rules
returns-in_default-clause-rules g c = λ clean W L stands.
    let none : ◌≡◌ {A = Option Row} None (slice_get c.in_ok-rows.rows.items 0) = sym (ap option_copied c.in_default.is) ∙ c.first.ensures.value ∙ ap (λ (rs : List Row). slice_get rs 0) c.deref.ensures.value in
    none_ruled (state g.S.Store c.args.self.now.conn) W L c.args.seq stands c.in_ok-rows.rows.items (c.in_ok-rows.ensures.finds clean) (is_empty c.in_ok-rows.rows.items none)

pub returns-in-Some-rules_in-clause-rules : goal.returns-in-Some-rules_in-clause-rules
returns-in-Some-rules_in-clause-rules g c = λ clean W L stands.
    let first : ◌≡◌ {A = Option Row} (Some c.in-Some.row.now) (slice_get c.in_ok-rows.rows.items 0) = sym (ap option_copied c.in-Some.is) ∙ c.first.ensures.value ∙ ap (λ (rs : List Row). slice_get rs 0) c.deref.ensures.value in
    let more = begins_with c.in_ok-rows.rows.items c.in-Some.row.now first in
    let it = one_ruled (state g.S.Store c.args.self.now.conn) W L c.args.seq stands c.in_ok-rows.rows.items (c.in_ok-rows.ensures.finds clean) c.in-Some.row.now more.0 more.1 c.rules_in.result c.rules_in.ensures.shows in
    sym c.in-Some-rules_in.is ∙ it.1 ∙ sym (ap (option_map (λ (w : Written). w.rules)) it.2)

pub returns-clause-asked : goal.returns-clause-asked
returns-clause-asked g c = asked_wrong g.S.Store c.args.self.now c.rules_rows_at.new.self c.in_ok-rows.rows c.in_ok-rows.ensures.asked (λ clean W L stands.
    let first : ◌≡◌ {A = Option Row} (Some c.in-Some.row.now) (slice_get c.in_ok-rows.rows.items 0) = sym (ap option_copied c.in-Some.is) ∙ c.first.ensures.value ∙ ap (λ (rs : List Row). slice_get rs 0) c.deref.ensures.value in
    let more = begins_with c.in_ok-rows.rows.items c.in-Some.row.now first in
    let it = one_ruled (state g.S.Store c.args.self.now.conn) W L c.args.seq stands c.in_ok-rows.rows.items (c.in_ok-rows.ensures.finds clean) c.in-Some.row.now more.0 more.1 c.rules_in.result c.rules_in.ensures.shows in
    none_some c.rules_in.result _ c.in-None.is it.1)
