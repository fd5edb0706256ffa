use Rattle.std.proofs.Common.{◌≡◌, ◌∙◌, sym, ap, subst, None, Some, Option, List}
use Rattle.std.specs.Option.{option_copied}
use Rattle.std.specs.Prelude.{slice_get}
use Rattle.sqlite.specs.Held.{state}
use Rattle.sqlite.specs.Order.{Row}
use Rattle.book_tables.specs.Enrolments.{IsFirstFrom, enrolments}
use Rattle.book_tables.proofs.EnrolledFound.{ShowsFirst, first_read}
use Rattle.book_tables.proofs.Looked.{begins_with, is_empty}
use Rattle.book_tables.proofs.Queries.{asked_wrong}
use Rattle.book_tables.proofs.ReadLemmas.{none_some}
use Rattle.book_tables.proofs.connected.Tables.enrolment_from.Goals as goal

pub returns-in_default-clause-first : goal.returns-in_default-clause-first
returns-in_default-clause-first g c = λ clean W L stands.
    let none : ◌≡◌ {A = Option Row} None (slice_get c.in_ok-rows.rows.items 0) = sym (ap option_copied c.in_default.is) ∙ c.first.ensures.value ∙ ap (λ (rs : List Row). slice_get rs 0) c.deref.ensures.value in
    let told = first_read (state g.S.Store c.args.self.now.conn) W L c.args.text.now stands c.in_ok-rows.rows.items (c.in_ok-rows.ensures.finds clean) in
    subst (λ (rs : List Row). ShowsFirst rs c.args.text.now (enrolments L)) (is_empty c.in_ok-rows.rows.items none) told

pub returns-in-Some-enrolment_in-clause-first : goal.returns-in-Some-enrolment_in-clause-first
returns-in-Some-enrolment_in-clause-first g c = λ clean W L stands.
    let first : ◌≡◌ {A = Option Row} (Some c.in-Some.row.now) (slice_get c.in_ok-rows.rows.items 0) = sym (ap option_copied c.in-Some.is) ∙ c.first.ensures.value ∙ ap (λ (rs : List Row). slice_get rs 0) c.deref.ensures.value in
    let more = begins_with c.in_ok-rows.rows.items c.in-Some.row.now first in
    let told = first_read (state g.S.Store c.args.self.now.conn) W L c.args.text.now stands c.in_ok-rows.rows.items (c.in_ok-rows.ensures.finds clean) in
    let here = subst (λ (rs : List Row). ShowsFirst rs c.args.text.now (enrolments L)) more.1 told in
    subst (λ o. IsFirstFrom c.args.text.now (enrolments L) o) (sym (sym c.in-Some-enrolment_in.is ∙ c.enrolment_in.ensures here.0 here.2 here.3)) here.1

pub returns-clause-asked : goal.returns-clause-asked
returns-clause-asked g c = asked_wrong g.S.Store c.args.self.now c.enrolment_rows.new.self c.in_ok-rows.rows c.in_ok-rows.ensures.asked (λ clean W L stands.
    let first : ◌≡◌ {A = Option Row} (Some c.in-Some.row.now) (slice_get c.in_ok-rows.rows.items 0) = sym (ap option_copied c.in-Some.is) ∙ c.first.ensures.value ∙ ap (λ (rs : List Row). slice_get rs 0) c.deref.ensures.value in
    let more = begins_with c.in_ok-rows.rows.items c.in-Some.row.now first in
    let told = first_read (state g.S.Store c.args.self.now.conn) W L c.args.text.now stands c.in_ok-rows.rows.items (c.in_ok-rows.ensures.finds clean) in
    let here = subst (λ (rs : List Row). ShowsFirst rs c.args.text.now (enrolments L)) more.1 told in
    none_some c.enrolment_in.result here.0 c.in-None.is (c.enrolment_in.ensures here.0 here.2 here.3))
