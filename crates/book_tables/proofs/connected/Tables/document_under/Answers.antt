use Rattle.std.proofs.Common.{rules, ◌≡◌, ◌∙◌, sym, ap, subst, None, Some, Option, List, IsTrue}
use Rattle.std.specs.Option.{option_copied}
use Rattle.std.specs.Prelude.{slice_get}
use Rattle.definitions.specs.Header.{is_partner}
use Rattle.sqlite.specs.Held.{state}
use Rattle.sqlite.specs.Order.{Row}
use Rattle.book_tables.proofs.SentFound.{none_sent, first_sent}
use Rattle.book_tables.proofs.Looked.{begins_with, is_empty}
use Rattle.book_statements.proofs.NeedTexts.{sent_reads}
use Rattle.book_tables.proofs.Queries.{asked_wrong}
use Rattle.book_tables.proofs.ReadLemmas.{if_there, none_some, same_some}
use Rattle.book_tables.specs.Outgoing.{IsReadFirst}
use Rattle.book_tables.specs.Showing.{HasKindAndState}
use Rattle.book_tables.proofs.connected.Tables.document_under.Goals as goal

pub under_number-requires : goal.under_number-requires
under_number-requires g c = sent_reads

pub returns-in_default-clause-document : goal.returns-in_default-clause-document
returns-in_default-clause-document g c = λ clean W L stands.
    let partner : IsTrue (is_partner c.args.who) = search rules in
    let none : ◌≡◌ {A = Option Row} None (slice_get c.in_ok-rows.rows.items 0) = sym (ap option_copied c.in_default.is) ∙ c.first.ensures.value ∙ ap (λ (rs : List Row). slice_get rs 0) c.deref.ensures.value in
    sym (none_sent (state g.S.Store c.args.self.now.conn) W L c.args.who c.args.n partner stands c.in_ok-rows.rows.items (c.in_ok-rows.ensures.finds clean) (is_empty c.in_ok-rows.rows.items none))

pub returns-in_default-clause-known : goal.returns-in_default-clause-known
returns-in_default-clause-known g c = λ clean.
    let none : ◌≡◌ {A = Option Row} None (slice_get c.in_ok-rows.rows.items 0) = sym (ap option_copied c.in_default.is) ∙ c.first.ensures.value ∙ ap (λ (rs : List Row). slice_get rs 0) c.deref.ensures.value in
    let finds = c.in_ok-rows.ensures.finds clean in
    (finds.0, c.in_ok-rows.rows.items, finds.1, subst (IsReadFirst 0 1) (sym (is_empty c.in_ok-rows.rows.items none)) tt)

pub returns-in-Some-document_in-clause-document : goal.returns-in-Some-document_in-clause-document
returns-in-Some-document_in-clause-document g c = λ clean W L stands.
    let partner : IsTrue (is_partner c.args.who) = search rules in
    let first : ◌≡◌ {A = Option Row} (Some c.in-Some.row.now) (slice_get c.in_ok-rows.rows.items 0) = sym (ap option_copied c.in-Some.is) ∙ c.first.ensures.value ∙ ap (λ (rs : List Row). slice_get rs 0) c.deref.ensures.value in
    let more = begins_with c.in_ok-rows.rows.items c.in-Some.row.now first in
    let it = first_sent (state g.S.Store c.args.self.now.conn) W L c.args.who c.args.n partner stands c.in_ok-rows.rows.items (c.in_ok-rows.ensures.finds clean) c.in-Some.row.now more.0 more.1 in
    same_some _ _ (sym c.in-Some-document_in.is ∙ c.document_in.ensures.shows it.0 _ it.1 it.2)

pub returns-in-Some-document_in-clause-known : goal.returns-in-Some-document_in-clause-known
returns-in-Some-document_in-clause-known g c = λ clean.
    let first : ◌≡◌ {A = Option Row} (Some c.in-Some.row.now) (slice_get c.in_ok-rows.rows.items 0) = sym (ap option_copied c.in-Some.is) ∙ c.first.ensures.value ∙ ap (λ (rs : List Row). slice_get rs 0) c.deref.ensures.value in
    let more = begins_with c.in_ok-rows.rows.items c.in-Some.row.now first in
    let known = if_there (HasKindAndState c.in-Some.row.now 0 1) _ _ c.in-Some-document_in.is c.document_in.ensures.known in
    let finds = c.in_ok-rows.ensures.finds clean in
    (finds.0, c.in_ok-rows.rows.items, finds.1, subst (IsReadFirst 0 1) (sym more.1) known)

pub returns-clause-asked : goal.returns-clause-asked
returns-clause-asked g c = asked_wrong g.S.Store c.args.self.now c.under_number.new.self c.in_ok-rows.rows c.in_ok-rows.ensures.asked (λ clean W L stands.
    let partner : IsTrue (is_partner c.args.who) = search rules in
    let first : ◌≡◌ {A = Option Row} (Some c.in-Some.row.now) (slice_get c.in_ok-rows.rows.items 0) = sym (ap option_copied c.in-Some.is) ∙ c.first.ensures.value ∙ ap (λ (rs : List Row). slice_get rs 0) c.deref.ensures.value in
    let more = begins_with c.in_ok-rows.rows.items c.in-Some.row.now first in
    let it = first_sent (state g.S.Store c.args.self.now.conn) W L c.args.who c.args.n partner stands c.in_ok-rows.rows.items (c.in_ok-rows.ensures.finds clean) c.in-Some.row.now more.0 more.1 in
    none_some _ _ c.in-None.is (c.document_in.ensures.shows it.0 _ it.1 it.2))
