use Rattle.rules.proofs.Fits.{page_fits}
use Rattle.std.proofs.Common.{arith, rules, ◌≡◌, ◌∙◌, sym, ap, subst, None, Some, Option, List, IsTrue}
use Rattle.std.specs.Option.{option_copied}
use Rattle.std.specs.Prelude.{slice_get}
use Rattle.definitions.specs.Rules.{Today}
use Rattle.definitions.specs.Header.{is_partner}
use Rattle.definitions.specs.Page.{page_of}
use Rattle.definitions.specs.Register.{own}
use Rattle.sqlite.specs.Held.{state}
use Rattle.sqlite.specs.Order.{Row, column}
use Rattle.book_tables.proofs.LastFound.{IsLast, last_read, last_reads}
use Rattle.book_tables.proofs.Looked.{begins_with, is_empty}
use Rattle.book_tables.proofs.Queries.{asked_wrong}
use Rattle.book_tables.proofs.ReadLemmas.{same_number_value}
use Rattle.book_tables.proofs.connected.Tables.last_number.Goals as goal

pub of_depositor-requires : goal.of_depositor-requires
of_depositor-requires g c = last_reads

pub returns-in_default-clause-number : goal.returns-in_default-clause-number
returns-in_default-clause-number g c = λ clean W L stands.
    let partner : IsTrue (is_partner c.args.who) = search rules in
    let none : ◌≡◌ {A = Option Row} None (slice_get c.in_ok-rows.rows.items 0) = sym (ap option_copied c.in_default.is) ∙ c.first.ensures.value ∙ ap (λ (rs : List Row). slice_get rs 0) c.deref.ensures.value in
    let told = last_read (state g.S.Store c.args.self.now.conn) W L c.args.who partner stands c.in_ok-rows.rows.items (c.in_ok-rows.ensures.finds clean) in
    sym (subst (λ (rs : List Row). IsLast rs (page_of (own L c.args.who)).entries) (is_empty c.in_ok-rows.rows.items none) told)

pub returns-in-Some-small_at-clause-number : goal.returns-in-Some-small_at-clause-number
returns-in-Some-small_at-clause-number g c = λ clean W L stands.
    let partner : IsTrue (is_partner c.args.who) = search rules in
    let first : ◌≡◌ {A = Option Row} (Some c.in-Some.row.now) (slice_get c.in_ok-rows.rows.items 0) = sym (ap option_copied c.in-Some.is) ∙ c.first.ensures.value ∙ ap (λ (rs : List Row). slice_get rs 0) c.deref.ensures.value in
    let more = begins_with c.in_ok-rows.rows.items c.in-Some.row.now first in
    let told = last_read (state g.S.Store c.args.self.now.conn) W L c.args.who partner stands c.in_ok-rows.rows.items (c.in_ok-rows.ensures.finds clean) in
    let row = subst (λ (rs : List Row). IsLast rs (page_of (own L c.args.who)).entries) more.1 told in
    same_number_value _ _ (sym c.in-Some-small_at.ensures ∙ ap (λ (r : Row). column r 0) row)

pub returns-clause-asked : goal.returns-clause-asked
returns-clause-asked g c = asked_wrong g.S.Store c.args.self.now c.of_depositor.new.self c.in_ok-rows.rows c.in_ok-rows.ensures.asked (λ clean W L stands.
    let partner : IsTrue (is_partner c.args.who) = search rules in
    let first : ◌≡◌ {A = Option Row} (Some c.in-Some.row.now) (slice_get c.in_ok-rows.rows.items 0) = sym (ap option_copied c.in-Some.is) ∙ c.first.ensures.value ∙ ap (λ (rs : List Row). slice_get rs 0) c.deref.ensures.value in
    let more = begins_with c.in_ok-rows.rows.items c.in-Some.row.now first in
    let told = last_read (state g.S.Store c.args.self.now.conn) W L c.args.who partner stands c.in_ok-rows.rows.items (c.in_ok-rows.ensures.finds clean) in
    let row = subst (λ (rs : List Row). IsLast rs (page_of (own L c.args.who)).entries) more.1 told in
    let few = (page_fits Today W L c.args.who (stands (c.in_ok-rows.ensures.finds clean).0).legal).entries in
    c.in-None.ensures _ (omega (arith, few)) (ap (λ (r : Row). column r 0) row))
