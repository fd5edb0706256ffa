use Rattle.std.proofs.Common.{rules, refl, ◌≡◌, ◌∙◌, sym, ap, None, Some, Option, List, IsTrue}
use Rattle.std.proofs.lemmas.Result.{IfOk-weaker}
use Rattle.std.specs.Option.{option_copied}
use Rattle.std.specs.Prelude.{slice_get}
use Rattle.definitions.specs.Header.{is_partner, who_text}
use Rattle.store.specs.Replayed.{all_written}
use Rattle.sqlite.specs.Held.{state}
use Rattle.sqlite.specs.Order.{Row, column}
use Rattle.book_statements.specs.Recorded.{written_at}
use Rattle.book_tables.proofs.AskedLater.{stands_later, clean_before}
use Rattle.book_statements.proofs.KnownTexts.{under_reads}
use Rattle.book_tables.proofs.Looked.{begins_with, is_empty, none_under, first_under}
use Rattle.book_tables.proofs.Queries.{asked_on, asked_wrong}
use Rattle.book_tables.proofs.ReadLemmas.{same_number_value}
use Rattle.book_tables.proofs.connected.Tables.entry_under.Goals as goal

pub under_text-requires : goal.under_text-requires
under_text-requires g c = under_reads

pub returns-in_default-clause-entry : goal.returns-in_default-clause-entry
returns-in_default-clause-entry g c = λ clean W L stands.
    let partner : IsTrue (is_partner c.args.who) = search rules in
    let none : ◌≡◌ {A = Option Row} None (slice_get c.in_ok-rows.rows.items 0) = sym (ap option_copied c.in_default.is) ∙ c.first.ensures.value ∙ ap (λ (rs : List Row). slice_get rs 0) c.deref.ensures.value in
    none_under (state g.S.Store c.args.self.now.conn) W L c.args.who c.args.mark.now partner stands (who_text c.args.who) refl c.in_ok-rows.rows.items (c.in_ok-rows.ensures.finds clean) (is_empty c.in_ok-rows.rows.items none)

pub returns-in-Some-number_at-clause-entry : goal.returns-in-Some-number_at-clause-entry
returns-in-Some-number_at-clause-entry g c = λ clean W L stands.
    let partner : IsTrue (is_partner c.args.who) = search rules in
    let old = state g.S.Store c.args.self.now.conn in
    let mid = state g.S.Store c.under_text.new.self.conn in
    let new = state g.S.Store c.entry_at.new.self.conn in
    let early = clean_before mid new c.entry_at.ensures.asked.left clean in
    let first : ◌≡◌ {A = Option Row} (Some c.in-Some.row.now) (slice_get c.in_ok-rows.rows.items 0) = sym (ap option_copied c.in-Some.is) ∙ c.first.ensures.value ∙ ap (λ (rs : List Row). slice_get rs 0) c.deref.ensures.value in
    let more = begins_with c.in_ok-rows.rows.items c.in-Some.row.now first in
    let it = first_under old W L c.args.who c.args.mark.now partner stands (who_text c.args.who) refl c.in_ok-rows.rows.items (c.in_ok-rows.ensures.finds early) c.in-Some.row.now more.0 more.1 in
    let seq : c.in-Some-number_at.seq ≡ it.0 = same_number_value _ _ (sym c.in-Some-number_at.ensures.number ∙ ap (λ (r : Row). column r 0) it.1) in
    IfOk-weaker c.entry_at.result _ _ (λ entry is. is ∙ ap (written_at (all_written L)) seq ∙ it.2) (c.entry_at.ensures.entry clean W L (stands_later old mid W L early c.in_ok-rows.ensures.asked.left stands))

pub returns-in-Some-number_at-clause-asked : goal.returns-in-Some-number_at-clause-asked
returns-in-Some-number_at-clause-asked g c = asked_on g.S.Store c.args.self.now c.under_text.new.self c.entry_at.new.self c.in_ok-rows.rows _ c.in_ok-rows.ensures.asked c.entry_at.ensures.asked

pub returns-clause-asked : goal.returns-clause-asked
returns-clause-asked g c = asked_wrong g.S.Store c.args.self.now c.under_text.new.self c.in_ok-rows.rows c.in_ok-rows.ensures.asked (λ clean W L stands.
    let partner : IsTrue (is_partner c.args.who) = search rules in
    let first : ◌≡◌ {A = Option Row} (Some c.in-Some.row.now) (slice_get c.in_ok-rows.rows.items 0) = sym (ap option_copied c.in-Some.is) ∙ c.first.ensures.value ∙ ap (λ (rs : List Row). slice_get rs 0) c.deref.ensures.value in
    let more = begins_with c.in_ok-rows.rows.items c.in-Some.row.now first in
    let it = first_under (state g.S.Store c.args.self.now.conn) W L c.args.who c.args.mark.now partner stands (who_text c.args.who) refl c.in_ok-rows.rows.items (c.in_ok-rows.ensures.finds clean) c.in-Some.row.now more.0 more.1 in
    c.in-None.ensures.number it.0 (ap (λ (r : Row). column r 0) it.1))
