use Rattle.std.proofs.Common.{rules, refl, ◌≡◌, ◌∙◌, sym, ap, subst, List, Option, Some, option_map, map, filter, length, IsTrue}
use Rattle.std.specs.Prelude.{nat_lt}
use Rattle.std.specs.List.{AllByRecursion}
use Rattle.definitions.specs.Header.{is_partner, who_text}
use Rattle.definitions.specs.Register.{own}
use Rattle.definitions.specs.Rows.{OutRow, outbox_rows}
use Rattle.sqlite.specs.Held.{state}
use Rattle.sqlite.specs.Order.{Row}
use Rattle.sqlite_rules.specs.Lists.{Has}
use Rattle.book_tables.specs.Showing.{out_shown, IsOut, IsSent}
use Rattle.book_tables.proofs.FoundRows.{sent_read}
use Rattle.book_tables.proofs.Queries.{asked_wrong}
use Rattle.book_tables.proofs.ReadLemmas.{if_there, none_some, same_some}
use Rattle.book_statements.proofs.ShowingTexts.{outbox_reads}
use Rattle.book_tables.proofs.connected.Tables.sent_rows.Goals as goal

abbrev ReadsRight : List Row → Option (List OutRow) → Type 0
ReadsRight rows read = (rs : List OutRow) → ((r : OutRow) → Has rs r → IsSent r) → rows ≡ map out_shown rs → read ≡ Some (filter (λ (r : OutRow). nat_lt 0 (length r.content)) rs)

pub of_depositor-requires : goal.of_depositor-requires
of_depositor-requires g c = outbox_reads

pub returns-in-Some-clause-rows : goal.returns-in-Some-clause-rows
returns-in-Some-clause-rows g c = λ clean W L stands.
    let partner : IsTrue (is_partner c.args.who) = search rules in
    let right = subst (λ (rows : List Row). ReadsRight rows (option_map (λ v. v.items) c.in_ok-shown.field-0)) c.deref.ensures.value c.in_ok-shown.ensures.shows in
    same_some c.in-Some.shown.items (outbox_rows W (own L c.args.who)) (sym (ap (option_map (λ v. v.items)) c.in-Some.is)
    ∙ sent_read (state g.S.Store c.args.self.now.conn) W L c.args.who partner c.in_ok-rows.ensures.live stands (who_text c.args.who) refl c.in_ok-rows.rows.items (c.in_ok-rows.ensures.finds clean) _ right)

pub returns-in-Some-clause-known : goal.returns-in-Some-clause-known
returns-in-Some-clause-known g c = λ clean.
    let each = if_there (AllByRecursion IsOut _) c.in_ok-shown.field-0 c.in-Some.shown c.in-Some.is c.in_ok-shown.ensures.all in
    let finds = c.in_ok-rows.ensures.finds clean in
    (finds.0, c.in_ok-rows.rows.items, finds.1, subst (λ (rows : List Row). AllByRecursion IsOut rows) c.deref.ensures.value each)

pub returns-clause-asked : goal.returns-clause-asked
returns-clause-asked g c = asked_wrong g.S.Store c.args.self.now c.of_depositor.new.self c.in_ok-rows.rows c.in_ok-rows.ensures.asked (λ clean W L stands.
    let partner : IsTrue (is_partner c.args.who) = search rules in
    let right = subst (λ (rows : List Row). ReadsRight rows (option_map (λ v. v.items) c.in_ok-shown.field-0)) c.deref.ensures.value c.in_ok-shown.ensures.shows in
    none_some _ (outbox_rows W (own L c.args.who)) (ap (option_map (λ v. v.items)) c.in-None.is)
    (sent_read (state g.S.Store c.args.self.now.conn) W L c.args.who partner c.in_ok-rows.ensures.live stands (who_text c.args.who) refl c.in_ok-rows.rows.items (c.in_ok-rows.ensures.finds clean) _ right))
