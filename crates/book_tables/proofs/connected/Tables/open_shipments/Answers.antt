use Rattle.std.proofs.Common.{rules, ◌≡◌, ◌∙◌, sym, ap, subst, ℕ, List, Option, Some, option_map, map, IsTrue}
use Rattle.std.specs.List.{AllByRecursion}
use Rattle.definitions.specs.Header.{is_partner}
use Rattle.sqlite.specs.Held.{state}
use Rattle.sqlite.specs.Order.{Row}
use Rattle.book_tables.specs.Opened.{IsOpen, open_shown}
use Rattle.book_tables.proofs.OpenFound.{shipments_read}
use Rattle.book_tables.proofs.UnclosedTexts.{shipments_reads}
use Rattle.book_tables.proofs.Queries.{asked_wrong}
use Rattle.book_tables.proofs.ReadLemmas.{if_there, none_some, same_some}
use Rattle.book_tables.proofs.connected.Tables.open_shipments.Goals as goal

abbrev ReadsRight : List Row → Option (List (List ℕ)) → Type 0
ReadsRight rows read = (names : List (List ℕ)) → rows ≡ map open_shown names → read ≡ Some names

pub of_depositor-requires : goal.of_depositor-requires
of_depositor-requires g c = shipments_reads

pub returns-in-Some-clause-names : goal.returns-in-Some-clause-names
returns-in-Some-clause-names g c = λ clean W L stands.
    let partner : IsTrue (is_partner c.args.who) = search rules in
    let right = subst (λ (rows : List Row). ReadsRight rows (option_map (λ v. v.items) c.in_ok-names.field-0)) c.deref.ensures.value c.in_ok-names.ensures.shows in
    same_some c.in-Some.names.items _ (sym (ap (option_map (λ v. v.items)) c.in-Some.is)
    ∙ shipments_read (state g.S.Store c.args.self.now.conn) W L c.args.who partner c.in_ok-rows.ensures.live stands c.in_ok-rows.rows.items (c.in_ok-rows.ensures.finds clean) _ right)

pub returns-in-Some-clause-open : goal.returns-in-Some-clause-open
returns-in-Some-clause-open g c = λ clean.
    let each = if_there (AllByRecursion IsOpen _) c.in_ok-names.field-0 c.in-Some.names c.in-Some.is c.in_ok-names.ensures.open in
    let finds = c.in_ok-rows.ensures.finds clean in
    (finds.0, c.in_ok-rows.rows.items, finds.1, subst (λ (rows : List Row). AllByRecursion IsOpen rows) c.deref.ensures.value each)

pub returns-clause-asked : goal.returns-clause-asked
returns-clause-asked g c = asked_wrong g.S.Store c.args.self.now c.of_depositor.new.self c.in_ok-rows.rows c.in_ok-rows.ensures.asked (λ clean W L stands.
    let partner : IsTrue (is_partner c.args.who) = search rules in
    let right = subst (λ (rows : List Row). ReadsRight rows (option_map (λ v. v.items) c.in_ok-names.field-0)) c.deref.ensures.value c.in_ok-names.ensures.shows in
    none_some _ _ (ap (option_map (λ v. v.items)) c.in-None.is)
    (shipments_read (state g.S.Store c.args.self.now.conn) W L c.args.who partner c.in_ok-rows.ensures.live stands c.in_ok-rows.rows.items (c.in_ok-rows.ensures.finds clean) _ right))
