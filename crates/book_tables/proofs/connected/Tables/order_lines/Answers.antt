use Rattle.std.specs.List.{list_all}
use Rattle.rules.specs.Fitting.{is_fitting_ordered}
use Rattle.std.proofs.Common.{true, rules, ◌≡◌, ◌∙◌, sym, ap, subst, List, Option, Some, option_map, map, IsTrue}
use Rattle.definitions.specs.Rules.{Today}
use Rattle.definitions.specs.Header.{is_partner}
use Rattle.definitions.specs.Page.{PageLine}
use Rattle.sqlite.specs.Held.{state}
use Rattle.sqlite.specs.Order.{Row}
use Rattle.book_tables.specs.Showing.{order_line_shown}
use Rattle.book_tables.proofs.OrdersFound.{ordered_read}
use Rattle.book_statements.proofs.NeedTexts.{order_lines_reads}
use Rattle.book_tables.proofs.Queries.{asked_wrong}
use Rattle.book_tables.proofs.ReadLemmas.{none_some, same_some}
use Rattle.book_tables.proofs.connected.Tables.order_lines.Goals as goal

abbrev ReadsRight : List Row → Option (List PageLine) → Type 0
ReadsRight rows read = (rs : List PageLine) → list_all (is_fitting_ordered Today) rs ≡ true → rows ≡ map order_line_shown rs → read ≡ Some rs

pub under_text-requires : goal.under_text-requires
under_text-requires g c = order_lines_reads

pub returns-in-Some-clause-lines : goal.returns-in-Some-clause-lines
returns-in-Some-clause-lines g c = λ clean W L stands.
    let partner : IsTrue (is_partner c.args.who) = search rules in
    let right = subst (λ (rows : List Row). ReadsRight rows (option_map (λ v. v.items) c.in_ok-lines.field-0)) c.deref.ensures.value c.in_ok-lines.ensures.shows in
    same_some c.in-Some.lines.items _ (sym (ap (option_map (λ v. v.items)) c.in-Some.is)
    ∙ ordered_read (state g.S.Store c.args.self.now.conn) W L c.args.who c.args.number.now partner c.in_ok-rows.ensures.live stands c.in_ok-rows.rows.items (c.in_ok-rows.ensures.finds clean) _ right)

pub returns-clause-asked : goal.returns-clause-asked
returns-clause-asked g c = asked_wrong g.S.Store c.args.self.now c.under_text.new.self c.in_ok-rows.rows c.in_ok-rows.ensures.asked (λ clean W L stands.
    let partner : IsTrue (is_partner c.args.who) = search rules in
    let right = subst (λ (rows : List Row). ReadsRight rows (option_map (λ v. v.items) c.in_ok-lines.field-0)) c.deref.ensures.value c.in_ok-lines.ensures.shows in
    none_some _ _ (ap (option_map (λ v. v.items)) c.in-None.is)
    (ordered_read (state g.S.Store c.args.self.now.conn) W L c.args.who c.args.number.now partner c.in_ok-rows.ensures.live stands c.in_ok-rows.rows.items (c.in_ok-rows.ensures.finds clean) _ right))
