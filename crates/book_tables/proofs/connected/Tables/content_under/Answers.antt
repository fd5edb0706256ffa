use Rattle.std.proofs.Common.{rules, refl, ◌∙◌, sym, ap, subst, List, option_map, IsTrue}
use Rattle.definitions.specs.Header.{is_partner, who_text}
use Rattle.definitions.specs.Reply.{out}
use Rattle.sqlite.specs.Held.{state}
use Rattle.sqlite.specs.Order.{Row}
use Rattle.book_tables.specs.Contents.{IsContent}
use Rattle.book_tables.specs.Outgoing.{IsReadFirst}
use Rattle.book_tables.proofs.ContentText.{content_reads}
use Rattle.book_tables.proofs.Looked.{content_read, content_there}
use Rattle.book_tables.proofs.Queries.{asked_wrong}
use Rattle.book_tables.proofs.ReadLemmas.{if_there, none_some, same_some}
use Rattle.book_tables.proofs.connected.Tables.content_under.Goals as goal

pub under_number-requires : goal.under_number-requires
under_number-requires g c = content_reads

pub returns-in-Some-clause-content : goal.returns-in-Some-clause-content
returns-in-Some-clause-content g c = λ clean W L stands before e back split is.
    let partner : IsTrue (is_partner c.args.who) = search rules in
    let shown = content_read (state g.S.Store c.args.self.now.conn) W L c.args.who c.args.n partner stands (who_text c.args.who) refl _ refl c.in_ok-rows.rows.items (c.in_ok-rows.ensures.finds clean) before e back split is in
    same_some c.in-Some.content.items (out W before e) (sym (ap (option_map (λ v. v.items)) c.in-Some.is)
    ∙ c.in_ok-content.ensures.shows (out W before e) (subst (λ (rs : List Row). IsContent rs (out W before e)) (sym c.deref.ensures.value) shown))

pub returns-clause-asked : goal.returns-clause-asked
returns-clause-asked g c = asked_wrong g.S.Store c.args.self.now c.under_number.new.self c.in_ok-rows.rows c.in_ok-rows.ensures.asked (λ clean W L stands.
    let partner : IsTrue (is_partner c.args.who) = search rules in
    let it = content_there (state g.S.Store c.args.self.now.conn) W L c.args.who c.args.n partner stands (who_text c.args.who) refl _ refl c.in_ok-rows.rows.items (c.in_ok-rows.ensures.finds clean) in
    none_some _ it.0 (ap (option_map (λ v. v.items)) c.in-None.is) (c.in_ok-content.ensures.shows it.0 (subst (λ (rs : List Row). IsContent rs it.0) (sym c.deref.ensures.value) it.1)))

pub returns-in-Some-clause-known : goal.returns-in-Some-clause-known
returns-in-Some-clause-known g c = λ clean.
    let known = if_there (IsReadFirst 1 2 _) c.in_ok-content.field-0 c.in-Some.content c.in-Some.is c.in_ok-content.ensures.known in
    let finds = c.in_ok-rows.ensures.finds clean in
    (finds.0, c.in_ok-rows.rows.items, finds.1, subst (λ (rs : List Row). IsReadFirst 1 2 rs) c.deref.ensures.value known)
