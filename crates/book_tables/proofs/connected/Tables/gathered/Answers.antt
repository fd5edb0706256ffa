use Rattle.std.proofs.Common.{◌≡◌, ◌∙◌, ◌++◌, ap, List, ℕ, map, subst}
use Rattle.std.specs.Prelude.{IfOk, flat_map}
use Rattle.sqlite.specs.Held.{state}
use Rattle.definitions.specs.Need.{items_in, items_of}
use Rattle.definitions.specs.Page.{PageAdvice, PageOrder, page_of}
use Rattle.definitions.specs.Register.{own}
use Rattle.rules.specs.Pages.{PageFacts}
use Rattle.rules.specs.Parts.{Named}
use Rattle.book_tables.specs.Needed.{none_named, part_for, with_numbers, with_texts}
use Rattle.book_tables.specs.declared.needed.Sought.TheVariants.{Advice, Order, Lots}
use Rattle.book_tables.proofs.AskedLater.{stands_later, clean_before}
use Rattle.book_tables.proofs.Queries.{went_on}
use Rattle.book_tables.proofs.connected.Tables.gathered.Goals as goal

pub returns-clause-found : goal.returns-clause-found
returns-clause-found g c = λ clean W L stands is.
    let old = state g.S.Store c.args.self.now.conn in
    let mid = state g.S.Store c.named.new.self.conn in
    let new = state g.S.Store c.gather.new.self.conn in
    let need = c.args.need.now in
    let early = clean_before mid new c.gather.ensures.went.left clean in
    let n : Named = with_numbers need.documents (with_texts Order need.orders (with_texts Advice need.shipments none_named)) in
    let before : c.in_ok-draft.draft ≡ part_for L c.args.who n = c.in_ok-draft.ensures.found early W L stands none_named is in
    let names : c.deref.result.now ≡ items_in need (page_of (own L c.args.who)) =
    c.deref.ensures.value ∙ c.in_ok-items.ensures
    ∙ ap (λ (d : PageFacts). need.items ++ (flat_map (λ (k : PageAdvice). items_of k.lines) d.advices ++ flat_map (λ (o : PageOrder). map (λ l. l.item) o.lines) d.orders)) before in
    subst (λ (ss : List (List ℕ)). IfOk c.gather.result (λ d. d ≡ part_for L c.args.who (with_texts Lots ss n))) names
    (c.gather.ensures.found clean W L (stands_later old mid W L early c.in_ok-draft.ensures.went.left stands) n before)

pub returns-clause-went : goal.returns-clause-went
returns-clause-went g c =
    went_on g.S.Store c.args.self.now c.named.new.self c.gather.new.self c.in_ok-draft.draft _ c.in_ok-draft.ensures.went c.gather.ensures.went
