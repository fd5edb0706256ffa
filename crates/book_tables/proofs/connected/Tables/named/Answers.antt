use Rattle.std.proofs.Common.{◌≡◌, ◌∙◌, ap, List, ℕ, Ok, rules, subst}
use Rattle.std.specs.Prelude.{IfOk, IsErrAnd}
use Rattle.sqlite.specs.Held.{state}
use Rattle.definitions.specs.Need.{Need}
use Rattle.store.specs.Fault.{Fault}
use Rattle.book_tables.specs.Needed.{part_for, with_numbers, with_texts}
use Rattle.book_tables.specs.declared.needed.Sought.TheVariants.{Advice, Order}
use Rattle.book_tables.proofs.AskedLater.{stands_later, clean_before}
use Rattle.book_tables.proofs.Queries.{went_fails, went_on}
use Rattle.book_tables.proofs.connected.Tables.named.Goals as goal

pub returns-in_err-draft-2-clause-went : goal.returns-in_err-draft-2-clause-went
returns-in_err-draft-2-clause-went g c =
    let same : IsErrAnd c.from_residual-in_err-draft-2.result (λ (f : Fault). f ≡ c.in_err-draft-2.field-0.0) = search rules in
    went_on g.S.Store c.args.self.now c.gather.new.self c.gather-2.new.self c.in_ok-draft.draft _ c.in_ok-draft.ensures.went
    (went_fails g.S.Store c.gather.new.self c.gather-2.new.self c.in_err-draft-2.field-0.0 c.from_residual-in_err-draft-2.result same c.in_err-draft-2.ensures.went)

pub returns-clause-found : goal.returns-clause-found
returns-clause-found g c = λ clean W L stands n is.
    let old = state g.S.Store c.args.self.now.conn in
    let one = state g.S.Store c.gather.new.self.conn in
    let two = state g.S.Store c.gather-2.new.self.conn in
    let new = state g.S.Store c.gather_documents.new.self.conn in
    let clean2 = clean_before two new c.gather_documents.ensures.went.left clean in
    let clean1 = clean_before one two c.in_ok-draft-2.ensures.went.left clean2 in
    let stands1 = stands_later old one W L clean1 c.in_ok-draft.ensures.went.left stands in
    let stands2 = stands_later one two W L clean2 c.in_ok-draft-2.ensures.went.left stands1 in
    let shipments : c.deref.result.now ≡ c.args.need.now.shipments = c.deref.ensures.value ∙ ap (λ (m : Need). m.shipments) c.need.view_is in
    let orders : c.deref-2.result.now ≡ c.args.need.now.orders = c.deref-2.ensures.value ∙ ap (λ (m : Need). m.orders) c.need.view_is in
    let documents : c.deref-3.result.now ≡ c.args.need.now.documents = c.deref-3.ensures.value ∙ ap (λ (m : Need). m.documents) c.need.view_is in
    let first : c.in_ok-draft.draft ≡ part_for L c.args.who (with_texts Advice c.args.need.now.shipments n) =
    c.in_ok-draft.ensures.found clean1 W L stands n is ∙ ap (λ (ss : List (List ℕ)). part_for L c.args.who (with_texts Advice ss n)) shipments in
    let second : c.in_ok-draft-2.draft ≡ part_for L c.args.who (with_texts Order c.args.need.now.orders (with_texts Advice c.args.need.now.shipments n)) =
    c.in_ok-draft-2.ensures.found clean2 W L stands1 (with_texts Advice c.args.need.now.shipments n) first
    ∙ ap (λ (ss : List (List ℕ)). part_for L c.args.who (with_texts Order ss (with_texts Advice c.args.need.now.shipments n))) orders in
    let more = with_texts Order c.args.need.now.orders (with_texts Advice c.args.need.now.shipments n) in
    subst (λ (ms : List ℕ). IfOk c.gather_documents.result (λ d. d ≡ part_for L c.args.who (with_numbers ms more))) documents
    (c.gather_documents.ensures.found clean W L stands2 more second)

pub returns-clause-went : goal.returns-clause-went
returns-clause-went g c =
    went_on g.S.Store c.args.self.now c.gather-2.new.self c.gather_documents.new.self c.in_ok-draft-2.draft _
    (went_on g.S.Store c.args.self.now c.gather.new.self c.gather-2.new.self c.in_ok-draft.draft (Ok c.in_ok-draft-2.draft) c.in_ok-draft.ensures.went c.in_ok-draft-2.ensures.went)
    c.gather_documents.ensures.went
