use Rattle.std.proofs.Common.{refl, sym, ap, ◌∙◌, Some}
use Rattle.sqlite.specs.Held.{state}
use Rattle.book_tables.specs.Looking.{bare_order}
use Rattle.book_tables.proofs.AskedLater.{stands_later, clean_before}
use Rattle.book_tables.proofs.Queries.{asked_on, asked_then, asked_fails}
use Rattle.book_tables.proofs.Wholes.{none_bare, whole_order}
use Rattle.book_tables.proofs.connected.Tables.order_under.Goals as goal

pub returns-in_default-clause-order : goal.returns-in_default-clause-order
returns-in_default-clause-order g c = λ clean W L stands.
    none_bare bare_order _ (sym c.in_default.is ∙ c.in_ok-order.ensures.order clean W L stands)

pub returns-in-Ok-clause-order : goal.returns-in-Ok-clause-order
returns-in-Ok-clause-order g c = λ clean W L stands.
    let old = state g.S.Store c.args.self.now.conn in
    let mid = state g.S.Store c.bare_order.new.self.conn in
    let new = state g.S.Store c.order_parts.new.self.conn in
    let early = clean_before mid new c.order_parts.ensures.asked.left clean in
    let parts = c.in-Ok.ensures.parts clean W L (stands_later old mid W L early c.bare_order.ensures.asked.left stands) in
    whole_order _ _ c.in-Ok.lines.items c.in-Ok.reserved.items (ap Some c.order.view_is ∙ sym c.in-Some.is ∙ c.in_ok-order.ensures.order early W L stands)
    parts.0 parts.1

pub returns-in-Ok-clause-asked : goal.returns-in-Ok-clause-asked
returns-in-Ok-clause-asked g c =
    asked_on g.S.Store c.args.self.now c.bare_order.new.self c.order_parts.new.self c.in_ok-order.field-0 _ c.in_ok-order.ensures.asked
    (asked_then g.S.Store c.bare_order.new.self c.order_parts.new.self _ _ c.in-Ok.ensures.asked tt)

pub returns-in-Err-clause-asked : goal.returns-in-Err-clause-asked
returns-in-Err-clause-asked g c =
    asked_on g.S.Store c.args.self.now c.bare_order.new.self c.order_parts.new.self c.in_ok-order.field-0 _ c.in_ok-order.ensures.asked
    (asked_fails g.S.Store c.bare_order.new.self c.order_parts.new.self c.in-Err.fault _ refl c.in-Err.ensures.asked)
