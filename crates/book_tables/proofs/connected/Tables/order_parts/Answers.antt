use Rattle.std.proofs.Common.{refl}
use Rattle.sqlite.specs.Held.{state}
use Rattle.book_tables.proofs.AskedLater.{stands_later, clean_before}
use Rattle.book_tables.proofs.Queries.{asked_on, asked_then, asked_fails}
use Rattle.book_tables.proofs.connected.Tables.order_parts.Goals as goal

pub returns-in-Ok-clause-parts : goal.returns-in-Ok-clause-parts
returns-in-Ok-clause-parts g c = λ clean W L stands.
    let old = state g.S.Store c.args.self.now.conn in
    let mid = state g.S.Store c.order_lines.new.self.conn in
    let new = state g.S.Store c.reserved_lines.new.self.conn in
    let early = clean_before mid new c.reserved_lines.ensures.asked.left clean in
    (c.in_ok-lines.ensures.lines early W L stands, c.in-Ok.ensures.lines clean W L (stands_later old mid W L early c.order_lines.ensures.asked.left stands))

pub returns-in-Ok-clause-asked : goal.returns-in-Ok-clause-asked
returns-in-Ok-clause-asked g c =
    asked_on g.S.Store c.args.self.now c.order_lines.new.self c.reserved_lines.new.self c.in_ok-lines.lines _ c.in_ok-lines.ensures.asked
    (asked_then g.S.Store c.order_lines.new.self c.reserved_lines.new.self c.in-Ok.reserved _ c.in-Ok.ensures.asked tt)

pub returns-in-Err-clause-asked : goal.returns-in-Err-clause-asked
returns-in-Err-clause-asked g c =
    asked_on g.S.Store c.args.self.now c.order_lines.new.self c.reserved_lines.new.self c.in_ok-lines.lines _ c.in_ok-lines.ensures.asked
    (asked_fails g.S.Store c.order_lines.new.self c.reserved_lines.new.self c.in-Err.fault _ refl c.in-Err.ensures.asked)
