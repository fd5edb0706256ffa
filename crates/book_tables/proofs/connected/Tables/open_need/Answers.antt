use Rattle.std.proofs.Common.{refl}
use Rattle.std.specs.List.{AllByRecursion}
use Rattle.sqlite.specs.Held.{state}
use Rattle.book_tables.specs.Opened.{IsOpen, numbers_text}
use Rattle.book_tables.proofs.AskedLater.{answers_before, stands_later, clean_before}
use Rattle.book_tables.proofs.Queries.{asked_on, asked_then, asked_fails}
use Rattle.book_tables.proofs.connected.Tables.open_need.Goals as goal

pub returns-in-Ok-clause-need : goal.returns-in-Ok-clause-need
returns-in-Ok-clause-need g c = λ clean W L stands.
    let old = state g.S.Store c.args.self.now.conn in
    let mid = state g.S.Store c.open_shipments.new.self.conn in
    let new = state g.S.Store c.open_numbers.new.self.conn in
    let early = clean_before mid new c.open_numbers.ensures.asked.left clean in
    let shipments = c.in_ok-shipments.ensures.names early W L stands in
    let orders = c.in-Ok.ensures.names clean W L (stands_later old mid W L early c.open_shipments.ensures.asked.left stands) in
    λ i. record { items = c.new.ensures.items i; shipments = shipments i; orders = orders i; documents = c.new-in-Ok.ensures.items i }

pub returns-in-Ok-clause-open : goal.returns-in-Ok-clause-open
returns-in-Ok-clause-open g c = λ clean.
    let old = state g.S.Store c.args.self.now.conn in
    let mid = state g.S.Store c.open_shipments.new.self.conn in
    let new = state g.S.Store c.open_numbers.new.self.conn in
    let early = clean_before mid new c.open_numbers.ensures.asked.left clean in
    (c.in_ok-shipments.ensures.open early, answers_before numbers_text _ (AllByRecursion IsOpen) old mid early c.open_shipments.ensures.asked.left (c.in-Ok.ensures.open clean))

pub returns-in-Ok-clause-asked : goal.returns-in-Ok-clause-asked
returns-in-Ok-clause-asked g c =
    asked_on g.S.Store c.args.self.now c.open_shipments.new.self c.open_numbers.new.self c.in_ok-shipments.shipments _ c.in_ok-shipments.ensures.asked
    (asked_then g.S.Store c.open_shipments.new.self c.open_numbers.new.self c.in-Ok.orders _ c.in-Ok.ensures.asked tt)

pub returns-in-Err-clause-asked : goal.returns-in-Err-clause-asked
returns-in-Err-clause-asked g c =
    asked_on g.S.Store c.args.self.now c.open_shipments.new.self c.open_numbers.new.self c.in_ok-shipments.shipments _ c.in_ok-shipments.ensures.asked
    (asked_fails g.S.Store c.open_shipments.new.self c.open_numbers.new.self c.in-Err.fault _ refl c.in-Err.ensures.asked)
