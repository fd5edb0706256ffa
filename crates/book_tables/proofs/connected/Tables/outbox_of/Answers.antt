use Rattle.std.proofs.Common.{refl, ap, sym, ◌∙◌, Some}
use Rattle.std.specs.List.{AllByRecursion}
use Rattle.sqlite.specs.Held.{state}
use Rattle.book_tables.specs.Outgoing.{outbox_text}
use Rattle.book_tables.specs.Showing.{IsOut}
use Rattle.book_tables.proofs.AskedLater.{answers_before, stands_later, clean_before, outbox_none, outbox_some}
use Rattle.book_tables.proofs.Queries.{asked_on, asked_then, asked_fails}
use Rattle.book_tables.proofs.connected.Tables.outbox_of.Goals as goal

pub returns-then-not-branch-clause-rows : goal.returns-then-not-branch-clause-rows
returns-then-not-branch-clause-rows g c = λ clean W L stands.
    outbox_none W L c.args.who (sym (c.in_ok-is_enrolled.ensures.enrolled clean W L stands) ∙ c.if-not-branch.true)

pub returns-in-Ok-clause-rows : goal.returns-in-Ok-clause-rows
returns-in-Ok-clause-rows g c = λ clean W L stands.
    let old = state g.S.Store c.args.self.now.conn in
    let mid = state g.S.Store c.is_enrolled.new.self.conn in
    let new = state g.S.Store c.sent_rows.new.self.conn in
    let early = clean_before mid new c.sent_rows.ensures.asked.left clean in
    ap Some (c.in-Ok.ensures.rows clean W L (stands_later old mid W L early c.is_enrolled.ensures.asked.left stands))
    ∙ outbox_some W L c.args.who (sym (c.in_ok-is_enrolled.ensures.enrolled early W L stands) ∙ c.if-not-branch.false)

pub returns-in-Ok-clause-known : goal.returns-in-Ok-clause-known
returns-in-Ok-clause-known g c = λ clean.
    let old = state g.S.Store c.args.self.now.conn in
    let mid = state g.S.Store c.is_enrolled.new.self.conn in
    let new = state g.S.Store c.sent_rows.new.self.conn in
    answers_before outbox_text _ (AllByRecursion IsOut) old mid (clean_before mid new c.sent_rows.ensures.asked.left clean) c.is_enrolled.ensures.asked.left (c.in-Ok.ensures.known clean)

pub returns-in-Ok-clause-asked : goal.returns-in-Ok-clause-asked
returns-in-Ok-clause-asked g c =
    asked_on g.S.Store c.args.self.now c.is_enrolled.new.self c.sent_rows.new.self c.in_ok-is_enrolled.field-0 _ c.in_ok-is_enrolled.ensures.asked
    (asked_then g.S.Store c.is_enrolled.new.self c.sent_rows.new.self c.in-Ok.rows _ c.in-Ok.ensures.asked tt)

pub returns-in-Err-clause-asked : goal.returns-in-Err-clause-asked
returns-in-Err-clause-asked g c =
    asked_on g.S.Store c.args.self.now c.is_enrolled.new.self c.sent_rows.new.self c.in_ok-is_enrolled.field-0 _ c.in_ok-is_enrolled.ensures.asked
    (asked_fails g.S.Store c.is_enrolled.new.self c.sent_rows.new.self c.in-Err.fault _ refl c.in-Err.ensures.asked)
