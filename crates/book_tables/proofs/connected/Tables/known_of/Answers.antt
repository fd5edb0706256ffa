use Rattle.std.proofs.Common.{◌∙◌, refl, sym}
use Rattle.sqlite.specs.Held.{state}
use Rattle.book_tables.proofs.AskedLater.{stands_later, clean_before}
use Rattle.book_tables.proofs.Looked.{known_there, nothing_known}
use Rattle.book_tables.proofs.Queries.{asked_on, asked_then, asked_fails}
use Rattle.book_tables.proofs.connected.Tables.known_of.Goals as goal

pub returns-in_default-clause-known : goal.returns-in_default-clause-known
returns-in_default-clause-known g c = λ clean W L stands.
    nothing_known W L c.args.who c.args.mark.now (sym c.in_default.is ∙ c.in_ok-entry.ensures.entry clean W L stands)

pub returns-in-Ok-clause-known : goal.returns-in-Ok-clause-known
returns-in-Ok-clause-known g c = λ clean W L stands.
    let old = state g.S.Store c.args.self.now.conn in
    let mid = state g.S.Store c.entry_under.new.self.conn in
    let new = state g.S.Store c.content_under.new.self.conn in
    let early = clean_before mid new c.content_under.ensures.asked.left clean in
    let it = known_there W L c.args.who c.args.mark.now c.in-Some.entry (sym (c.in_ok-entry.ensures.entry early W L stands) ∙ c.in-Some.is) in
    it.recalls c.in-Ok.outgoing.items (c.in-Ok.ensures.content clean W L (stands_later old mid W L early c.entry_under.ensures.asked.left stands) it.before it.entry it.back it.split (c.number.ensures ∙ it.number))

pub returns-in-Ok-clause-asked : goal.returns-in-Ok-clause-asked
returns-in-Ok-clause-asked g c =
    asked_on g.S.Store c.args.self.now c.entry_under.new.self c.content_under.new.self c.in_ok-entry.field-0 _ c.in_ok-entry.ensures.asked
    (asked_then g.S.Store c.entry_under.new.self c.content_under.new.self c.in-Ok.outgoing _ c.in-Ok.ensures.asked tt)

pub returns-in-Err-clause-asked : goal.returns-in-Err-clause-asked
returns-in-Err-clause-asked g c =
    asked_on g.S.Store c.args.self.now c.entry_under.new.self c.content_under.new.self c.in_ok-entry.field-0 _ c.in_ok-entry.ensures.asked
    (asked_fails g.S.Store c.entry_under.new.self c.content_under.new.self c.in-Err.fault _ refl c.in-Err.ensures.asked)

pub returns-in_default-clause-recorded : goal.returns-in_default-clause-recorded
returns-in_default-clause-recorded g c = λ clean W L stands. sym c.in_default.is ∙ c.in_ok-entry.ensures.entry clean W L stands

pub returns-in-Ok-clause-recorded : goal.returns-in-Ok-clause-recorded
returns-in-Ok-clause-recorded g c = λ clean W L stands.
    let mid = state g.S.Store c.entry_under.new.self.conn in
    let new = state g.S.Store c.content_under.new.self.conn in
    sym c.in-Some.is ∙ c.in_ok-entry.ensures.entry (clean_before mid new c.content_under.ensures.asked.left clean) W L stands
