use Rattle.std.proofs.Common.{◌∙◌, ap, sym, refl, Some}
use Rattle.sqlite.specs.Held.{state}
use Rattle.book_tables.proofs.AskedLater.{stands_later, clean_before}
use Rattle.book_tables.proofs.NeededParts.{none_needed, some_needed}
use Rattle.book_tables.proofs.Queries.{asked_fails, asked_on, asked_then}
use Rattle.book_tables.proofs.connected.Tables.page_for.Goals as goal

pub returns-then-not-branch-clause-part : goal.returns-then-not-branch-clause-part
returns-then-not-branch-clause-part g c = λ clean W L stands.
    none_needed c.args.need.now L c.args.who (sym (c.in_ok-is_enrolled.ensures.enrolled clean W L stands) ∙ c.if-not-branch.true)

pub returns-in-Ok-clause-part : goal.returns-in-Ok-clause-part
returns-in-Ok-clause-part g c = λ clean W L stands.
    let old = state g.S.Store c.args.self.now.conn in
    let mid = state g.S.Store c.is_enrolled.new.self.conn in
    let new = state g.S.Store c.part.new.self.conn in
    let early = clean_before mid new c.in-Ok.ensures.asked.left clean in
    ap Some (c.in-Ok.ensures.part clean W L (stands_later old mid W L early c.in_ok-is_enrolled.ensures.asked.left stands))
    ∙ some_needed c.args.need.now L c.args.who (sym (c.in_ok-is_enrolled.ensures.enrolled early W L stands) ∙ c.if-not-branch.false)

pub returns-in-Ok-clause-asked : goal.returns-in-Ok-clause-asked
returns-in-Ok-clause-asked g c =
    asked_on g.S.Store c.args.self.now c.is_enrolled.new.self c.part.new.self c.in_ok-is_enrolled.field-0 _ c.in_ok-is_enrolled.ensures.asked
    (asked_then g.S.Store c.is_enrolled.new.self c.part.new.self c.in-Ok.page _ c.in-Ok.ensures.asked tt)

pub returns-in-Err-clause-asked : goal.returns-in-Err-clause-asked
returns-in-Err-clause-asked g c =
    asked_on g.S.Store c.args.self.now c.is_enrolled.new.self c.part.new.self c.in_ok-is_enrolled.field-0 _ c.in_ok-is_enrolled.ensures.asked
    (asked_fails g.S.Store c.is_enrolled.new.self c.part.new.self c.in-Err.fault _ refl c.in-Err.ensures.asked)
