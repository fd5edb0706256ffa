use Rattle.std.proofs.Common.{refl, ap, sym, ◌∙◌, ℕ, List, Option, Some, option_map}
use Rattle.std.specs.Prelude.{◌==◌, find}
use Rattle.definitions.specs.Rows.{OutRow}
use Rattle.sqlite.specs.Held.{state}
use Rattle.book_tables.specs.Outgoing.{IsReadFirst, content_text}
use Rattle.book_tables.proofs.AskedLater.{answers_before, stands_later, clean_before, outbox_none, outbox_some}
use Rattle.book_tables.proofs.Queries.{asked_on, asked_then, asked_fails}
use Rattle.book_tables.proofs.connected.Tables.text_of.Goals as goal

-- the text under a number among the rows, if there are any
abbrev under : ℕ → Option (List OutRow) → Option (Option (List ℕ))
under n o = option_map (λ (rows : List OutRow). option_map (λ (r : OutRow). r.content) (find (λ (r : OutRow). r.n == n) rows)) o

pub returns-then-not-branch-clause-text : goal.returns-then-not-branch-clause-text
returns-then-not-branch-clause-text g c = λ clean W L stands.
    ap (under c.args.n) (outbox_none W L c.args.who (sym (c.in_ok-is_enrolled.ensures.enrolled clean W L stands) ∙ c.if-not-branch.true))

pub returns-in-Ok-clause-text : goal.returns-in-Ok-clause-text
returns-in-Ok-clause-text g c = λ clean W L stands.
    let old = state g.S.Store c.args.self.now.conn in
    let mid = state g.S.Store c.is_enrolled.new.self.conn in
    let new = state g.S.Store c.text_under.new.self.conn in
    let early = clean_before mid new c.text_under.ensures.asked.left clean in
    ap Some (c.in-Ok.ensures.text clean W L (stands_later old mid W L early c.is_enrolled.ensures.asked.left stands))
    ∙ ap (under c.args.n) (outbox_some W L c.args.who (sym (c.in_ok-is_enrolled.ensures.enrolled early W L stands) ∙ c.if-not-branch.false))

pub returns-in-Ok-clause-known : goal.returns-in-Ok-clause-known
returns-in-Ok-clause-known g c = λ clean.
    let old = state g.S.Store c.args.self.now.conn in
    let mid = state g.S.Store c.is_enrolled.new.self.conn in
    let new = state g.S.Store c.text_under.new.self.conn in
    answers_before content_text _ (IsReadFirst 1 2) old mid (clean_before mid new c.text_under.ensures.asked.left clean) c.is_enrolled.ensures.asked.left (c.in-Ok.ensures.known clean)

pub returns-in-Ok-clause-asked : goal.returns-in-Ok-clause-asked
returns-in-Ok-clause-asked g c =
    asked_on g.S.Store c.args.self.now c.is_enrolled.new.self c.text_under.new.self c.in_ok-is_enrolled.field-0 _ c.in_ok-is_enrolled.ensures.asked
    (asked_then g.S.Store c.is_enrolled.new.self c.text_under.new.self c.in-Ok.text _ c.in-Ok.ensures.asked tt)

pub returns-in-Err-clause-asked : goal.returns-in-Err-clause-asked
returns-in-Err-clause-asked g c =
    asked_on g.S.Store c.args.self.now c.is_enrolled.new.self c.text_under.new.self c.in_ok-is_enrolled.field-0 _ c.in_ok-is_enrolled.ensures.asked
    (asked_fails g.S.Store c.is_enrolled.new.self c.text_under.new.self c.in-Err.fault _ refl c.in-Err.ensures.asked)
