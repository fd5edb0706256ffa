use Rattle.std.proofs.Common.{rules, subst, sym, List}
use Rattle.definitions.specs.Register.{Entry}
use Rattle.definitions.specs.Rules.{Today}
use Rattle.definitions.specs.Accepted.{IsLegal, after, entry_of}
use Rattle.rules.specs.Asked.{asked}
use Rattle.rules.specs.Decided.{LeadsInTables}
use Rattle.store.specs.Held.{IsDecided}
use Rattle.store.specs.Standing.{IsUsable, KeepsLegal, LeavesEither}
use Rattle.store.proofs.Changes.{clean_before, goes_trans, keeps_stays, usable_stays, fault_after, leaves_first, at_fault}
use Rattle.store.proofs.Replies.{next_at, next_is, later_accepted, later_stored, later_refused}
use Rattle.store.proofs.serving.submit_under.Goals as goal

pub returns-in_err-text-clause-left : goal.returns-in_err-text-clause-left
returns-in_err-text-clause-left g c = λ clean L u later.
    at_fault c.from_residual.result (leaves_first _ L (after c.args.rules (g.K.Keeper.standing c.args.keeper.now).warehouse L (asked c.args.command.now, c.args.moment))
    (usable_stays (g.K.Keeper.standing c.args.keeper.now) (g.K.Keeper.standing c.judge.new.keeper) c.judge.ensures.reading.same clean L u))

pub returns-in_err-commit-in-Accepted-clause-left : goal.returns-in_err-commit-in-Accepted-clause-left
returns-in_err-commit-in-Accepted-clause-left g c = λ clean L u later.
    let old = g.K.Keeper.standing c.args.keeper.now in
    let mid = g.K.Keeper.standing c.judge.new.keeper in
    let new = g.K.Keeper.standing c.commit.new.self in
    let asking = asked c.args.command.now in
    let t = c.args.moment in
    let early = clean_before mid new c.commit.ensures.goes clean in
    let is = subst (IsDecided c.args.rules old.warehouse L asking t) c.in-Accepted.is (c.in_ok-text.ensures.decision early L u.keeps u.legal) in
    let next = next_is c.args.rules old.warehouse L asking t c.in-Accepted.entry c.in-Accepted.changes.items c.in-Accepted.outgoing.items u.legal later is.0 is.1
    (subst (LeadsInTables c.args.rules old.warehouse L asking t) c.in-Accepted.is (c.in_ok-text.ensures.tables early L u.keeps u.legal)) in
    let house = c.judge.ensures.reading.same.goes.warehouse in
    at_fault c.from_residual-in_err-commit-in-Accepted.result
    (subst (λ (M : List Entry). LeavesEither new L M) (later_accepted c.args.rules old.warehouse L asking t c.in-Accepted.outgoing.items is.0)
    (c.in_err-commit-in-Accepted.ensures.left clean L (usable_stays old mid c.judge.ensures.reading.same early L u) (entry_of c.args.rules asking t)
    (next_at (sym house) (sym c.deref.ensures.value) (sym c.deref-in-Accepted.ensures.value) next)))

pub returns-in_err-commit-in-Accepted-clause-fault : goal.returns-in_err-commit-in-Accepted-clause-fault
returns-in_err-commit-in-Accepted-clause-fault g c =
    let whole = fault_after (g.K.Keeper.standing c.args.keeper.now) (g.K.Keeper.standing c.judge.new.keeper) (g.K.Keeper.standing c.commit.new.self) c.judge.ensures.reading.same c.commit.ensures.goes c.in_err-commit-in-Accepted.field-0.0 c.in_err-commit-in-Accepted.ensures.fault in
    search rules

pub returns-in-Stored-clause-ok : goal.returns-in-Stored-clause-ok
returns-in-Stored-clause-ok g c = λ clean L u later.
    let old = g.K.Keeper.standing c.args.keeper.now in
    let new = g.K.Keeper.standing c.judge.new.keeper in
    let is = subst (IsDecided c.args.rules old.warehouse L (asked c.args.command.now) c.args.moment) c.in-Stored.is (c.in_ok-text.ensures.decision clean L u.keeps u.legal) in
    subst (IsUsable new) (later_stored c.args.rules old.warehouse L (asked c.args.command.now) c.args.moment _ is) (usable_stays old new c.judge.ensures.reading.same clean L u)

pub returns-in-Refused-clause-ok : goal.returns-in-Refused-clause-ok
returns-in-Refused-clause-ok g c = λ clean L u later.
    let old = g.K.Keeper.standing c.args.keeper.now in
    let new = g.K.Keeper.standing c.judge.new.keeper in
    let is = subst (IsDecided c.args.rules old.warehouse L (asked c.args.command.now) c.args.moment) c.in-Refused.is (c.in_ok-text.ensures.decision clean L u.keeps u.legal) in
    subst (IsUsable new) (later_refused c.args.rules old.warehouse L (asked c.args.command.now) c.args.moment _ _ is) (usable_stays old new c.judge.ensures.reading.same clean L u)

pub returns-in_ok-commit-in-Accepted-clause-reply : goal.returns-in_ok-commit-in-Accepted-clause-reply
returns-in_ok-commit-in-Accepted-clause-reply g c = λ clean L keeps legal.
    let old = g.K.Keeper.standing c.args.keeper.now in
    let mid = g.K.Keeper.standing c.judge.new.keeper in
    let early = clean_before mid (g.K.Keeper.standing c.commit.new.self) c.commit.ensures.goes clean in
    let is = subst (IsDecided c.args.rules old.warehouse L (asked c.args.command.now) c.args.moment) c.in-Accepted.is (c.in_ok-text.ensures.decision early L keeps legal) in
    sym is.0

pub returns-in_ok-commit-in-Accepted-clause-ok : goal.returns-in_ok-commit-in-Accepted-clause-ok
returns-in_ok-commit-in-Accepted-clause-ok g c = λ clean L u later.
    let old = g.K.Keeper.standing c.args.keeper.now in
    let mid = g.K.Keeper.standing c.judge.new.keeper in
    let new = g.K.Keeper.standing c.commit.new.self in
    let asking = asked c.args.command.now in
    let t = c.args.moment in
    let early = clean_before mid new c.commit.ensures.goes clean in
    let is = subst (IsDecided c.args.rules old.warehouse L asking t) c.in-Accepted.is (c.in_ok-text.ensures.decision early L u.keeps u.legal) in
    let next = next_is c.args.rules old.warehouse L asking t c.in-Accepted.entry c.in-Accepted.changes.items c.in-Accepted.outgoing.items u.legal later is.0 is.1
    (subst (LeadsInTables c.args.rules old.warehouse L asking t) c.in-Accepted.is (c.in_ok-text.ensures.tables early L u.keeps u.legal)) in
    let house = c.judge.ensures.reading.same.goes.warehouse in
    subst (IsUsable new) (later_accepted c.args.rules old.warehouse L asking t c.in-Accepted.outgoing.items is.0)
    (c.in_ok-commit-in-Accepted.ensures.ok clean L (usable_stays old mid c.judge.ensures.reading.same early L u) (entry_of c.args.rules asking t)
    (next_at (sym house) (sym c.deref.ensures.value) (sym c.deref-in-Accepted.ensures.value) next))

pub returns-in-Stored-clause-keeps : goal.returns-in-Stored-clause-keeps
returns-in-Stored-clause-keeps g c = λ clean L k legal later.
    let old = g.K.Keeper.standing c.args.keeper.now in
    let new = g.K.Keeper.standing c.judge.new.keeper in
    let is = subst (IsDecided c.args.rules old.warehouse L (asked c.args.command.now) c.args.moment) c.in-Stored.is (c.in_ok-text.ensures.decision clean L k legal) in
    subst (KeepsLegal new) (later_stored c.args.rules old.warehouse L (asked c.args.command.now) c.args.moment _ is)
    (keeps_stays old new c.judge.ensures.reading.same clean L (record { keeps = k; legal = legal }))

pub returns-in-Refused-clause-keeps : goal.returns-in-Refused-clause-keeps
returns-in-Refused-clause-keeps g c = λ clean L k legal later.
    let old = g.K.Keeper.standing c.args.keeper.now in
    let new = g.K.Keeper.standing c.judge.new.keeper in
    let is = subst (IsDecided c.args.rules old.warehouse L (asked c.args.command.now) c.args.moment) c.in-Refused.is (c.in_ok-text.ensures.decision clean L k legal) in
    subst (KeepsLegal new) (later_refused c.args.rules old.warehouse L (asked c.args.command.now) c.args.moment _ _ is)
    (keeps_stays old new c.judge.ensures.reading.same clean L (record { keeps = k; legal = legal }))

pub returns-in_ok-commit-in-Accepted-clause-keeps : goal.returns-in_ok-commit-in-Accepted-clause-keeps
returns-in_ok-commit-in-Accepted-clause-keeps g c = λ clean L k legal later.
    let old = g.K.Keeper.standing c.args.keeper.now in
    let mid = g.K.Keeper.standing c.judge.new.keeper in
    let new = g.K.Keeper.standing c.commit.new.self in
    let asking = asked c.args.command.now in
    let t = c.args.moment in
    let early = clean_before mid new c.commit.ensures.goes clean in
    let is = subst (IsDecided c.args.rules old.warehouse L asking t) c.in-Accepted.is (c.in_ok-text.ensures.decision early L k legal) in
    let next = next_is c.args.rules old.warehouse L asking t c.in-Accepted.entry c.in-Accepted.changes.items c.in-Accepted.outgoing.items legal later is.0 is.1
    (subst (LeadsInTables c.args.rules old.warehouse L asking t) c.in-Accepted.is (c.in_ok-text.ensures.tables early L k legal)) in
    let same = c.judge.ensures.reading.same in
    let goes = goes_trans old mid new same.goes c.commit.ensures.goes in
    record {
      keeps = subst new.keeps (later_accepted c.args.rules old.warehouse L asking t c.in-Accepted.outgoing.items is.0)
          (c.in_ok-commit-in-Accepted.ensures.keeps clean L (same.keeps early L k) (entry_of c.args.rules asking t)
          (next_at (sym same.goes.warehouse) (sym c.deref.ensures.value) (sym c.deref-in-Accepted.ensures.value) next));
      legal = subst (λ V. IsLegal Today V (after c.args.rules old.warehouse L (asking, t))) (sym goes.warehouse) later;
    }
