use Rattle.std.proofs.Common.{None, Some, IfOk, refl, rules, sym, subst}
use Rattle.definitions.specs.Rules.{Today}
use Rattle.definitions.specs.Accepted.{IsLegal, own_of}
use Rattle.definitions.specs.Decision.{standing, recalled, reply_by}
use Rattle.definitions.specs.Need.{need_of}
use Rattle.definitions.specs.Register.{command_mark}
use Rattle.rules.specs.Asked.{asked}
use Rattle.rules.specs.Decided.{IsRecalled}
use Rattle.rules.specs.Replies.{IsReply}
use Rattle.store.specs.Held.{IsDecided, IsHeld}
use Rattle.store.proofs.Changes.{clean_before, reading_on, unchanged_refl}
use Rattle.store.proofs.Replies.{decided, decided_again, named_key, owner_none, owner_some, recalled_at, recalled_none, stands_from}
use Rattle.store.proofs.serving.judge.Goals as goal

pub returns-in_default-clause-decision : goal.returns-in_default-clause-decision
returns-in_default-clause-decision g c = λ clean L keeps legal.
    let old = g.K.Keeper.standing c.args.keeper.now in
    let asking = asked c.args.command.now in
    let none = sym (owner_none L asking c.in_default.ensures) in
    decided c.args.rules old.warehouse L asking c.args.moment c.in_ok-decide.field-0 None None
    (subst (λ M. IsHeld (need_of asking) None (standing M)) none tt)
    (subst (λ M. IsRecalled None (recalled old.warehouse (command_mark asking) M)) none tt)
    (λ h k given. subst (λ W. IsReply c.args.rules 0 asking c.args.moment (reply_by c.args.rules W h k asking c.args.moment) c.in_ok-decide.field-0) c.warehouse-warehouse.ensures (c.in_ok-decide.ensures.reply h k given))

pub returns-in_default-clause-tables : goal.returns-in_default-clause-tables
returns-in_default-clause-tables g c = λ clean L keeps legal.
    let old = g.K.Keeper.standing c.args.keeper.now in
    let asking = asked c.args.command.now in
    c.in_ok-decide.ensures.tables old.warehouse L
    (stands_from asking None (standing (own_of L asking))
    (subst (λ M. IsHeld (need_of asking) None (standing M)) (sym (owner_none L asking c.in_default.ensures)) tt))

pub judge_new-requires : goal.judge_new-requires
judge_new-requires g c = record { whose = λ L. owner_some L (asked c.args.command.now) _ _ c.in-Some.ensures }

pub returns-in_ok-decide_again-in-Some-2-clause-decision : goal.returns-in_ok-decide_again-in-Some-2-clause-decision
returns-in_ok-decide_again-in-Some-2-clause-decision g c = λ clean L keeps legal.
    let old = g.K.Keeper.standing c.args.keeper.now in
    let asking = asked c.args.command.now in
    let names = c.in-Some.ensures in
    let there = recalled_at c.in_ok-known.field-0 refl (named_key asking _ _ names) (owner_some L asking _ _ names)
    (c.in_ok-known.ensures.entry clean L keeps legal) in
    decided_again c.args.rules old.warehouse L asking c.args.moment c.in_ok-decide_again-in-Some-2.field-0 c.in-Some-2.known
    (subst (λ o. IsRecalled o (recalled old.warehouse (command_mark asking) (own_of L asking))) c.in-Some-2.is there)
    (λ n h k entry under. subst (λ W. IsReply c.args.rules n asking c.args.moment (reply_by c.args.rules W (Some h) (Some k) asking c.args.moment) c.in_ok-decide_again-in-Some-2.field-0)
    c.warehouse-warehouse.ensures (c.in_ok-decide_again-in-Some-2.ensures.reply c.args.rules n h k entry under))

pub returns-in-None-clause-decision : goal.returns-in-None-clause-decision
returns-in-None-clause-decision g c = λ clean L keeps legal.
    let old = g.K.Keeper.standing c.args.keeper.now in
    let mid = g.K.Keeper.standing c.known.new.self in
    let new = g.K.Keeper.standing c.judge_new.new.keeper in
    let asking = asked c.args.command.now in
    let names = c.in-Some.ensures in
    let same = c.in_ok-known.ensures.query.reading.same in
    let early = clean_before mid new c.judge_new.ensures.reading.same.goes clean in
    let there = recalled_at c.in_ok-known.field-0 (sym same.goes.warehouse) (named_key asking _ _ names) (owner_some L asking _ _ names)
    (c.in_ok-known.ensures.entry early L keeps legal) in
    let unknown = recalled_none (recalled mid.warehouse (command_mark asking) (own_of L asking))
    (subst (λ o. IsRecalled o (recalled mid.warehouse (command_mark asking) (own_of L asking))) c.in-None.is there) in
    subst (λ W. IfOk c.judge_new.result (IsDecided c.args.rules W L asking c.args.moment)) same.goes.warehouse
    (c.judge_new.ensures.decision clean L (same.keeps early L keeps) (subst (λ W. IsLegal Today W L) (sym same.goes.warehouse) legal) unknown)

pub returns-in-None-clause-reading : goal.returns-in-None-clause-reading
returns-in-None-clause-reading g c = reading_on (g.K.Keeper.standing c.args.keeper.now) (g.K.Keeper.standing c.known.new.self) (g.K.Keeper.standing c.judge_new.new.keeper)
    c.in_ok-known.ensures.query.reading.same c.judge_new.result c.judge_new.ensures.reading

pub returns-in_err-decide-clause-reading : goal.returns-in_err-decide-clause-reading
returns-in_err-decide-clause-reading g c = record { same = unchanged_refl (g.K.Keeper.standing c.args.keeper.now); fault = search rules }

pub returns-in_err-known-clause-reading : goal.returns-in_err-known-clause-reading
returns-in_err-known-clause-reading g c = record { same = c.in_err-known.ensures.query.reading.same; fault = search rules }

pub returns-in_err-decide_again-in-Some-2-clause-reading : goal.returns-in_err-decide_again-in-Some-2-clause-reading
returns-in_err-decide_again-in-Some-2-clause-reading g c = record { same = c.in_ok-known.ensures.query.reading.same; fault = search rules }
