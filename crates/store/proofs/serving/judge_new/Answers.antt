use Rattle.std.proofs.Common.{None, sym, subst, rules}
use Rattle.definitions.specs.Accepted.{own_of}
use Rattle.definitions.specs.Decision.{standing, reply_by}
use Rattle.definitions.specs.Need.{Need}
use Rattle.rules.specs.Asked.{asked}
use Rattle.rules.specs.Decided.{IsRecalled, entries_of}
use Rattle.rules.specs.Replies.{IsReply}
use Rattle.store.specs.Held.{IsHeld}
use Rattle.store.proofs.Replies.{decided, stands_from}
use Rattle.store.proofs.Changes.{unchanged_refl}
use Rattle.store.proofs.serving.judge_new.Goals as goal

pub returns-clause-decision : goal.returns-clause-decision
returns-clause-decision g c = λ clean L keeps legal unknown.
    let old = g.K.Keeper.standing c.args.keeper.now in
    let asking = asked c.args.command.now in
    let needed = subst (λ (n : Need). IsHeld n c.in_ok-page.page (standing (own_of L asking))) c.in_ok-need.ensures
    (subst (λ M. IsHeld c.in_ok-need.need c.in_ok-page.page (standing M)) (sym (c.requires.whose L)) (c.in_ok-page.ensures.page clean L keeps legal)) in
    decided c.args.rules old.warehouse L asking c.args.moment c.in_ok-decide.field-0 _ None
    needed
    (subst (IsRecalled None) (sym unknown) tt)
    (λ h k given. subst (λ W. IsReply c.args.rules (entries_of c.in_ok-page.page) asking c.args.moment (reply_by c.args.rules W h k asking c.args.moment) c.in_ok-decide.field-0) c.warehouse-warehouse.ensures (c.in_ok-decide.ensures.reply h k given))

pub returns-clause-tables : goal.returns-clause-tables
returns-clause-tables g c = λ clean L keeps legal.
    let old = g.K.Keeper.standing c.args.keeper.now in
    let asking = asked c.args.command.now in
    let needed = subst (λ (n : Need). IsHeld n c.in_ok-page.page (standing (own_of L asking))) c.in_ok-need.ensures
    (subst (λ M. IsHeld c.in_ok-need.need c.in_ok-page.page (standing M)) (sym (c.requires.whose L)) (c.in_ok-page.ensures.page clean L keeps legal)) in
    c.in_ok-decide.ensures.tables old.warehouse L
    (stands_from asking _ (standing (own_of L asking)) needed)

pub returns-in_err-need-clause-reading : goal.returns-in_err-need-clause-reading
returns-in_err-need-clause-reading g c = record { same = unchanged_refl (g.K.Keeper.standing c.args.keeper.now); fault = search rules }

pub returns-in_err-page-clause-reading : goal.returns-in_err-page-clause-reading
returns-in_err-page-clause-reading g c = record { same = c.in_err-page.ensures.query.reading.same; fault = search rules }

pub returns-in_err-decide-clause-reading : goal.returns-in_err-decide-clause-reading
returns-in_err-decide-clause-reading g c = record { same = c.in_ok-page.ensures.query.reading.same; fault = search rules }

pub returns-clause-reading : goal.returns-clause-reading
returns-clause-reading g c = record { same = c.in_ok-page.ensures.query.reading.same; fault = search rules }
