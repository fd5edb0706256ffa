use Rattle.std.proofs.Common.{rules, ◌≡◌}
use Rattle.std.specs.Prelude.{IsErrAnd}
use Rattle.sqlite.specs.Held.{state}
use Rattle.store.specs.Fault.{Fault}
use Rattle.book_statements.proofs.Carried.{carried_over}
use Rattle.book_statements.proofs.Writes.{wrote_on, wrote_failed, wrote_both}
use Rattle.book_statements.proofs.carrying.carry_all.Goals as goal

pub returns-in_err-make_fourth-clause-wrote : goal.returns-in_err-make_fourth-clause-wrote
returns-in_err-make_fourth-clause-wrote g c =
    let same : IsErrAnd c.from_residual.result (λ (f : Fault). f ≡ c.in_err-make_fourth.field-0.0) = search rules in
    wrote_failed _ _ _ _ _ c.from_residual.result same c.in_err-make_fourth.ensures.wrote

pub returns-in_err-give_first_rules-clause-wrote : goal.returns-in_err-give_first_rules-clause-wrote
returns-in_err-give_first_rules-clause-wrote g c =
    let same : IsErrAnd c.from_residual-in_err-give_first_rules.result (λ (f : Fault). f ≡ c.in_err-give_first_rules.field-0.0) = search rules in
    wrote_failed _ _ _ _ _ c.from_residual-in_err-give_first_rules.result same
    (wrote_on _ _ _ _ _ _ _ _ c.in_ok-make_fourth.ensures.wrote c.in_err-give_first_rules.ensures.wrote (λ wide ruled. ruled))

pub returns-clause-wrote : goal.returns-clause-wrote
returns-clause-wrote g c =
    let old = state g.S.Store c.args.tx.now.conn.now in
    let b = state g.S.Store c.make_fourth.new.tx.conn.now in
    let d = state g.S.Store c.give_first_rules.new.tx.conn.now in
    let new = state g.S.Store c.set_version.new.tx.conn.now in
    wrote_on _ _ _ _ _ _ _ c.set_version.result (wrote_both _ _ _ _ _ _ _ _ c.in_ok-make_fourth.ensures.wrote c.in_ok-give_first_rules.ensures.wrote) c.set_version.ensures.wrote
    (λ both versioned live. carried_over c.args.entries old b d new (live both.0.1.0).0 both.0.1.0 both.0.1.1 both.1 versioned)
