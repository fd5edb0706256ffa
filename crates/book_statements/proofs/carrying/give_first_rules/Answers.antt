use Rattle.std.proofs.Common.{rules, of_calls, ◌≡◌, ℕ, subst}
use Rattle.std.specs.Prelude.{IsErrAnd}
use Rattle.sqlite.specs.Held.{state}
use Rattle.store.specs.Fault.{Fault}
use Rattle.book_statements.proofs.Carried.{GivesSome, given_none, given_more, given_all}
use Rattle.book_statements.proofs.Writes.{wrote_as, wrote_nothing, wrote_on, wrote_failed}
use Rattle.book_statements.proofs.carrying.give_first_rules.Goals as goal

pub loop-before-init : goal.loop-before-init
loop-before-init g c = record { told = search rules; same = search rules; wrote = wrote_nothing _ _ _ (given_none _) }

pub loop-before-preserved : goal.loop-before-preserved
loop-before-preserved g c =
    let was = c.loop-before.invariant in
    let a = (state g.S.Store c.args.tx.now.conn.now).now in
    let b = (state g.S.Store c.loop-before.tx.conn.now).now in
    let d = (state g.S.Store c.insert_rules.new.tx.conn.now).now in
    record {
      told = search (rules, of_calls);
      same = search rules;
      wrote = wrote_on _ _ _ _ _ _ _ _ was.wrote c.in_ok-insert_rules.ensures.wrote (λ some led. given_more c.loop-before.before a b d some led);
    }

pub returns-in_err-insert_rules-clause-wrote : goal.returns-in_err-insert_rules-clause-wrote
returns-in_err-insert_rules-clause-wrote g c =
    let same : IsErrAnd c.from_residual.result (λ (f : Fault). f ≡ c.in_err-insert_rules.field-0.0) = search rules in
    wrote_failed _ _ _ _ _ c.from_residual.result same
    (wrote_on _ _ _ _ _ _ _ _ c.loop-before.invariant.wrote c.in_err-insert_rules.ensures.wrote (λ some led. led))

pub returns-clause-wrote : goal.returns-clause-wrote
returns-clause-wrote g c =
    let a = (state g.S.Store c.args.tx.now.conn.now).now in
    let b = (state g.S.Store c.loop-before.tx.conn.now).now in
    wrote_as _ _ _ _ _ c.loop-before.invariant.wrote (λ some. given_all c.args.entries a b (subst (λ (n : ℕ). GivesSome n a b) (search rules) some))
