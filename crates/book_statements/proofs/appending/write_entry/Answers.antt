use Rattle.std.proofs.Common.{rules, ◌≡◌, ap, ◌∙◌}
use Rattle.std.specs.Prelude.{IsErrAnd}
use Rattle.definitions.specs.Moments.{stamp}
use Rattle.sqlite.specs.Held.{state}
use Rattle.store.specs.Fault.{Fault}
use Rattle.book_statements.proofs.AppendingLemmas.{entry_led_on}
use Rattle.book_statements.proofs.Writes.{wrote_on, wrote_failed, wrote_both}
use Rattle.book_statements.proofs.appending.write_entry.Goals as goal

pub returns-in_err-insert_entry-clause-wrote : goal.returns-in_err-insert_entry-clause-wrote
returns-in_err-insert_entry-clause-wrote g c =
    let same : IsErrAnd c.from_residual.result (λ (f : Fault). f ≡ c.in_err-insert_entry.field-0.0) = search rules in
    wrote_failed _ _ _ _ _ c.from_residual.result same c.in_err-insert_entry.ensures.wrote

pub returns-in_err-insert_rules-clause-wrote : goal.returns-in_err-insert_rules-clause-wrote
returns-in_err-insert_rules-clause-wrote g c =
    let same : IsErrAnd c.from_residual-in_err-insert_rules.result (λ (f : Fault). f ≡ c.in_err-insert_rules.field-0.0) = search rules in
    wrote_failed _ _ _ _ _ c.from_residual-in_err-insert_rules.result same
    (wrote_on _ _ _ _ _ _ _ _ c.in_ok-insert_entry.ensures.wrote c.in_err-insert_rules.ensures.wrote (λ entry ruled. ruled))

pub returns-in_err-insert_sent-clause-wrote : goal.returns-in_err-insert_sent-clause-wrote
returns-in_err-insert_sent-clause-wrote g c =
    let same : IsErrAnd c.from_residual-in_err-insert_sent.result (λ (f : Fault). f ≡ c.in_err-insert_sent.field-0.0) = search rules in
    wrote_failed _ _ _ _ _ c.from_residual-in_err-insert_sent.result same
    (wrote_on _ _ _ _ _ _ _ _ (wrote_both _ _ _ _ _ _ _ _ c.in_ok-insert_entry.ensures.wrote c.in_ok-insert_rules.ensures.wrote) c.in_err-insert_sent.ensures.wrote (λ both sent. sent))

pub returns-clause-wrote : goal.returns-clause-wrote
returns-clause-wrote g c =
    let written = wrote_both _ _ _ _ _ _ _ _ (wrote_both _ _ _ _ _ _ _ _ c.in_ok-insert_entry.ensures.wrote c.in_ok-insert_rules.ensures.wrote) c.in_ok-insert_sent.ensures.wrote in
    wrote_on _ _ _ _ _ _ _ c.apply_all.result written c.apply_all.ensures.wrote (λ all changed. (
      all.0.0.0,
      λ W L e is next.
          entry_led_on W L e c.args.changes.now c.args.seq c.args.who.now c.args.entry.now c.rules.result c.stamp-moment.result c.args.outgoing.now
          (state g.S.Store c.args.tx.now.conn.now).now (state g.S.Store c.insert_entry.new.tx.conn.now).now (state g.S.Store c.insert_rules.new.tx.conn.now).now (state g.S.Store c.insert_sent.new.tx.conn.now).now
          (state g.S.Store c.apply_all.new.tx.conn.now).now
          is (c.stamp-moment.ensures ∙ ap stamp c.moment.ensures) c.rules.ensures next all.0.0.1 all.0.1 (all.1 W L e is next.entry next.outgoing) (changed e.who is),
    ))
