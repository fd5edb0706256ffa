use Rattle.std.proofs.Common.{rules, ◌≡◌, sym, ap, ◌∙◌}
use Rattle.std.specs.Prelude.{nat_lt}
use Rattle.rules.specs.Written.{Written}
use Rattle.sqlite.specs.Held.{state}
use Rattle.book_statements.proofs.AppendingLemmas.{sent_led, unsent_led, numbered}
use Rattle.book_statements.proofs.Writes.{wrote_as, wrote_nothing}
use Rattle.book_statements.proofs.appending.insert_sent.Goals as goal

pub returns-then-not-is_numbered-clause-wrote : goal.returns-then-not-is_numbered-clause-wrote
returns-then-not-is_numbered-clause-wrote g c =
    wrote_nothing _ _ _ (λ W L e is written sent.
    let counts = sym (numbered L e) ∙ sym (ap (λ (w : Written). nat_lt 0 w.n) written) ∙ sym c.is_numbered.ensures ∙ c.if-not-is_numbered.true in
    unsent_led W L e (state g.S.Store c.args.tx.now.conn.now).now counts)

pub returns-clause-wrote : goal.returns-clause-wrote
returns-clause-wrote g c =
    wrote_as _ _ _ _ c.insert_outgoing.result c.insert_outgoing.ensures.wrote (λ led W L e is written sent.
    let counts = sym (numbered L e) ∙ sym (ap (λ (w : Written). nat_lt 0 w.n) written) ∙ sym c.is_numbered.ensures ∙ c.if-not-is_numbered.false in
    let key : c.deref.result.now ≡ c.args.entry.now.key = search rules in
    let its = ap (λ (w : Written). w.key) written in
    sent_led W L e c.args.who.now c.number.result c.text-kind.result.now c.args.outgoing.now c.new_state_text-state_text.result.now
    (state g.S.Store c.args.tx.now.conn.now).now (state g.S.Store c.insert_outgoing.new.tx.conn.now).now counts is
    (c.number.ensures ∙ ap (λ (w : Written). w.n) written)
    (c.text-kind.ensures ∙ c.kind.ensures e.deed its (ap (λ (w : Written). w.body) written)) sent
    (c.new_state_text-state_text.ensures e.deed (key ∙ its)) led)
