use Rattle.std.proofs.Common.{Ok, Some, ap, ◌∙◌, ℕ, pos, List, [], ◌∷◌, subst}
use Rattle.sqlite.specs.declared.types.Value.TheVariants as value
use Rattle.sqlite.specs.Held.{state}
use Rattle.sqlite.specs.State.{Executes}
use Rattle.book_statements.proofs.Writes.{wrote_as}
use Rattle.book_statements.proofs.WritingTexts.{set_state_text}
use Rattle.book_statements.proofs.Led.{state_led}
use Rattle.book_statements.proofs.recording.set_state.Goals as goal

pub returns-clause-wrote : goal.returns-clause-wrote
returns-clause-wrote g c =
    let old = state g.S.Store c.args.tx.now.conn.now in
    let new = state g.S.Store c.run.new.tx.conn.now in
    wrote_as old new _ _ c.run.result c.run.ensures.wrote (λ ran. state_led old new ran.count c.args.who.now c.args.n (Some c.args.accepts)
    (subst (λ p. Executes set_state_text p old new (Ok ran.count)) (c.state_params.ensures ∙ ap (λ (t : List ℕ). value.Text c.args.who.now ∷ value.Int (pos c.args.n) ∷ value.Text t ∷ []) c.said_text.ensures) ran.executes))
