use Rattle.std.proofs.Common.{sym, ◌∙◌}
use Rattle.store.proofs.Entries.{held_next, held_other}
use Rattle.store.proofs.replaying.with_entry.Goals as goal

pub returns-in_ok-replay-clause-page : goal.returns-in_ok-replay-clause-page
returns-in_ok-replay-clause-page c = λ L later i legal lt is held.
    held_next c.args.warehouse.now L later i c.args.entry.now c.args.who.now c.args.page c.in_ok-replay.field-0.page c.in_ok-replay.field-0.outgoing.items
    legal lt is (sym c.is_of.ensures ∙ c.if-is_of.true) held c.in_ok-replay.ensures.replayed
