use Rattle.std.proofs.Common.{sym, ap, ◌∙◌, ◌∷◌}
use Rattle.rules.specs.Written.{Written}
use Rattle.store.proofs.Entries.{text_at}
use Rattle.store.proofs.replaying.outgoing_later.Goals as goal

pub returns : goal.returns
returns c = λ L e later is row legal.
    let same = c.who.ensures ∙ ap (λ (x : Written). x.who) row in
    text_at c.args.warehouse.now L e later c.who.result c.args.entry.now c.in_ok-page.page c.in_ok-replay.field-0.page c.in_ok-replay.field-0.outgoing.items
    legal row (sym same) (c.in_ok-page.ensures.page L (e ∷ later) is legal) c.in_ok-replay.ensures.replayed
