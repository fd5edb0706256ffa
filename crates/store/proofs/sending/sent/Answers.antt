use Rattle.std.proofs.Common.{arith, take, length, ap, ◌∙◌, ◌≡◌}
use Rattle.definitions.specs.History.{events}
use Rattle.definitions.specs.Register.{own}
use Rattle.store.specs.Sent.{sent_on}
use Rattle.store.proofs.WentOut.{sent_all}
use Rattle.store.proofs.sending.sent.Goals as goal

pub returns : goal.returns
returns c = λ L is legal page.
    let W = c.args.warehouse.now in
    let who = c.args.who.now in
    let whole : c.loop-i.i ≡ length c.args.entries.now = omega (arith, c.loop-i-test.false, c.loop-i.auto.i-end) in
    sent_all W L c.args.entries.now who c.loop-i.rows.items is
    (c.loop-i.invariant L is legal page ∙ ap (λ n. sent_on W (events (own L who)) (own (take n L) who)) whole)
