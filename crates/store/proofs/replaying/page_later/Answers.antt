use Rattle.std.proofs.Common.{arith, subst, take, length, ◌≡◌}
use Rattle.definitions.specs.Register.{own}
use Rattle.definitions.specs.Decision.{standing}
use Rattle.store.specs.Held.{IsHeldFor}
use Rattle.store.proofs.Entries.{held_all}
use Rattle.store.proofs.replaying.page_later.Goals as goal

pub returns-clause-page : goal.returns-clause-page
returns-clause-page c = λ L later is legal.
    let inv = c.loop-entry.invariant.page L later is legal in
    let whole : c.loop-entry.entry-index ≡ length c.args.entries.now = omega (arith, c.loop-entry-test.false, c.loop-entry.auto.entry-index-end) in
    held_all L c.args.entries.now c.args.who.now c.loop-entry.page is
    (subst (λ n. IsHeldFor c.loop-entry.page (standing (own (take n L) c.args.who.now))) whole inv)

pub with_entry-requires : goal.with_entry-requires
with_entry-requires c = c.loop-entry.invariant.rest

pub returns-clause-rest : goal.returns-clause-rest
returns-clause-rest c = c.loop-entry.invariant.rest
