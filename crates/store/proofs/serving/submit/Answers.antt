use Rattle.std.proofs.Common.{rules, ◌≡◌, true}
use Rattle.std.specs.Cmp.Derive.{both_true}
use Rattle.definitions.specs.Rules.{Today}
use Rattle.definitions.specs.Moments.{is_moment}
use Rattle.rules.specs.Asked.{asked}
use Rattle.store.proofs.Replies.{legal_after}
use Rattle.store.proofs.serving.submit.Goals as goal

pub returns-clause-ok : goal.returns-clause-ok
returns-clause-ok g c = λ clean L u given.
    let old = g.K.Keeper.standing c.args.keeper.now in
    let timely : is_moment c.args.moment ≡ true = search rules in
    c.submit_under.ensures.ok clean L u (legal_after Today old.warehouse L (asked c.args.command.now) c.args.moment (both_true given timely) u.legal)

pub returns-clause-keeps : goal.returns-clause-keeps
returns-clause-keeps g c = λ clean L k legal given.
    let old = g.K.Keeper.standing c.args.keeper.now in
    let timely : is_moment c.args.moment ≡ true = search rules in
    c.submit_under.ensures.keeps clean L k legal (legal_after Today old.warehouse L (asked c.args.command.now) c.args.moment (both_true given timely) legal)

pub returns-clause-left : goal.returns-clause-left
returns-clause-left g c = λ clean L u given.
    let old = g.K.Keeper.standing c.args.keeper.now in
    let timely : is_moment c.args.moment ≡ true = search rules in
    c.submit_under.ensures.left clean L u (legal_after Today old.warehouse L (asked c.args.command.now) c.args.moment (both_true given timely) u.legal)
