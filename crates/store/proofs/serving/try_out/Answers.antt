use Rattle.std.proofs.Common.{sym, subst}
use Rattle.definitions.specs.Rules.{Today}
use Rattle.rules.specs.Asked.{asked}
use Rattle.store.specs.Held.{IsDecided}
use Rattle.store.proofs.serving.try_out.Goals as goal

pub returns-clause-reply : goal.returns-clause-reply
returns-clause-reply g c = λ clean L keeps legal.
    let W = (g.K.Keeper.standing c.args.keeper.now).warehouse in
    let is = subst (IsDecided Today W L (asked c.args.command.now) c.args.moment) c.in-Accepted.is (c.in_ok-text.ensures.decision clean L keeps legal) in
    sym is.0
