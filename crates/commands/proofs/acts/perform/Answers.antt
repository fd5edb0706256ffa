use Rattle.std.proofs.Common.{List, ℕ, subst}
use Rattle.definitions.specs.Register.{Command, Interchange as Received}
use Rattle.commands.specs.Acting.{IsHandedIn, IsSaid}
use Rattle.commands.proofs.acts.perform.Goals as goal

pub returns-in-Send-clause-performed : goal.returns-in-Send-clause-performed
returns-in-Send-clause-performed g c =
    let answered : List ℕ → Type 0 = λ bytes. IsHandedIn (g.K.Keeper.standing c.args.book.now) (g.K.Keeper.standing c.hand_in.new.book) (Received bytes) c.args.moment (g.W.Write.contents c.args.out.now) (g.W.Write.contents c.hand_in.new.out) c.hand_in.result in
    rw c.in-Send.is (subst answered c.deref-in-Send.ensures.value c.hand_in.ensures.answered)

pub returns-in-Send-clause-said : goal.returns-in-Send-clause-said
returns-in-Send-clause-said g c =
    let said : List ℕ → Type 0 = λ bytes. IsSaid (g.K.Keeper.standing c.args.book.now) (g.K.Keeper.standing c.hand_in.new.book) (Received bytes) c.args.moment (g.E.Write.contents c.args.err.now) (g.E.Write.contents c.hand_in.new.err) c.hand_in.result in
    rw c.in-Send.is (subst said c.deref-in-Send.ensures.value c.hand_in.ensures.said)

pub returns-in-Clerk-clause-said : goal.returns-in-Clerk-clause-said
returns-in-Clerk-clause-said g c =
    let said : Command → Type 0 = λ command. IsSaid (g.K.Keeper.standing c.args.book.now) (g.K.Keeper.standing c.hand_in-in-Clerk.new.book) command c.args.moment (g.E.Write.contents c.args.err.now) (g.E.Write.contents c.hand_in-in-Clerk.new.err) c.hand_in-in-Clerk.result in
    rw c.in-Clerk.is (subst said c.clerk.ensures.told c.hand_in-in-Clerk.ensures.said)
