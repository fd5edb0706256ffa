use Rattle.store.proofs.Changes.{unchanged_refl}
use Rattle.intake.proofs.Answered.{shown}
use Rattle.intake.proofs.clerks.called.Goals as goal

pub returns-in-Other : goal.returns-in-Other
returns-in-Other g c = rw c.in-Other.is (shown _ _ _ _ _ _ _ (λ clean L keeps legal. c.not_called.ensures (g.K.Keeper.standing c.args.keeper.now).warehouse L _ _) (unchanged_refl _) (λ was yes. cc))
