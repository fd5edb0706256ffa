use Rattle.std.proofs.Common.{sym, subst}
use Rattle.intake.proofs.Answered.{may_want, no_memory}
use Rattle.intake.proofs.Called.{Deeds}
use Rattle.intake.specs.Answers.{seen}
use Rattle.intake.proofs.clerks.deed_at.Goals as goal

pub returns-in-Err-OutOfMemory : goal.returns-in-Err-OutOfMemory
returns-in-Err-OutOfMemory g c = no_memory _ _ _ _ _ _ c.of_fault.ensures

pub returns-in-Ok : goal.returns-in-Ok
returns-in-Ok g c =
    subst (Deeds (g.K.Keeper.standing c.args.keeper.now) (g.K.Keeper.standing c.performed.new.keeper) c.args.moment (seen c.performed.result)) (sym c.in-Ok.ensures.made) (may_want _ _ _ _ _ _ _ c.performed.ensures)
