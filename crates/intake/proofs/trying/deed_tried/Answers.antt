use Rattle.std.proofs.Common.{sym, subst}
use Rattle.intake.proofs.Answered.{may_want, no_memory}
use Rattle.intake.proofs.Called.{Trials}
use Rattle.intake.specs.Answers.{seen}
use Rattle.intake.proofs.trying.deed_tried.Goals as goal

pub returns-in-Err-OutOfMemory : goal.returns-in-Err-OutOfMemory
returns-in-Err-OutOfMemory g c = no_memory _ _ _ _ _ _ c.of_fault.ensures

pub returns-in-Ok : goal.returns-in-Ok
returns-in-Ok g c =
    subst (Trials (g.K.Keeper.standing c.args.keeper.now) (g.K.Keeper.standing c.slip_tried.new.keeper) c.args.moment (seen c.slip_tried.result)) (sym c.in-Ok.ensures.made) (may_want _ _ _ _ _ _ _ c.slip_tried.ensures)
