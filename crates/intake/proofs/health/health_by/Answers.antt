use Rattle.intake.proofs.health.health_by.Goals as goal

pub returns-in-Get-clause-served : goal.returns-in-Get-clause-served
returns-in-Get-clause-served g c = λ t. rw c.in-Get.is (c.look_told.ensures.served t)
