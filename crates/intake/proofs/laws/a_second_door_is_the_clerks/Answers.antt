use Rattle.intake.proofs.ByDoor.{clerks_beside, guarded_by, partners_by}
use Rattle.intake.proofs.laws.a_second_door_is_the_clerks.Goals as goal

pub returns-clause-clerks : goal.returns-clause-clerks
returns-clause-clerks c = λ access other. clerks_beside access.audience access other

pub returns-clause-guarded : goal.returns-clause-guarded
returns-clause-guarded c = λ access door. guarded_by access door

pub returns-clause-partners : goal.returns-clause-partners
returns-clause-partners c = λ door. partners_by door
