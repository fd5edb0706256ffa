use Rattle.std.proofs.Common.{◌≡◌, map, take}
use Rattle.book_tables.proofs.enrolled.whos.Given as goal

abbrev pub invariant-loop-enrolment : goal.invariant-loop-enrolment
invariant-loop-enrolment l = l.whos.items ≡ map (λ e. e.who) (take l.enrolment-index l.enrolments)
