use Rattle.definitions.proofs.LaterLaws.{set_fault-later}
use Rattle.definitions.proofs.laws.sets_stay_without_fault.Goals as goal

pub returns : goal.returns
returns c = λ d kind ss h. set_fault-later d kind ss h
