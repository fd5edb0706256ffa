use Rattle.definitions.proofs.FaultsLaws.{set_fault-from}
use Rattle.definitions.proofs.laws.fault_by_one_pass.Goals as goal

pub returns : goal.returns
returns c = λ r d words ss. set_fault-from r d words ss
