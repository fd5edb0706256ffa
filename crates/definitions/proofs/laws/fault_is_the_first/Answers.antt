use Rattle.definitions.proofs.FaultsLaws.{set_fault-is, is-set_fault}
use Rattle.definitions.proofs.laws.fault_is_the_first.Goals as goal

pub returns : goal.returns
returns c = λ r d words ss f. (set_fault-is r d words ss f, is-set_fault r d words ss f)
