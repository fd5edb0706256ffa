use Rattle.sets_in.proofs.Least.{least_of_advice}
use Rattle.sets_in.proofs.laws.advice_fault_is_the_least.Goals as goal

pub returns : goal.returns
returns c = least_of_advice
