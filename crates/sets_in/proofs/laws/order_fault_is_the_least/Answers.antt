use Rattle.sets_in.proofs.Least.{least_of_order}
use Rattle.sets_in.proofs.laws.order_fault_is_the_least.Goals as goal

pub returns : goal.returns
returns c = least_of_order
