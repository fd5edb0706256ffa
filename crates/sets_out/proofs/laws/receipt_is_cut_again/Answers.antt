use Rattle.sets_out.proofs.WrittenInterchanges.{receipt_again}
use Rattle.sets_out.proofs.laws.receipt_is_cut_again.Goals as goal

pub returns : goal.returns
returns c = receipt_again
