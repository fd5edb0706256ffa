use Rattle.sets_out.proofs.WrittenInterchanges.{adjustment_again}
use Rattle.sets_out.proofs.laws.adjustment_is_cut_again.Goals as goal

pub returns : goal.returns
returns c = adjustment_again
