use Rattle.sets_out.proofs.WrittenInterchanges.{acknowledgment_again}
use Rattle.sets_out.proofs.laws.acknowledgment_is_cut_again.Goals as goal

pub returns : goal.returns
returns c = acknowledgment_again
