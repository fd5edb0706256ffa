use Rattle.sets_out.proofs.WrittenInterchanges.{ta1_again}
use Rattle.sets_out.proofs.laws.ta1_is_cut_again.Goals as goal

pub returns : goal.returns
returns c = ta1_again
