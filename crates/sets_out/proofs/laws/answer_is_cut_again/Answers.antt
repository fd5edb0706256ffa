use Rattle.sets_out.proofs.WrittenInterchanges.{answer_again}
use Rattle.sets_out.proofs.laws.answer_is_cut_again.Goals as goal

pub returns : goal.returns
returns c = answer_again
