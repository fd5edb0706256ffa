use Rattle.sets_out.proofs.WrittenInterchanges.{refusal_again}
use Rattle.sets_out.proofs.laws.refusal_is_cut_again.Goals as goal

pub returns : goal.returns
returns c = refusal_again
