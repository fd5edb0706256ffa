use Rattle.sets_out.proofs.WrittenInterchanges.{document_again}
use Rattle.sets_out.proofs.laws.document_is_cut_again.Goals as goal

pub returns : goal.returns
returns c = document_again
