use Rattle.definitions.proofs.CutUniqueLaws.{written_again}
use Rattle.definitions.proofs.laws.written_is_cut_again.Goals as goal

pub returns : goal.returns
returns c = λ d ss h k. written_again d ss h k
