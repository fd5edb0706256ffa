use Rattle.definitions.proofs.CutUniqueLaws.{cut_unique}
use Rattle.definitions.proofs.laws.has_one_cut.Goals as goal

pub returns : goal.returns
returns c = λ d text ss rest h k. cut_unique d text ss rest h k
