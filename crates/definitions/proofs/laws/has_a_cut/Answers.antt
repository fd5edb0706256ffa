use Rattle.std.proofs.Common.{length, arith}
use Rattle.definitions.proofs.CutExistsLaws.{cut_is}
use Rattle.definitions.proofs.laws.has_a_cut.Goals as goal

pub returns : goal.returns
returns c = λ d text. cut_is (length text) d text (omega arith)
