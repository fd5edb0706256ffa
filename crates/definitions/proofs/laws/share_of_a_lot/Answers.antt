use Rattle.definitions.proofs.AllotmentLaws.{share-at}
use Rattle.definitions.proofs.laws.share_of_a_lot.Goals as goal

pub returns : goal.returns
returns c = λ free w j. share-at free w j
