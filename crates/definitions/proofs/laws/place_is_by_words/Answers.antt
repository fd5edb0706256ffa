use Rattle.definitions.proofs.FaultsLaws.{segment_fault-in_place, segment_fault-out_of_place}
use Rattle.definitions.proofs.laws.place_is_by_words.Goals as goal

pub returns : goal.returns
returns c = λ r d words before s. (segment_fault-in_place r d words before s, segment_fault-out_of_place r d words before s)
