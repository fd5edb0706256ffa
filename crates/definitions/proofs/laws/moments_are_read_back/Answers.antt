use Rattle.definitions.proofs.ReadingLaws.{moment_of-stamp}
use Rattle.definitions.proofs.laws.moments_are_read_back.Goals as goal

pub returns : goal.returns
returns c = λ t h. moment_of-stamp t h
