use Rattle.definitions.proofs.WrittenLaws.{data_written}
use Rattle.definitions.proofs.laws.data_elements_may_be_written.Goals as goal

pub returns : goal.returns
returns c = λ d es g h last. data_written d es g h last
