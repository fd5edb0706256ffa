use Rattle.definitions.proofs.SheetLaws.{sheet_of-is}
use Rattle.definitions.proofs.laws.sheet_has_the_lines.Goals as goal

pub returns : goal.returns
returns c = λ r kind raw ls h. sheet_of-is r kind raw ls h
