use Rattle.folders.proofs.ToldLaws.{told_above}
use Rattle.folders.proofs.laws.no_name_ends_a_line.Goals as goal

pub returns : goal.returns
returns c = told_above
