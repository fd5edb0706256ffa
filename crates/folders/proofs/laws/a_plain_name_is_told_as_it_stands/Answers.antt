use Rattle.folders.proofs.ToldLaws.{told_plain}
use Rattle.folders.proofs.laws.a_plain_name_is_told_as_it_stands.Goals as goal

pub returns : goal.returns
returns c = told_plain
