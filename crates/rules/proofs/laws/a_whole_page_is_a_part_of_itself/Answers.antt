use Rattle.rules.proofs.Whole.{whole_held}
use Rattle.rules.proofs.laws.a_whole_page_is_a_part_of_itself.Goals as goal

pub returns : goal.returns
returns c = whole_held
