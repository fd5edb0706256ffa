use Rattle.rules.proofs.Whole.{held_stands}
use Rattle.rules.proofs.laws.a_part_stands_for_its_page.Goals as goal

pub returns : goal.returns
returns c = held_stands
