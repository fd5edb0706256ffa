use Rattle.sets_out.proofs.TextLaws.{ta1-heading}
use Rattle.sets_out.proofs.laws.ta1_looks_at_the_heading.Goals as goal

pub returns : goal.returns
returns c = ta1-heading
