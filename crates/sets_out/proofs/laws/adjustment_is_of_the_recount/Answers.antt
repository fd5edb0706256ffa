use Rattle.sets_out.proofs.BodyLaws.{body_947-for}
use Rattle.sets_out.proofs.laws.adjustment_is_of_the_recount.Goals as goal

pub returns : goal.returns
returns c = body_947-for
