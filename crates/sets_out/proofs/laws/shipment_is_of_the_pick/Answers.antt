use Rattle.sets_out.proofs.BodyLaws.{body_945-for}
use Rattle.sets_out.proofs.laws.shipment_is_of_the_pick.Goals as goal

pub returns : goal.returns
returns c = body_945-for
