use Rattle.sets_out.proofs.WrittenInterchanges.{shipment_again}
use Rattle.sets_out.proofs.laws.shipment_is_cut_again.Goals as goal

pub returns : goal.returns
returns c = shipment_again
