use Rattle.definitions.specs.declared.set_kind.SetKind.TheVariants.{ShippingOrder, ShipmentAdvice, FunctionalAcknowledgment}
use Rattle.definitions.proofs.NamesLaws.{two_segments, shipment_named, order_named, document_named}
use Rattle.definitions.proofs.laws.sets_name_what_they_say.Goals as goal

pub returns : goal.returns
returns c = λ r d earlier s. (
  λ e h. shipment_named r d s.segments (two_segments ShipmentAdvice earlier s e) h,
  λ e h. order_named r d s.segments (two_segments ShippingOrder earlier s e) h,
  λ e h. document_named r d s.segments (two_segments FunctionalAcknowledgment earlier s e) h,
)
