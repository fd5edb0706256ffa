use Rattle.std.proofs.Common.{refl}
use Rattle.definitions.specs.declared.set_kind.SetKind.TheVariants.{ShipmentAdvice}
use Rattle.definitions.proofs.FirstLaws.{lots-first, fault-first}
use Rattle.definitions.proofs.UndatedLaws.{advice_of-undated}
use Rattle.definitions.proofs.laws.first_rules_stay.Goals as goal

pub returns : goal.returns
returns c = record {
  limits = record { lines = refl; quantity = refl; quantity_width = refl; advice_width = refl; order_width = refl };
  elements = λ previous. refl;
  lots = λ es item. lots-first es item;
  undated = λ d ss none. advice_of-undated d ss ShipmentAdvice none;
  faults = λ es a none. fault-first es a none;
  shown = λ row. (refl, refl);
  schemas = refl;
  tables = λ W L. refl;
  put = λ L e. refl;
}
