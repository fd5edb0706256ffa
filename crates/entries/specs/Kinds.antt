-- What kind of text goes out for an entry, and the word for it.
use Rattle.std.specs.Prelude.{ℕ, List, codes}
use Rattle.definitions.specs.Register.{Deed, Performed}
use Rattle.definitions.specs.Rows.{act_kind}
use Rattle.entries.specs.declared.kinds.OutKind.{OutKind}
use Rattle.entries.specs.declared.kinds.OutKind.TheVariants.{Answer, Receipt, Shipment, Adjustment}

abbrev pub kind_text : OutKind → List ℕ
kind_text Answer = codes "ANS"
kind_text Receipt = codes "944"
kind_text Shipment = codes "945"
kind_text Adjustment = codes "947"

-- what kind of text goes out for a deed
abbrev pub kind_by : Deed → List ℕ
kind_by (Performed ticket act) = act_kind act
kind_by d = codes "ANS"
