use Rattle.std.proofs.Common.{◌∙◌, ap, arith}
use Rattle.definitions.specs.Bytes.{value}
use Rattle.definitions.specs.declared.widths.TheConstants.{QUANTITY_DIGITS_TWO}
use Rattle.sets_in.proofs.Values.{amount_bound}
use Rattle.sets_in.proofs.orders.order_line.Goals as goal

pub returns-clause-small : goal.returns-clause-small
returns-clause-small c = omega (arith, c.number-quantity.ensures ∙ ap value c.element_at-2.ensures, amount_bound QUANTITY_DIGITS_TWO _ c.requires)
