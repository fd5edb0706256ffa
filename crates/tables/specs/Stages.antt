-- What may still come at each stage of a set.
use Rattle.definitions.specs.declared.rules.Rules.{Rules}
use Rattle.definitions.specs.Words.{Words}
use Rattle.tables.specs.Advice as advice
use Rattle.tables.specs.Order as order
use Rattle.tables.specs.Acknowledgment as acknowledgment
use Rattle.tables.specs.declared.stages.Stage.{Stage}
use Rattle.tables.specs.declared.stages.Stage.TheVariants.{Advice, Order, Acknowledgment}

abbrev pub rest_of : Rules → Stage → Words
rest_of r (Advice s) = advice.rest_of r s
rest_of r (Order s) = order.rest_of r s
rest_of r (Acknowledgment s) = acknowledgment.rest_of s
