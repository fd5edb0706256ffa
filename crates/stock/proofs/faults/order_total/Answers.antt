use Rattle.std.proofs.Common.{arith, ap}
use Rattle.definitions.specs.Means.{OrderLine}
use Rattle.stock.proofs.Moves.{order_fits}
use Rattle.stock.proofs.faults.order_total.Goals as goal

pub overflow_add-total : goal.overflow_add-total
overflow_add-total c = omega (arith, order_fits c.args.lines.now c.loop-line.line-index c.line-item.result c.requires c.loop-line-test.true c.line-item.is, c.loop-line.invariant, c.from-total.ensures, ap (λ (l : OrderLine). l.quantity) c.line.view_is)
