use Rattle.std.proofs.Common.{arith, ap}
use Rattle.definitions.specs.Means.{AdviceLine, Line}
use Rattle.stock.proofs.Moves.{total_fits}
use Rattle.stock.proofs.faults.advice_total.Goals as goal

pub overflow_add-total : goal.overflow_add-total
overflow_add-total c = omega (arith, total_fits c.args.lines.now c.loop-line.line-index c.line-item.result c.requires c.loop-line-test.true c.line-item.is, c.loop-line.invariant, c.from-total.ensures, ap (λ (l : Line). l.quantity) c.line-in-loop-line.view_is, ap (λ (l : AdviceLine). l.line.quantity) c.line.view_is)
