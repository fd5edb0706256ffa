use Rattle.std.proofs.Common.{◌≡◌, take}
use Rattle.std.specs.Prelude.{sum_by}
use Rattle.stock.proofs.faults.order_total.Given as goal

abbrev pub invariant-loop-line : goal.invariant-loop-line
invariant-loop-line l = l.total ≡ sum_by (λ x. x.quantity) (take l.line-index l.lines)
