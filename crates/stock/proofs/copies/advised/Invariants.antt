use Rattle.std.proofs.Common.{◌≡◌, take, map}
use Rattle.stock.proofs.copies.advised.Given as goal

abbrev pub invariant-loop-line : goal.invariant-loop-line
invariant-loop-line l = l.copy.items ≡ map (λ x. x.line) (take l.line-index l.lines)
