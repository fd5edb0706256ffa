use Rattle.std.proofs.Common.{take}
use Rattle.stock.specs.Touched.{IsTouched}
use Rattle.stock.proofs.places.touched.Given as goal

abbrev pub invariant-loop-line : goal.invariant-loop-line
invariant-loop-line l = IsTouched (take l.line-index l.lines) l.rows l.touched.items
