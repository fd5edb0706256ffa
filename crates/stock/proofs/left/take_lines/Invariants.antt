use Rattle.std.proofs.Common.{take, true}
use Rattle.definitions.specs.Events.{quantity_of}
use Rattle.stock.specs.Left.{IsLess}
use Rattle.stock.proofs.left.take_lines.Given as goal

-- the lines so far were taken
abbrev pub invariant-loop-line : goal.invariant-loop-line
invariant-loop-line l = IsLess l.rows (quantity_of (take l.line-index l.lines)) l.initial.left.items l.left.items true
