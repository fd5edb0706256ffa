use Rattle.std.proofs.Common.{◌≡◌, ◌+◌, take}
use Rattle.definitions.specs.Events.{quantity_of}
use Rattle.stock.proofs.sound.left_after.Given as goal

-- what is left, and what the lines so far give
abbrev pub invariant-loop-line : goal.invariant-loop-line
invariant-loop-line l = l.left + quantity_of (take l.line-index l.lines) l.fn.item l.fn.lot ≡ l.fn.amount
