use Rattle.std.specs.Prelude.{◌≡◌, filter, length}
use Rattle.commands.specs.Playing.{asks, asking, rows_left}
use Rattle.commands.proofs.script.opening_row.Given as goal

abbrev pub invariant-loop-left : goal.invariant-loop-left
invariant-loop-left l = asking l.text ≡ filter asks (rows_left l.left)

abbrev pub decreases-loop-left : goal.decreases-loop-left
decreases-loop-left l = length (rows_left l.left)
