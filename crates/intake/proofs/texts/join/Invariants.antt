use Rattle.std.proofs.Common.{◌≡◌, take}
use Rattle.counted_io.specs.Gauges.{joined}
use Rattle.intake.proofs.texts.join.Given as goal

-- the buffer holds the pieces so far
abbrev pub invariant-loop-piece : goal.invariant-loop-piece
invariant-loop-piece l = l.whole.items ≡ joined (take l.piece-index l.pieces)
