use Rattle.std.proofs.Common.{sym}
use Rattle.counted_io.proofs.Sends.{joined_next}
use Rattle.intake.proofs.texts.join.Goals as goal

pub loop-piece-preserved : goal.loop-piece-preserved
loop-piece-preserved c = rw (c.in_ok-extend_from_slice.ensures.items, c.loop-piece.invariant) (sym (joined_next _ _ _ c.loop-piece-test.true))
