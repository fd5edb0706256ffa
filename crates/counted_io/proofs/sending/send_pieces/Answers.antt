use Rattle.std.proofs.Common.{◌∙◌}
use Rattle.counted_io.proofs.Sends.{sent_piece, beginning_more, joined_from, counted_more, piece_fits, beginning_fits}
use Rattle.counted_io.proofs.sending.send_pieces.Goals as goal

pub overflow_add-sent : goal.overflow_add-sent
overflow_add-sent g c = piece_fits _ _ _ _ c.loop-piece-test.true c.loop-piece.invariant.counted c.requires

pub overflow_add-result : goal.overflow_add-result
overflow_add-result g c = beginning_fits _ _ _ _ _ _ _ c.loop-piece-test.true c.loop-piece.invariant.counted c.requires c.in-Err.ensures.beginning

pub loop-piece-preserved : goal.loop-piece-preserved
loop-piece-preserved g c = record {
  appended = sent_piece _ _ _ _ _ _ c.loop-piece-test.true c.loop-piece.invariant.appended c.in-Ok.ensures.whole;
  counted = counted_more _ _ _ _ c.loop-piece-test.true c.loop-piece.invariant.counted;
  quiet = c.in-Ok.ensures.quiet ∙ c.loop-piece.invariant.quiet;
}

pub returns-in-Err-clause-beginning : goal.returns-in-Err-clause-beginning
returns-in-Err-clause-beginning g c =
    beginning_more _ _ _ _ _ _ _ _ _ (joined_from _ _ _ c.loop-piece-test.true) c.loop-piece.invariant.appended c.loop-piece.invariant.counted c.in-Err.ensures.beginning
