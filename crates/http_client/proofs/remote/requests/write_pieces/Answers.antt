use Rattle.counted_io.proofs.Sends.{sent_piece}
use Rattle.http_client.proofs.remote.requests.write_pieces.Goals as goal

pub loop-piece-preserved : goal.loop-piece-preserved
loop-piece-preserved g c = sent_piece _ _ _ _ _ _ c.loop-piece-test.true c.loop-piece.invariant c.in_ok-write_all.ensures.bytes
