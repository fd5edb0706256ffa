use Rattle.std.proofs.Common.{take}
use Rattle.std.specs.Io.KnownBytes.{Appends}
use Rattle.counted_io.specs.Gauges.{joined}
use Rattle.http_client.proofs.remote.requests.write_pieces.Given as goal

abbrev pub invariant-loop-piece : goal.invariant-loop-piece
invariant-loop-piece g l = Appends (g.W.Write.contents l.fn.writer) (g.W.Write.contents l.writer) (joined (take l.piece-index l.pieces))
