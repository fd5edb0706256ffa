use Rattle.std.proofs.Common.{◌≡◌, take, length}
use Rattle.std.specs.Io.KnownBytes.{Appends}
use Rattle.counted_io.specs.Gauges.{joined}
use Rattle.counted_io.proofs.sending.send_pieces.Given as goal

abbrev pub invariant-loop-piece : goal.invariant-loop-piece
invariant-loop-piece g l = record {
  appended : Appends (g.W.Write.contents l.fn.writer.inner) (g.W.Write.contents l.writer.inner) (joined (take l.piece-index l.pieces));
  counted : l.sent ≡ length (joined (take l.piece-index l.pieces));
  quiet : l.writer.errors ≡ l.fn.writer.errors;
}
