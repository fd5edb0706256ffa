use Rattle.std.proofs.Common.{◌≡◌, take}
use Rattle.std.specs.Io.KnownBytes.{Appends}
use Rattle.commands.specs.Printing.{joined}
use Rattle.commands.proofs.printing.print_pieces.Given as goal

abbrev pub invariant-loop-piece : goal.invariant-loop-piece
invariant-loop-piece g l = record {
  printed : Appends (g.W.Write.contents l.fn.out) (g.W.Write.contents l.out) (joined (take l.piece-index l.pieces));
  quiet : g.W.Printer.failures l.out ≡ g.W.Printer.failures l.fn.out;
}
