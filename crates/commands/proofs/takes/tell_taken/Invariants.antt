use Rattle.std.proofs.Common.{◌≡◌, map, flat_map, take}
use Rattle.std.specs.Io.KnownBytes.{Appends}
use Rattle.commands.specs.Takes as meant
use Rattle.commands.proofs.takes.tell_taken.Given as goal

abbrev pub invariant-loop-file : goal.invariant-loop-file
invariant-loop-file g l = record {
  so_far : l.status ≡ meant.status_of_files (map meant.became_in (take l.file-index l.files));
  printed : Appends (g.W.Write.contents l.fn.out) (g.W.Write.contents l.out) (flat_map meant.line_in (take l.file-index l.files));
  quiet : g.W.Printer.failures l.out ≡ g.W.Printer.failures l.fn.out;
}
