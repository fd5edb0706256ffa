use Rattle.std.proofs.Common.{length, ◌-◌, ◌≡◌, ◌≤◌, take}
use Rattle.std.specs.Io.KnownBytes.{Appends}
use Rattle.commands.proofs.printing.print.Given as goal

abbrev pub invariant-loop-sent : goal.invariant-loop-sent
invariant-loop-sent g l = record {
  within : l.sent ≤ length l.bytes;
  printed : Appends (g.W.Write.contents l.fn.out) (g.W.Write.contents l.out) (take l.sent l.bytes);
  quiet : g.W.Printer.failures l.out ≡ g.W.Printer.failures l.fn.out;
}

abbrev pub decreases-loop-sent : goal.decreases-loop-sent
decreases-loop-sent g l = length l.bytes - l.sent
