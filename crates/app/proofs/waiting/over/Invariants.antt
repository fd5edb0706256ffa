use Rattle.std.proofs.Common.{◌≡◌}
use Rattle.app.proofs.waiting.over.Given as goal

abbrev pub invariant-loop-look : goal.invariant-loop-look
invariant-loop-look g l = record {
  starts : goal.F-IsAlwaysCallable g l.starts;
  out : l.out ≡ l.fn.out;
}
