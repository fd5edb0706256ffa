use Rattle.std.proofs.Common.{◌≡◌, take, None}
use Rattle.std.specs.Prelude.{find}
use Rattle.store.specs.Replayed.{is_under}
use Rattle.store.proofs.replaying.place_of.Given as goal

abbrev pub invariant-loop-i : goal.invariant-loop-i
invariant-loop-i l = find (is_under l.who l.mark) (take l.i l.entries) ≡ None
