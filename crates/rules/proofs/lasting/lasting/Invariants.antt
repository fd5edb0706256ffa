use Rattle.std.specs.Prelude.{vec_len}
use Rattle.rules.proofs.Lasts.{AreKeptFrom}
use Rattle.rules.proofs.lasting.lasting.Given as goal

abbrev pub invariant-loop-change : goal.invariant-loop-change
invariant-loop-change l = AreKeptFrom l.rows l.initial.left.items l.left.items l.kept.items l.marks.items

abbrev pub decreases-loop-change : goal.decreases-loop-change
decreases-loop-change l = vec_len l.left
