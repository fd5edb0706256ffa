use Rattle.folders.specs.Naming.{AreTaken}
use Rattle.folders.proofs.naming.find_free_name.Given as goal

-- no name before the nth is free
abbrev pub invariant-loop-n : goal.invariant-loop-n
invariant-loop-n g l = AreTaken (g.R.FileSystem.finds l.rt) l.done.dir.now l.done.run.now l.n
