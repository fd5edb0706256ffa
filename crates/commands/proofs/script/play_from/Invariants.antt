use Rattle.std.specs.Prelude.{◌≡◌, false, length}
use Rattle.commands.specs.Playing.{IsRowDone, rows_left}
use Rattle.commands.specs.Saying.{IsRowSaid}
use Rattle.commands.specs.declared.told.ExitStatus.TheVariants.{Done}
use Rattle.store.specs.Standing.{GoesOn}
use Rattle.commands.proofs.PlayingLaws.{SoFar}
use Rattle.commands.proofs.script.play_from.Given as goal

abbrev pub invariant-loop-left : goal.invariant-loop-left
invariant-loop-left g l = record {
  goes : GoesOn (g.K.Keeper.standing l.fn.book) (g.K.Keeper.standing l.book);
  so_far : SoFar (IsRowDone (g.R.FileSystem.reads l.rt) g.K.Keeper.standing g.W.Write.contents) (l.fn.book, (l.fn.out, Done)) l.fn.text l.left (l.book, (l.out, l.status));
  said : l.verbosity.explains ≡ false
      → SoFar (IsRowSaid (g.R.FileSystem.reads l.rt) g.K.Keeper.standing) (l.fn.book, g.E.Write.contents l.fn.err) l.fn.text l.left (l.book, g.E.Write.contents l.err);
}

abbrev pub decreases-loop-left : goal.decreases-loop-left
decreases-loop-left g l = length (rows_left l.left)
