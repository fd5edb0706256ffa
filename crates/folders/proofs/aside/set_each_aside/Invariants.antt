use Rattle.std.proofs.Common.{take}
use Rattle.folders.specs.Naming.{AreUnreadable, IsSetAside}
use Rattle.folders.proofs.aside.set_each_aside.Given as goal

abbrev pub invariant-loop-file : goal.invariant-loop-file
invariant-loop-file g l =
    AreUnreadable (IsSetAside (g.R.FileSystem.finds l.rt) (g.R.FileSystem.moves l.rt) (g.R.FileSystem.makes l.rt) (g.R.FileSystem.syncs l.rt) l.taking) (take l.file-index l.files)
