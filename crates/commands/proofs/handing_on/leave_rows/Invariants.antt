use Rattle.std.proofs.Common.{take}
use Rattle.commands.specs.HandingOn.{AreLeft}
use Rattle.commands.specs.declared.told.ExitStatus.TheVariants.{Done}
use Rattle.commands.proofs.handing_on.leave_rows.Given as goal

abbrev pub invariant-loop-row : goal.invariant-loop-row
invariant-loop-row g l =
    AreLeft (g.R.FileSystem.finds l.rt) (g.R.FileSystem.reads l.rt) (g.R.FileSystem.writes l.rt) l.dir (take l.row-index l.rows)
    (g.W.Write.contents l.fn.out, Done) (g.W.Write.contents l.out, l.status)
