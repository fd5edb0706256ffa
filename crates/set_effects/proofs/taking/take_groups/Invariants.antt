use Rattle.std.proofs.Common.{take}
use Rattle.set_effects.specs.Judging.{AreGroupsTaken}
use Rattle.set_effects.proofs.taking.take_groups.Given as goal

abbrev pub invariant-loop-group : goal.invariant-loop-group
invariant-loop-group l = AreGroupsTaken l.rules l.interchange.delims (take l.group-index l.interchange.groups) l.fn.start l.page l.changes.items l.told.items
