use Rattle.std.proofs.Common.{take, Some}
use Rattle.definitions.specs.Structure as meant
use Rattle.set_effects.specs.Judging.{AreTaken}
use Rattle.set_effects.proofs.taking.take_sets.Given as goal

abbrev pub invariant-loop-i : goal.invariant-loop-i
invariant-loop-i l = AreTaken l.rules l.group.delims (Some l.kind) (take l.i (meant.examined l.group.group)) l.fn.start l.page l.changes.items l.told.items
