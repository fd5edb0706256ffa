use Rattle.std.proofs.Common.{◌≡◌, ℕ, ◌+◌, List, drop}
use Rattle.definitions.specs.Cut.{segments_of}
use Rattle.definitions.specs.Words.{kind_words}
use Rattle.definitions.specs.Faults.{set_fault, fault_from}
use Rattle.tables.specs.Rows.{is_goods, after_goods, is_advised, after_advised}
use Rattle.tables.specs.Stages.{rest_of}
use Rattle.tables.proofs.checked.first_fault.Given as goal

-- the fault of the set is that of what is left, after a segment with some id
abbrev pub invariant-loop-index : goal.invariant-loop-index
invariant-loop-index l = (previous : List ℕ) × (after_goods l.progress.after ≡ is_goods previous) × (after_advised l.progress.after ≡ is_advised previous)
    × (set_fault l.rules l.delims (kind_words l.rules l.kind) (segments_of l.segments)
    ≡ fault_from l.rules l.delims (kind_words l.rules l.kind) (rest_of l.rules l.progress.stage) previous (l.index + 1) (segments_of (drop l.index l.segments)))
