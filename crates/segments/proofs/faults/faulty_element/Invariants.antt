use Rattle.std.proofs.Common.{◌≡◌, ◌+◌, map, drop}
use Rattle.definitions.specs.Elements as meant
use Rattle.segments.specs.Rows.{row_of}
use Rattle.segments.proofs.faults.faulty_element.Given as goal

abbrev pub invariant-loop-index : goal.invariant-loop-index
invariant-loop-index l = meant.faulty_element l.delims (map row_of l.rows) l.segment.elements
    ≡ meant.least_element_fault l.delims (l.index + 1) (map row_of (drop l.index l.rows)) (drop (l.index + 1) l.segment.elements)
