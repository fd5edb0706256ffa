use Rattle.std.proofs.Common.{◌≡◌}
use Rattle.definitions.specs.Cut.{cut, pieces_left}
use Rattle.definitions.specs.Need.{need_of_segments, together}
use Rattle.entries.proofs.NeedLists.{named_by}
use Rattle.entries.proofs.needs.named_in.Given as goal

-- the names so far and those of the segments that are left are all
abbrev pub invariant-loop-segment : goal.invariant-loop-segment
invariant-loop-segment l = record {
  named : together l.need (named_by (pieces_left l.left)) ≡ need_of_segments (cut l.fn.delims l.text).segments;
}
