use Rattle.std.proofs.Common.{◌≡◌, ◌++◌}
use Rattle.definitions.specs.Cut as meaning
use Rattle.envelope.proofs.cutting.pieces.Given as goal

-- the segments so far and those that are left are all, and the rest stays
abbrev pub invariant-loop-segment : goal.invariant-loop-segment
invariant-loop-segment l = record {
  pieces : l.pieces.items ++ meaning.pieces_left l.left ≡ meaning.pieces_left (record { delims = l.fn.delims; text = l.text });
  rest : meaning.rest_left l.left ≡ (meaning.cut l.fn.delims l.text).rest;
}
