use Rattle.std.proofs.Common.{◌≡◌, ◌≤◌, take, length}
use Rattle.definitions.specs.Bytes as bytes
use Rattle.envelope.proofs.bytes.stripped.Given as goal

-- what was left out at the end means nothing
abbrev pub invariant-loop-end : goal.invariant-loop-end
invariant-loop-end l = record {
  same : bytes.stripped (take l.end l.text) ≡ bytes.stripped l.text;
  within : l.end ≤ length l.text;
}

abbrev pub decreases-loop-end : goal.decreases-loop-end
decreases-loop-end l = l.end
