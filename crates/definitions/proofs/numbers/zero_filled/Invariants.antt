use Rattle.std.proofs.Common.{◌≡◌, ◌++◌, ◌≤◌, length, drop}
use Rattle.definitions.specs.Bytes.{zero_filled}
use Rattle.definitions.proofs.numbers.zero_filled.Given as goal

-- the digits from `at` on are written, and what is left fills those before
abbrev pub invariant-loop-at : goal.invariant-loop-at
invariant-loop-at g l = record {
  whole : length l.digits ≡ g.row.N;
  within : l.at ≤ g.row.N;
  written : zero_filled l.at l.left ++ drop l.at l.digits ≡ zero_filled g.row.N l.n;
}

abbrev pub decreases-loop-at : goal.decreases-loop-at
decreases-loop-at g l = l.at
