use Rattle.std.proofs.Common.{◌≡◌, ◌≤◌, take}
use Rattle.std.specs.Prelude.{min}
use Rattle.definitions.specs.Bytes as bytes
use Rattle.segments.proofs.digits.value_up_to.Given as goal

abbrev pub invariant-loop-b : goal.invariant-loop-b
invariant-loop-b l = record {
  so_far : l.value ≡ min (bytes.value (take l.b-index l.text)) l.most;
  small : l.value ≤ l.most;
}
