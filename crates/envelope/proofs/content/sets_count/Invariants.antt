use Rattle.std.proofs.Common.{◌≡◌, ◌^◌, ◌≤◌, take, length}
use Rattle.std.specs.Prelude.{min, sum_by}
use Rattle.envelope.proofs.content.sets_count.Given as goal

abbrev pub invariant-loop-group : goal.invariant-loop-group
invariant-loop-group l = record {
  so_far : l.total ≡ min (sum_by (λ g. length g.group.sets) (take l.group-index l.groups)) (10 ^ 18);
  small : l.total ≤ 10 ^ 18;
}
