use Rattle.std.proofs.Common.{◌≡◌, ◌-◌, ◌++◌, take, drop}
use Rattle.std.specs.Prelude.{sum}
use Rattle.definitions.specs.Allotment.{allot, shares_after}
use Rattle.stock.proofs.allotment.allot.Given as goal

abbrev pub invariant-loop-amount : goal.invariant-loop-amount
invariant-loop-amount l = record {
  shares : allot l.free l.want ≡ l.shares.items ++ shares_after (sum (take l.amount-index l.free)) (drop l.amount-index l.free) l.want;
  left : l.left ≡ l.want - sum (take l.amount-index l.free);
}
