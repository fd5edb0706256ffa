use Rattle.std.proofs.Common.{◌≡◌, ◌++◌, ◌∷◌, flat_map, take}
use Rattle.definitions.specs.Bytes.{right_aligned}
use Rattle.reports.proofs.balances.append_amounts.Given as goal

-- the amounts so far
abbrev pub invariant-loop-amount : goal.invariant-loop-amount
invariant-loop-amount l = l.out.items ≡ l.fn.out.items ++ flat_map (λ a. 32 ∷ right_aligned 15 a.now) (take l.amount-index l.amounts)
