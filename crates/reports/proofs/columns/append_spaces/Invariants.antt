use Rattle.std.proofs.Common.{◌≡◌, ◌++◌, replicate}
use Rattle.reports.proofs.columns.append_spaces.Given as goal

-- the spaces so far
abbrev pub invariant-loop : goal.invariant-loop
invariant-loop l = l.out.items ≡ l.fn.out.items ++ replicate l.counter 32
