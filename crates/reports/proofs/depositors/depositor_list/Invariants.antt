use Rattle.std.proofs.Common.{◌≡◌, take}
use Rattle.reports.specs.Open.{depositor_list}
use Rattle.reports.proofs.depositors.depositor_list.Given as goal

-- the depositors so far
abbrev pub invariant-loop-who : goal.invariant-loop-who
invariant-loop-who l = l.text.items ≡ depositor_list (take l.who-index l.whos)
