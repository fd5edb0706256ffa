use Rattle.std.proofs.Common.{◌≤◌}
use Rattle.intake.proofs.crowd.CrowdCallers.next_caller.Given as goal

abbrev pub invariant-loop : goal.invariant-loop
invariant-loop g l = l.fn.self.lost ≤ l.self.lost
