use Rattle.std.proofs.Common.{◌≡◌, length}
use Rattle.request_guard.specs.Doors as meant
use Rattle.request_guard.proofs.texts.trim_start.Given as goal

abbrev pub invariant-loop-first : goal.invariant-loop-first
invariant-loop-first l = meant.trim_start l.text ≡ meant.trim_start l.fn.text

abbrev pub decreases-loop-first : goal.decreases-loop-first
decreases-loop-first l = length l.text
