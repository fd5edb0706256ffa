use Rattle.std.proofs.Common.{◌≡◌, length}
use Rattle.request_guard.specs.Doors as meant
use Rattle.request_guard.proofs.texts.trim_end.Given as goal

abbrev pub invariant-loop-last : goal.invariant-loop-last
invariant-loop-last l = meant.trim_end l.text ≡ meant.trim_end l.fn.text

abbrev pub decreases-loop-last : goal.decreases-loop-last
decreases-loop-last l = length l.text
