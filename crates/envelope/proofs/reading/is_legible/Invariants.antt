use Rattle.std.proofs.Common.{◌≡◌, drop, true}
use Rattle.definitions.specs.Header as meant
use Rattle.envelope.proofs.reading.is_legible.Given as goal

-- what is left decides
abbrev pub invariant-loop-b : goal.invariant-loop-b
invariant-loop-b l = meant.is_legible l.delims true l.text ≡ meant.is_legible l.delims l.after (drop l.b-index l.text)
