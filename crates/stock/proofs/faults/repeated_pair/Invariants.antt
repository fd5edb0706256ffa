use Rattle.definitions.specs.Means.{AdviceLine}
use Rattle.definitions.specs.Events.{same_advice_pair}
use Rattle.stock.proofs.Repeats.{HaveStood}
use Rattle.stock.proofs.faults.repeated_pair.Given as goal

abbrev pub invariant-loop-line : goal.invariant-loop-line
invariant-loop-line l = HaveStood same_advice_pair (λ (k : AdviceLine). k.line) l.lines l.line-index l.seen.items
