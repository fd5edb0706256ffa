use Rattle.std.proofs.Common.{◌≡◌, ◌≤◌, ◌*◌, take}
use Rattle.std.specs.Prelude.{sum_by}
use Rattle.page_rows.proofs.known_advices.total.Given as goal

abbrev pub invariant-loop-line : goal.invariant-loop-line
invariant-loop-line l = (l.total ≡ sum_by (λ k. k.quantity) (take l.line-index l.lines)) × (l.total ≤ 4294967295 * l.line-index)
