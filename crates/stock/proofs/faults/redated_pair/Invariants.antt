use Rattle.std.proofs.Common.{◌≡◌, drop}
use Rattle.std.specs.Prelude.{find}
use Rattle.definitions.specs.Events.{is_redated}
use Rattle.page_rows.specs.OfPairs.{date_of_pair}
use Rattle.stock.proofs.faults.redated_pair.Given as goal

abbrev pub invariant-loop-line : goal.invariant-loop-line
invariant-loop-line l =
    find (is_redated (λ item lot. date_of_pair item lot l.rows)) l.lines ≡ find (is_redated (λ item lot. date_of_pair item lot l.rows)) (drop l.line-index l.lines)
