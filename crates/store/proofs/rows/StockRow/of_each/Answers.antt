use Rattle.std.proofs.Common.{ap, ◌∙◌, arith, map, take, length, ◌≡◌}
use Rattle.std.proofs.Math.Seq.{take-length}
use Rattle.definitions.specs.Rows.{shown_row}
use Rattle.store.proofs.rows.StockRow.of_each.Goals as goal

pub returns : goal.returns
returns c =
    let rows = c.args.rows.now in
    let whole : c.loop-row.row-index ≡ length rows = omega (arith, c.loop-row-test.false, c.loop-row.auto.row-index-end) in
    c.loop-row.invariant ∙ ap (λ n. map shown_row (take n rows)) whole ∙ ap (map shown_row) (take-length rows)
