use Rattle.std.proofs.Common.{ℕ, List, ◌++◌, ◌∷◌, [], map, take, ap, sym, ◌∙◌}
use Rattle.std.proofs.lemmas.List.{map_more, take_all}
use Rattle.definitions.specs.Rows.{LotRow}
use Rattle.page_rows.specs.Columns.{column_of}
use Rattle.page_rows.specs.OfPairs.{amount}
use Rattle.stock.proofs.left.amounts.Goals as goal

pub loop-row-preserved : goal.loop-row-preserved
loop-row-preserved c =
    let n : LotRow → ℕ = amount (column_of c.args.column) in
    let rows : List LotRow = c.args.rows.now in
    let i = c.loop-row.row-index in
    c.in_ok-push.ensures.items
    ∙ (λ j. c.loop-row.invariant j ++ c.amount.ensures j ∷ [])
    ∙ ap (λ (r : LotRow). map n (take i rows) ++ n r ∷ []) c.row-item.is
    ∙ sym (map_more n rows i c.row-item.result c.loop-row-test.true)

pub returns : goal.returns
returns c = c.loop-row.invariant ∙ ap (map (amount (column_of c.args.column))) (take_all c.loop-row.row-index c.args.rows.now c.loop-row-test.false)
