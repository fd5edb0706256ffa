use Rattle.std.proofs.Common.{arith, ap}
use Rattle.definitions.specs.Means.{Line}
use Rattle.page_rows.specs.OfPairs.{amount}
use Rattle.page_rows.specs.Columns.{column_of}
use Rattle.page_rows.proofs.OfPairLemmas.{added_at, amount_here}
use Rattle.stock.proofs.postings.add_line.Goals as goal

pub add-requires : goal.add-requires
add-requires c =
    let placed = c.in_ok-i.ensures in
    omega (
      arith,
      c.requires.fits,
      ap (λ (l : Line). l.quantity) c.line.view_is,
      placed.amounts (column_of c.args.column) c.args.line.now.item c.args.line.now.lot,
      amount_here (amount (column_of c.args.column)) c.args.line.now.item c.args.line.now.lot c.placed.new.rows.items c.in_ok-i.i c.index_mut-row.result.now
          placed.sorted placed.place c.index_mut-row.ensures.value,
    )

pub returns : goal.returns
returns c = rw (c.add.ensures, ap (λ (l : Line). l.quantity) c.line.view_is)
    (added_at (column_of c.args.column) c.args.line.now c.args.rows.now.items c.placed.new.rows.items c.in_ok-i.i c.index_mut-row.result.now c.in_ok-i.ensures c.index_mut-row.ensures.value)
