use Rattle.std.proofs.Common.{arith, ap}
use Rattle.definitions.specs.Means.{Line}
use Rattle.page_rows.specs.OfPairs.{amount}
use Rattle.page_rows.specs.Columns.{column_of}
use Rattle.page_rows.proofs.OfPairLemmas.{amount_here}
use Rattle.stock.proofs.Raises.{raised_at, raised_none}
use Rattle.stock.proofs.postings.raise_line.Goals as goal

pub add-requires : goal.add-requires
add-requires c =
    omega (
      arith,
      c.requires.fits,
      ap (λ (l : Line). l.quantity) c.line.view_is,
      amount_here (amount (column_of c.args.column)) c.args.line.now.item c.args.line.now.lot c.args.rows.now.items c.in-Some.i c.index_mut-row.result.now c.requires.sorted
          (rw (c.deref.ensures.value, c.deref-2.ensures.value, c.deref-3.ensures.value, ap (λ (l : Line). l.item) c.line.view_is, ap (λ (l : Line). l.lot) c.line.view_is) at c.in-Some.ensures) c.index_mut-row.ensures.value,
    )

pub returns-in-Some : goal.returns-in-Some
returns-in-Some c = rw (c.add.ensures, ap (λ (l : Line). l.quantity) c.line.view_is)
    (raised_at (column_of c.args.column) c.args.line.now c.args.rows.now.items c.in-Some.i c.index_mut-row.result.now c.requires.sorted
    (rw (c.deref.ensures.value, c.deref-2.ensures.value, c.deref-3.ensures.value, ap (λ (l : Line). l.item) c.line.view_is, ap (λ (l : Line). l.lot) c.line.view_is) at c.in-Some.ensures) c.index_mut-row.ensures.value)

pub returns-in_default : goal.returns-in_default
returns-in_default c = raised_none (column_of c.args.column) c.args.line.now c.args.rows.now.items c.requires.sorted
    (c.requires.there (rw (c.deref.ensures.value, c.deref-2.ensures.value, c.deref-3.ensures.value, ap (λ (l : Line). l.item) c.line.view_is, ap (λ (l : Line). l.lot) c.line.view_is) at c.in_default.ensures))
