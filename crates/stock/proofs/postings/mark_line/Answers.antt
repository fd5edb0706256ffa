use Rattle.std.proofs.Common.{ap}
use Rattle.definitions.specs.Means.{Line}
use Rattle.stock.proofs.Marks.{marked_at}
use Rattle.stock.proofs.postings.mark_line.Goals as goal

pub returns-in-Some : goal.returns-in-Some
returns-in-Some c = rw c.mark.ensures
    (marked_at c.args.n c.args.line.now c.args.rows.now.items c.in-Some.i c.index_mut-row.result.now c.requires.sorted (rw (c.deref.ensures.value, c.deref-2.ensures.value, c.deref-3.ensures.value, ap (λ (l : Line). l.item) c.line.view_is, ap (λ (l : Line). l.lot) c.line.view_is) at c.in-Some.ensures) c.index_mut-row.ensures.value)
