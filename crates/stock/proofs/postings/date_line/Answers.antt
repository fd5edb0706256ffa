use Rattle.std.proofs.Common.{ap}
use Rattle.definitions.specs.Means.{Line, AdviceLine}
use Rattle.stock.proofs.Dated.{dated_at}
use Rattle.stock.proofs.postings.date_line.Goals as goal

pub returns-in_ok-date : goal.returns-in_ok-date
returns-in_ok-date c = rw c.in_ok-date.ensures
    (dated_at c.args.line.now c.args.rows.now.items c.in-Some.i c.index_mut-row.result.now c.requires.sorted
    (rw (c.deref.ensures.value, c.deref-2.ensures.value, c.deref-3.ensures.value, ap (λ (l : Line). l.item) c.goods.view_is, ap (λ (l : Line). l.lot) c.goods.view_is, ap (λ (l : AdviceLine). l.line.item) c.line.view_is, ap (λ (l : AdviceLine). l.line.lot) c.line.view_is) at c.in-Some.ensures)
    c.index_mut-row.ensures.value)
