use Rattle.std.proofs.Common.{ap, arith, eqb}
use Rattle.definitions.specs.Means.{Line}
use Rattle.stock.proofs.Lefts.{less_none, less_short, less_taken}
use Rattle.stock.proofs.left.take_line.Goals as goal

pub returns-in-None : goal.returns-in-None
returns-in-None c = less_none c.args.line.now c.args.rows.now c.args.left.now.items _
    (rw (c.deref.ensures.value, c.deref-2.ensures.value, ap (λ (l : Line). l.item) c.line.view_is, ap (λ (l : Line). l.lot) c.line.view_is) at c.in-None.ensures)
    (ap (λ (l : Line). eqb l.quantity 0) c.line.view_is)

pub returns-in-None-checked_sub : goal.returns-in-None-checked_sub
returns-in-None-checked_sub c = less_short c.args.line.now c.args.rows.now c.args.left.now.items c.in-Some.i c.index.result.now
    (rw (c.deref.ensures.value, c.deref-2.ensures.value, ap (λ (l : Line). l.item) c.line.view_is, ap (λ (l : Line). l.lot) c.line.view_is) at c.in-Some.ensures)
    (omega (arith, c.in-None-checked_sub.ensures, c.from.ensures, ap (λ (l : Line). l.quantity) c.line.view_is, c.index.ensures))

pub returns-in-Some-checked_sub : goal.returns-in-Some-checked_sub
returns-in-Some-checked_sub c = less_taken c.args.line.now c.args.rows.now c.args.left.now.items c.in-Some.i c.index.result.now c.in-Some-checked_sub.less
    c.requires.sorted c.requires.beside
    (rw (c.deref.ensures.value, c.deref-2.ensures.value, ap (λ (l : Line). l.item) c.line.view_is, ap (λ (l : Line). l.lot) c.line.view_is) at c.in-Some.ensures)
    (omega (arith, c.in-Some-checked_sub.ensures, c.from.ensures, ap (λ (l : Line). l.quantity) c.line.view_is, c.index.ensures))
