use Rattle.std.proofs.Common.{◌≡◌, ap}
use Rattle.std.specs.List.{insert}
use Rattle.definitions.specs.Means.{Line}
use Rattle.page_rows.specs.OfPairs.{blank}
use Rattle.page_rows.proofs.OfPairLemmas.{placed_there, placed_new}
use Rattle.stock.proofs.places.placed.Goals as goal

pub returns-in-Some : goal.returns-in-Some
returns-in-Some c = placed_there _ _ _ c.requires (rw (c.deref.ensures.value, c.deref-2.ensures.value, c.deref-3.ensures.value, ap (λ (l : Line). l.item) c.line.view_is, ap (λ (l : Line). l.lot) c.line.view_is) at c.in-Some.ensures)

pub returns : goal.returns
returns c =
    let e : c.insert.new.self.items ≡ insert c.args.rows.now.items c.rank_of-i.result (blank c.args.line.now) = cc (c.in_ok-insert.ensures.items, c.in_ok-blank.ensures) in
    rw e (placed_new c.args.line.now c.args.rows.now.items c.rank_of-i.result c.requires (rw (c.deref-4.ensures.value, c.deref-5.ensures.value, c.deref-6.ensures.value, ap (λ (l : Line). l.item) c.line.view_is, ap (λ (l : Line). l.lot) c.line.view_is) at c.rank_of-i.ensures)
    (rw (c.deref.ensures.value, c.deref-2.ensures.value, c.deref-3.ensures.value, ap (λ (l : Line). l.item) c.line.view_is, ap (λ (l : Line). l.lot) c.line.view_is) at c.in_default.ensures))
