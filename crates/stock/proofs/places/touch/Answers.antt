use Rattle.std.proofs.Common.{◌≡◌, ◌∙◌, ap}
use Rattle.definitions.specs.Means.{Line}
use Rattle.definitions.specs.Rows.{LotRow}
use Rattle.page_rows.specs.Keyed.{put_row}
use Rattle.stock.proofs.Leads.{touched_by, touched_by_none}
use Rattle.stock.proofs.places.touch.Goals as goal

pub returns-in_ok-put_row : goal.returns-in_ok-put_row
returns-in_ok-put_row c =
    let e : c.put_row.new.rows.items ≡ put_row c.index-rows-i.result c.args.touched.now.items = c.in_ok-put_row.ensures ∙ ap (λ (r : LotRow). put_row r c.args.touched.now.items) c.in_ok-copy.ensures in
    rw e (touched_by c.args.line.now c.args.rows.now c.args.touched.now.items c.in-Some.i c.index-rows-i.result c.requires.rows c.requires.touched
    (rw (c.deref.ensures.value, c.deref-2.ensures.value, ap (λ (l : Line). l.item) c.line.view_is, ap (λ (l : Line). l.lot) c.line.view_is) at c.in-Some.ensures) c.index-rows-i.is)

pub returns-in_default : goal.returns-in_default
returns-in_default c = touched_by_none c.args.line.now c.args.rows.now c.args.touched.now.items c.requires.touched (rw (c.deref.ensures.value, c.deref-2.ensures.value, ap (λ (l : Line). l.item) c.line.view_is, ap (λ (l : Line). l.lot) c.line.view_is) at c.in_default.ensures)
