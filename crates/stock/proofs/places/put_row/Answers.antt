use Rattle.std.proofs.Common.{◌≡◌, ◌∙◌, ap}
use Rattle.definitions.specs.Rows.{LotRow}
use Rattle.page_rows.proofs.KeyLemmas.{row_set, row_insert}
use Rattle.stock.proofs.places.put_row.Goals as goal

pub returns-in-Some : goal.returns-in-Some
returns-in-Some c =
    let item : c.deref-2.result.now ≡ c.args.row.item = c.deref-2.ensures.value ∙ ap (λ (r : LotRow). r.item) c.row.view_is in
    let lot : c.deref-3.result.now ≡ c.args.row.lot = c.deref-3.ensures.value ∙ ap (λ (r : LotRow). r.lot) c.row.view_is in
    row_set c.args.row c.args.rows.now.items c.in-Some.i c.requires (rw (c.deref.ensures.value, item, lot) at c.in-Some.ensures)

pub returns : goal.returns
returns c =
    let item : c.deref-2.result.now ≡ c.args.row.item = c.deref-2.ensures.value ∙ ap (λ (r : LotRow). r.item) c.row.view_is in
    let lot : c.deref-3.result.now ≡ c.args.row.lot = c.deref-3.ensures.value ∙ ap (λ (r : LotRow). r.lot) c.row.view_is in
    let item2 : c.deref-5.result.now ≡ c.args.row.item = c.deref-5.ensures.value ∙ ap (λ (r : LotRow). r.item) c.row.view_is in
    let lot2 : c.deref-6.result.now ≡ c.args.row.lot = c.deref-6.ensures.value ∙ ap (λ (r : LotRow). r.lot) c.row.view_is in
    c.in_ok-insert.ensures.items ∙ row_insert c.args.row c.args.rows.now.items c.rank_of-i.result c.requires (rw (c.deref-4.ensures.value, item2, lot2) at c.rank_of-i.ensures)
    (rw (c.deref.ensures.value, item, lot) at c.in_default.ensures)
