use Rattle.std.proofs.Common.{◌≡◌, sym, ◌∙◌, ap}
use Rattle.definitions.specs.Rows.{LotRow}
use Rattle.stock.proofs.ChangeLaws.{absent_row, same_lookup}
use Rattle.stock.proofs.places.has_row.Goals as goal

pub returns-in-None : goal.returns-in-None
returns-in-None c =
    let item : c.deref.result.now ≡ c.args.row.now.item = c.deref.ensures.value ∙ ap (λ (r : LotRow). r.item) c.row.view_is in
    let lot : c.deref-2.result.now ≡ c.args.row.now.lot = c.deref-2.ensures.value ∙ ap (λ (r : LotRow). r.lot) c.row.view_is in
    sym (absent_row c.args.row.now c.args.rows.now (rw (item, lot) at c.in-None.ensures))

pub returns-in-Some : goal.returns-in-Some
returns-in-Some c =
    let item : c.deref.result.now ≡ c.args.row.now.item = c.deref.ensures.value ∙ ap (λ (r : LotRow). r.item) c.row.view_is in
    let lot : c.deref-2.result.now ≡ c.args.row.now.lot = c.deref-2.ensures.value ∙ ap (λ (r : LotRow). r.lot) c.row.view_is in
    c.is_same.ensures ∙ same_lookup c.args.row.now c.args.rows.now c.in-Some.i c.index-rows-i.result c.requires (rw (item, lot) at c.in-Some.ensures) c.index-rows-i.is
