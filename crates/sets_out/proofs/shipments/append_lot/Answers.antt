use Rattle.std.proofs.Common.{[], ◌∷◌, subst}
use Rattle.std.specs.Prelude.{IfOk}
use Rattle.sets_out.specs.Appends.{Writes}
use Rattle.sets_out.specs.Documents.{PickedLot, shipped_lot}
use Rattle.sets_out.proofs.shipments.append_lot.Goals as goal

pub returns-clause-ok : goal.returns-clause-ok
returns-clause-ok c =
    let P : PickedLot → Type 0 = λ k. IfOk c.append_segment.result (λ n. Writes c.args.delims c.args.out.now.items c.append_segment.new.out.items (shipped_lot k ∷ []) n) in
    subst P c.lot.view_is (rw (c.as_bytes-quantity.ensures.value, c.format.ensures.text) at c.append_segment.ensures.ok)
