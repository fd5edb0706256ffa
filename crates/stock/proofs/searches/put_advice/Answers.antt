use Rattle.std.proofs.Common.{◌∙◌}
use Rattle.std.proofs.lemmas.Result.{on_ok_weaker}
use Rattle.definitions.specs.Bytes.{comes_before}
use Rattle.page_rows.specs.Keyed.{shipment_of}
use Rattle.page_rows.specs.Pages.{is_shipment}
use Rattle.page_rows.proofs.KeyLemmas.{texts_strict, shipment_test}
use Rattle.stock.proofs.FoundByKey.{found_within, put_found}
use Rattle.stock.proofs.searches.put_advice.Goals as goal

pub put_at-requires : goal.put_at-requires
put_at-requires c = found_within comes_before texts_strict shipment_of _ c.args.advices.now.items _ c.find_advice-place.result (rw c.deref.ensures.value at c.find_advice-place.ensures)

pub returns : goal.returns
returns c =
    let k = c.args.advice.shipment in
    on_ok_weaker c.put_at.result
    (λ put. put ∙ put_found comes_before texts_strict shipment_of c.args.advice c.args.advices.now.items (is_shipment k) (shipment_test k) c.requires c.find_advice-place.result (rw (c.deref.ensures.value, c.shipment.ensures) at c.find_advice-place.ensures))
    c.put_at.ensures
