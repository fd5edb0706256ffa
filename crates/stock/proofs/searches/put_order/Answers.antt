use Rattle.std.proofs.Common.{◌∙◌, ap}
use Rattle.std.proofs.lemmas.Result.{on_ok_weaker}
use Rattle.definitions.specs.Bytes.{comes_before}
use Rattle.definitions.specs.Page.{PageOrder}
use Rattle.page_rows.specs.Keyed.{number_of}
use Rattle.page_rows.specs.Pages.{is_number}
use Rattle.page_rows.proofs.KeyLemmas.{texts_strict, number_test}
use Rattle.stock.proofs.FoundByKey.{found_within, put_found}
use Rattle.stock.proofs.searches.put_order.Goals as goal

pub put_at-requires : goal.put_at-requires
put_at-requires c = found_within comes_before texts_strict number_of _ c.args.orders.now.items _ c.find_order-place.result (rw c.deref.ensures.value at c.find_order-place.ensures)

pub returns : goal.returns
returns c =
    let k = c.args.order.number in
    on_ok_weaker c.put_at.result
    (λ put. put ∙ put_found comes_before texts_strict number_of c.args.order c.args.orders.now.items (is_number k) (number_test k) c.requires c.find_order-place.result (rw (c.deref.ensures.value, c.deref-2.ensures.value, ap (λ (k : PageOrder). k.number) c.order.view_is) at c.find_order-place.ensures))
    c.put_at.ensures
