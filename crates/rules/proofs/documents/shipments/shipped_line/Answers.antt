use Rattle.std.proofs.Common.{◌≡◌, ap, sym, ◌∙◌, List, length, arith, map}
use Rattle.std.specs.Prelude.{bytes_eq, filter}
use Rattle.definitions.specs.Means.{Line}
use Rattle.definitions.specs.Events.{pair_before}
use Rattle.definitions.specs.Lists.{in_order}
use Rattle.definitions.specs.Page.{PageLine}
use Rattle.definitions.specs.Texts.{total_of}
use Rattle.rules.specs.Documents.{picked_lot}
use Rattle.stock.proofs.Halves.{ascending_filter}
use Rattle.rules.proofs.ItemLines.{filter_length}
use Rattle.rules.proofs.documents.shipments.shipped_line.Goals as goal

pub total-requires : goal.total-requires
total-requires c =
    let lots = ap (λ (ls : List Line). length ls) c.of_item-lots.ensures in
    omega (arith, lots, filter_length (λ (k : Line). bytes_eq k.item c.deref.result.now) c.args.sheet.now, c.requires.few)

pub returns : goal.returns
returns c =
    let sheet = c.args.sheet.now in
    let item = c.args.line.now.item in
    let same : c.deref.result.now ≡ item = c.deref.ensures.value ∙ ap (λ (l : PageLine). l.item) c.line.view_is in
    let lots : c.of_item-lots.result.now ≡ in_order pair_before (filter (λ k. bytes_eq k.item item) sheet) =
    c.of_item-lots.ensures ∙ (λ i. filter (λ k. bytes_eq k.item (same i)) sheet) ∙ sym (ascending_filter (λ k. bytes_eq k.item item) sheet c.requires.rises) in
    let total = c.total.ensures ∙ ap total_of lots in
    let picked = c.in_ok-picked.ensures ∙ ap (map picked_lot) lots in
    let other = c.deref-2.ensures.value ∙ ap (λ (l : PageLine). l.item) c.line.view_is in
    let ordered = c.from.ensures ∙ ap (λ (l : PageLine). l.quantity) c.line.view_is in
    (λ i. record { item = other i; ordered = ordered i; shipped = total i; lots = picked i })
