use Rattle.std.proofs.Common.{Some, ◌≡◌, ◌∙◌, ◌++◌, ◌∷◌, [], ◌+◌, List, ℕ, sym, ap}
use Rattle.std.proofs.lemmas.Slice.Eq.{bytes_eq-Decides}
use Rattle.definitions.specs.Events.{Counted}
use Rattle.page_rows.specs.declared.documents.Function.TheVariants.{Receipt}
use Rattle.stock.specs.declared.steps.Change.TheVariants.{Sent}
use Rattle.page_rows.specs.Pages.{advice_at, is_shipment}
use Rattle.stock.specs.Puts.{put}
use Rattle.stock.specs.Stops.{advice_changes}
use Rattle.page_rows.proofs.Finds.{found_says}
use Rattle.stock.proofs.Receives.{advice_known, received_shows, counted_unknown, counted_closed, counted_ok}
use Rattle.stock.proofs.receipts.receive.Goals as goal

pub returns-in_default-clause-err : goal.returns-in_default-clause-err
returns-in_default-clause-err c = λ n P es part is shows.
    counted_unknown P es (c.args.page.now.entries + 1) c.args.shipment.now c.args.sheet.now shows (sym (part.advices c.args.shipment.now is) ∙ c.in_default.ensures)

pub returns-then-not-is_open-clause-err : goal.returns-then-not-is_open-clause-err
returns-then-not-is_open-clause-err c = λ n P es part is shows.
    counted_closed P es (c.args.page.now.entries + 1) c.args.shipment.now c.in-Some.advice.now c.args.sheet.now shows (sym (part.advices c.args.shipment.now is) ∙ c.in-Some.ensures) (sym c.if-not-is_open.ensures)

pub changes-requires-clause-known : goal.changes-requires-clause-known
changes-requires-clause-known c =
    let k = c.in-Some.advice.now in
    let key : k.shipment ≡ c.args.shipment.now = (bytes_eq-Decides k.shipment c.args.shipment.now).0 (found_says (is_shipment c.args.shipment.now) c.args.page.now.advices k c.in-Some.ensures) in
    ap (λ (s : List ℕ). advice_at s c.args.page.now.advices) key ∙ c.in-Some.ensures

pub changes-requires-clause-is_open : goal.changes-requires-clause-is_open
changes-requires-clause-is_open c = sym c.if-not-is_open.ensures

pub returns-clause-ok : goal.returns-clause-ok
returns-clause-ok c = λ n P es part names shows.
    let m = c.args.page.now.entries + 1 in
    let k = c.in-Some.advice.now in
    let there : advice_at c.args.shipment.now P.advices ≡ Some k = sym (part.advices c.args.shipment.now names.shipment) ∙ c.in-Some.ensures in
    let a = advice_known P es c.args.shipment.now k shows there in (
      Counted m a.0 c.args.sheet.now,
      counted_ok es m c.args.shipment.now a.0 k c.args.sheet.now a.1 a.2 (sym c.if-not-is_open.ensures),
      received_shows m k a.0 c.args.sheet.now c.args.shipment.now P _ es (ap (λ (x : ℕ). x + 1) part.entries)
          (c.in_ok-changes.ensures.made n P part (names.lines k c.in-Some.ensures) names.sheet) there a.1 a.2 shows,
    )

pub returns-clause-changes : goal.returns-clause-changes
returns-clause-changes c = λ n P part names.
    let k = c.in-Some.advice.now in
    let p = c.args.page.now in
    let key : k.shipment ≡ c.args.shipment.now = (bytes_eq-Decides k.shipment c.args.shipment.now).0 (found_says (is_shipment c.args.shipment.now) p.advices k c.in-Some.ensures) in
    c.in_ok-changes.ensures.exact n P part (names.lines k c.in-Some.ensures) names.sheet
    ∙ ap (λ (s : List ℕ). advice_changes s P (put c.in_ok-changes.changes.items P) ++ Sent (p.entries + 1) Receipt ∷ []) key
