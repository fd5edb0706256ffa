use Rattle.std.proofs.Common.{Some, ℕ, ◌≡◌, ◌∙◌, ◌++◌, ◌∷◌, [], ◌+◌, List, ℕ, sym, ap, true, false}
use Rattle.std.proofs.lemmas.Slice.Eq.{bytes_eq-Decides}
use Rattle.std.specs.List.{list_any}
use Rattle.definitions.specs.Events.{Picked}
use Rattle.definitions.specs.Page.{PageOrder}
use Rattle.page_rows.specs.declared.documents.Function.TheVariants.{Shipment}
use Rattle.stock.specs.declared.steps.Change.TheVariants.{Sent}
use Rattle.page_rows.specs.Pages.{order_at, is_number}
use Rattle.stock.specs.Puts.{put}
use Rattle.page_rows.specs.Steps.{exceeds}
use Rattle.stock.specs.Stops.{order_changes}
use Rattle.page_rows.proofs.Finds.{found_says}
use Rattle.stock.proofs.Ships.{held_fits, order_known, picked_shows, picked_unknown, picked_closed, picked_excess, picked_ok}
use Rattle.stock.proofs.picks.pick.Goals as goal

pub returns-in_default-clause-err : goal.returns-in_default-clause-err
returns-in_default-clause-err c = λ n P es part is shows.
    picked_unknown P es (c.args.page.now.entries + 1) c.args.number.now c.args.sheet.now shows (sym (part.orders c.args.number.now is) ∙ c.in_default.ensures)

pub returns-then-not-order-clause-err : goal.returns-then-not-order-clause-err
returns-then-not-order-clause-err c = λ n P es part is shows.
    picked_closed P es (c.args.page.now.entries + 1) c.args.number.now c.in-Some.order.now c.args.sheet.now shows (sym (part.orders c.args.number.now is) ∙ c.in-Some.ensures) (ap (λ (k : PageOrder). k.is_open) (sym c.order-2.view_is) ∙ c.if-not-order.true)

pub exceeds-requires : goal.exceeds-requires
exceeds-requires c = rw (c.deref.ensures.value, ap (λ (k : PageOrder). k.reserved) c.order-2.view_is) (held_fits c.args.page.now c.args.number.now c.in-Some.order.now c.rows.ensures.sound c.in-Some.ensures (ap (λ (k : PageOrder). k.is_open) (sym c.order-2.view_is) ∙ c.if-not-order.false))

pub returns-then-exceeds-clause-err : goal.returns-then-exceeds-clause-err
returns-then-exceeds-clause-err c = λ n P es part is shows.
    let k = c.in-Some.order.now in
    let over : list_any (exceeds k.reserved) c.args.sheet.now ≡ true = rw (c.deref.ensures.value, ap (λ (k : PageOrder). k.reserved) c.order-2.view_is, c.deref-2.ensures.value, c.in_ok-goods.ensures.lines) at (sym c.if-exceeds.ensures) in
    picked_excess P es (c.args.page.now.entries + 1) c.args.number.now k c.args.sheet.now shows (sym (part.orders c.args.number.now is) ∙ c.in-Some.ensures) (ap (λ (k : PageOrder). k.is_open) (sym c.order-2.view_is) ∙ c.if-not-order.false) over

pub changes-requires-clause-known : goal.changes-requires-clause-known
changes-requires-clause-known c =
    let k = c.in-Some.order.now in
    let key : k.number ≡ c.args.number.now = (bytes_eq-Decides k.number c.args.number.now).0 (found_says (is_number c.args.number.now) c.args.page.now.orders k c.in-Some.ensures) in
    ap (λ (s : List ℕ). order_at s c.args.page.now.orders) key ∙ c.in-Some.ensures

pub changes-requires-clause-is_open : goal.changes-requires-clause-is_open
changes-requires-clause-is_open c = ap (λ (k : PageOrder). k.is_open) (sym c.order-2.view_is) ∙ c.if-not-order.false

pub changes-requires-clause-covered : goal.changes-requires-clause-covered
changes-requires-clause-covered c = rw (c.deref.ensures.value, ap (λ (k : PageOrder). k.reserved) c.order-2.view_is, c.deref-2.ensures.value, c.in_ok-goods.ensures.lines) at (sym c.if-exceeds.ensures)

pub returns-clause-ok : goal.returns-clause-ok
returns-clause-ok c = λ n P es part names shows.
    let m = c.args.page.now.entries + 1 in
    let k = c.in-Some.order.now in
    let covers : list_any (exceeds k.reserved) c.args.sheet.now ≡ false = rw (c.deref.ensures.value, ap (λ (k : PageOrder). k.reserved) c.order-2.view_is, c.deref-2.ensures.value, c.in_ok-goods.ensures.lines) at (sym c.if-exceeds.ensures) in
    let there : order_at c.args.number.now P.orders ≡ Some k = sym (part.orders c.args.number.now names.number) ∙ c.in-Some.ensures in
    let r = order_known P es c.args.number.now k shows there in (
      Picked m r.0.order r.0.shares c.args.sheet.now,
      picked_ok P es m c.args.number.now r.0 k c.args.sheet.now shows r.1 r.2 (ap (λ (k : PageOrder). k.is_open) (sym c.order-2.view_is) ∙ c.if-not-order.false) covers,
      picked_shows m k r.0 c.args.sheet.now c.args.number.now P _ es (ap (λ (x : ℕ). x + 1) part.entries)
          (c.in_ok-changes.ensures.made n P part (names.reserved k c.in-Some.ensures) names.sheet) there r.1 r.2 (ap (λ (k : PageOrder). k.is_open) (sym c.order-2.view_is) ∙ c.if-not-order.false) shows,
    )

pub returns-clause-changes : goal.returns-clause-changes
returns-clause-changes c = λ n P part names.
    let k = c.in-Some.order.now in
    let p = c.args.page.now in
    let key : k.number ≡ c.args.number.now = (bytes_eq-Decides k.number c.args.number.now).0 (found_says (is_number c.args.number.now) p.orders k c.in-Some.ensures) in
    c.in_ok-changes.ensures.exact n P part (names.reserved k c.in-Some.ensures) names.sheet
    ∙ ap (λ (s : List ℕ). order_changes s P (put c.in_ok-changes.changes.items P) ++ Sent (p.entries + 1) Shipment ∷ []) key
