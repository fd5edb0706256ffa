use Rattle.std.proofs.Common.{◌≡◌, ◌∙◌, ◌∷◌, [], ◌++◌, ◌+◌, ◌≤◌, ℕ, List, map, arith, ap}
use Rattle.definitions.specs.Events.{quantity_of}
use Rattle.definitions.specs.Page.{PageOrder}
use Rattle.definitions.specs.Movements.{OnHand, Reservation, Shipped}
use Rattle.page_rows.specs.declared.documents.Function.TheVariants.{Shipment}
use Rattle.stock.specs.declared.steps.Change.{Change}
use Rattle.stock.specs.declared.steps.Change.TheVariants as change
use Rattle.page_rows.specs.Moved.{IsShipped}
use Rattle.page_rows.specs.Steps.{closed_order}
use Rattle.page_rows.specs.OfPairs.{of_pair, amount, changed_rows}
use Rattle.stock.specs.Touched.{IsTouched}
use Rattle.stock.proofs.Leads.{among_first, among_second, touched_less, touched_there}
use Rattle.page_rows.proofs.Pairs.{sheet_facts}
use Rattle.stock.proofs.Ships.{held_there, within_reserved, picked_sound}
use Rattle.stock.specs.Parts.{all_named}
use Rattle.stock.proofs.PartLemmas.{picked_whole, part_of_self, all_items}
use Rattle.stock.proofs.picks.changes.Goals as goal

pub ship-requires-clause-on_hand : goal.ship-requires-clause-on_hand
ship-requires-clause-on_hand c =
    let p = c.args.page.now in
    let k = c.args.order.now in
    let sheet = c.args.sheet.now in
    let t0 = c.in_ok-touched.touched.items in
    let reserved : c.order.inside.reserved.items ≡ k.reserved = ap (λ (k : PageOrder). k.reserved) c.order.view_is in
    let goods : c.in_ok-goods.goods.items ≡ sheet = c.in_ok-goods.ensures.lines in
    let lines : c.in_ok-lines.lines.items ≡ k.reserved ++ sheet = rw (c.deref.ensures.value, reserved, c.deref-2.ensures.value, goods) at c.in_ok-lines.ensures in
    let touched : IsTouched (k.reserved ++ sheet) p.rows t0 = rw (c.deref-3.ensures.value, lines, c.rows-rows.ensures.rows) at c.in_ok-touched.ensures in
    let enough : (a b : List ℕ) → quantity_of sheet a b ≤ of_pair (amount OnHand) a b p.rows = λ a b. omega (
      arith,
      within_reserved k.reserved sheet a b c.requires.covered ((sheet_facts sheet c.lines.ensures.sheet).once a b),
      held_there p k.number k c.rows-rows.ensures.sound c.requires.known c.requires.is_open a b,
      c.rows-rows.ensures.sound.covered a b,
    ) in
    rw (c.deref-5.ensures.value, goods) (touched_there sheet (k.reserved ++ sheet) p.rows t0 (among_second k.reserved sheet) touched (amount OnHand) enough)

pub ship-requires-clause-fits : goal.ship-requires-clause-fits
ship-requires-clause-fits c =
    let p = c.args.page.now in
    let k = c.args.order.now in
    let sheet = c.args.sheet.now in
    let t0 = c.in_ok-touched.touched.items in
    let reserved : c.order.inside.reserved.items ≡ k.reserved = ap (λ (k : PageOrder). k.reserved) c.order.view_is in
    let goods : c.in_ok-goods.goods.items ≡ sheet = c.in_ok-goods.ensures.lines in
    let lines : c.in_ok-lines.lines.items ≡ k.reserved ++ sheet = rw (c.deref.ensures.value, reserved, c.deref-2.ensures.value, goods) at c.in_ok-lines.ensures in
    let touched : IsTouched (k.reserved ++ sheet) p.rows t0 = rw (c.deref-3.ensures.value, lines, c.rows-rows.ensures.rows) at c.in_ok-touched.ensures in
    rw (c.deref-5.ensures.value, goods) (λ a b. omega (
      arith,
      touched_less (k.reserved ++ sheet) p.rows t0 touched (amount Shipped) a b,
      (sheet_facts sheet c.lines.ensures.sheet).little a b,
      c.rows-rows.ensures.sound.bounded Shipped a b,
      c.rows-rows.ensures.sound.numbered,
      c.rows-rows.ensures.sound.few,
    ))

pub ship-requires-clause-there : goal.ship-requires-clause-there
ship-requires-clause-there c =
    let p = c.args.page.now in
    let k = c.args.order.now in
    let sheet = c.args.sheet.now in
    let t0 = c.in_ok-touched.touched.items in
    let reserved : c.order.inside.reserved.items ≡ k.reserved = ap (λ (k : PageOrder). k.reserved) c.order.view_is in
    let goods : c.in_ok-goods.goods.items ≡ sheet = c.in_ok-goods.ensures.lines in
    let lines : c.in_ok-lines.lines.items ≡ k.reserved ++ sheet = rw (c.deref.ensures.value, reserved, c.deref-2.ensures.value, goods) at c.in_ok-lines.ensures in
    let touched : IsTouched (k.reserved ++ sheet) p.rows t0 = rw (c.deref-3.ensures.value, lines, c.rows-rows.ensures.rows) at c.in_ok-touched.ensures in
    rw (c.deref-4.ensures.value, reserved) (touched_there k.reserved (k.reserved ++ sheet) p.rows t0 (among_first k.reserved sheet) touched (amount Reservation)
    (held_there p k.number k c.rows-rows.ensures.sound c.requires.known c.requires.is_open))

pub returns-clause-made : goal.returns-clause-made
returns-clause-made c = λ n P part lines_named sheet_named.
    let p = c.args.page.now in
    let k = c.args.order.now in
    let sheet = c.args.sheet.now in
    let t0 = c.in_ok-touched.touched.items in
    let reserved : c.order.inside.reserved.items ≡ k.reserved = ap (λ (k : PageOrder). k.reserved) c.order.view_is in
    let goods : c.in_ok-goods.goods.items ≡ sheet = c.in_ok-goods.ensures.lines in
    let lines : c.in_ok-lines.lines.items ≡ k.reserved ++ sheet = rw (c.deref.ensures.value, reserved, c.deref-2.ensures.value, goods) at c.in_ok-lines.ensures in
    let touched : IsTouched (k.reserved ++ sheet) p.rows t0 = rw (c.deref-3.ensures.value, lines, c.rows-rows.ensures.rows) at c.in_ok-touched.ensures in
    let t1 = c.ship.new.rows.items in
    let moved : IsShipped k.reserved sheet t0 t1 = rw (c.deref-4.ensures.value, reserved, c.deref-5.ensures.value, goods) at c.ship.ensures in
    let changed : c.in_ok-changes.changes.items ≡ map change.Stock (changed_rows p.rows t1) = rw (c.rows-rows.ensures.rows, c.deref-6.ensures.value) at c.in_ok-changes.ensures in
    let pushed : c.push-2.new.self.items ≡ (map change.Stock (changed_rows p.rows t1) ++ change.Order (closed_order k) ∷ []) ++ change.Sent (p.entries + 1) Shipment ∷ [] =
    c.in_ok-push-2.ensures.items ∙ ap (λ (cs : List Change). cs ++ change.Sent c.next_number.result Shipment ∷ []) (c.in_ok-push.ensures.items ∙ (λ i. changed i ++ change.Order (c.in_ok-closed.ensures i) ∷ []))
    ∙ ap (λ (n : ℕ). (map change.Stock (changed_rows p.rows t1) ++ change.Order (closed_order k) ∷ []) ++ change.Sent n Shipment ∷ []) c.next_number.ensures in
    rw pushed (picked_whole n (p.entries + 1) k sheet p P t0 t1 part lines_named sheet_named touched moved).made

pub returns-clause-exact : goal.returns-clause-exact
returns-clause-exact c = λ n P part lines_named sheet_named.
    let p = c.args.page.now in
    let k = c.args.order.now in
    let sheet = c.args.sheet.now in
    let t0 = c.in_ok-touched.touched.items in
    let reserved : c.order.inside.reserved.items ≡ k.reserved = ap (λ (k : PageOrder). k.reserved) c.order.view_is in
    let goods : c.in_ok-goods.goods.items ≡ sheet = c.in_ok-goods.ensures.lines in
    let lines : c.in_ok-lines.lines.items ≡ k.reserved ++ sheet = rw (c.deref.ensures.value, reserved, c.deref-2.ensures.value, goods) at c.in_ok-lines.ensures in
    let touched : IsTouched (k.reserved ++ sheet) p.rows t0 = rw (c.deref-3.ensures.value, lines, c.rows-rows.ensures.rows) at c.in_ok-touched.ensures in
    let t1 = c.ship.new.rows.items in
    let moved : IsShipped k.reserved sheet t0 t1 = rw (c.deref-4.ensures.value, reserved, c.deref-5.ensures.value, goods) at c.ship.ensures in
    let changed : c.in_ok-changes.changes.items ≡ map change.Stock (changed_rows p.rows t1) = rw (c.rows-rows.ensures.rows, c.deref-6.ensures.value) at c.in_ok-changes.ensures in
    let pushed : c.push-2.new.self.items ≡ (map change.Stock (changed_rows p.rows t1) ++ change.Order (closed_order k) ∷ []) ++ change.Sent (p.entries + 1) Shipment ∷ [] =
    c.in_ok-push-2.ensures.items ∙ ap (λ (cs : List Change). cs ++ change.Sent c.next_number.result Shipment ∷ []) (c.in_ok-push.ensures.items ∙ (λ i. changed i ++ change.Order (c.in_ok-closed.ensures i) ∷ []))
    ∙ ap (λ (n : ℕ). (map change.Stock (changed_rows p.rows t1) ++ change.Order (closed_order k) ∷ []) ++ change.Sent n Shipment ∷ []) c.next_number.ensures in
    rw pushed (picked_whole n (p.entries + 1) k sheet p P t0 t1 part lines_named sheet_named touched moved).exact

pub returns-clause-sound : goal.returns-clause-sound
returns-clause-sound c = picked_sound (c.args.page.now.entries + 1) c.args.order.now c.args.sheet.now c.args.page.now _
    (returns-clause-made c all_named c.args.page.now (part_of_self all_named c.args.page.now c.rows-rows.ensures.sound.sorted) (all_items c.args.order.now.reserved) (all_items c.args.sheet.now)) c.requires.known c.requires.is_open
    (sheet_facts c.args.sheet.now c.lines.ensures.sheet) c.requires.covered c.requires.room c.rows-rows.ensures.sound
