use Rattle.std.proofs.Common.{List, true, refl, ◌≡◌, ◌∙◌, ◌∷◌, [], ◌++◌, map, arith, sym, subst}
use Rattle.definitions.specs.Movements.{Reservation}
use Rattle.definitions.specs.Page.{reserved_lines}
use Rattle.stock.specs.declared.steps.Change.TheVariants as change
use Rattle.page_rows.specs.Moved.{IsAdded}
use Rattle.page_rows.specs.Steps.{opened_order, IsReserved}
use Rattle.page_rows.specs.OfPairs.{amount, changed_rows}
use Rattle.stock.specs.Touched.{IsTouched}
use Rattle.stock.proofs.Allots.{IsAllotted, allotted}
use Rattle.stock.proofs.Leads.{touched_less}
use Rattle.stock.proofs.Reserves.{reserved_fits, reserved_sound}
use Rattle.definitions.specs.Means.{Line}
use Rattle.stock.specs.Parts.{all_named, are_items, Named, IsPart, NamesOrder}
use Rattle.stock.proofs.PartLemmas.{reserved_whole, part_of_self, all_ordered}
use Rattle.stock.proofs.PartShares.{opened_in_lines, reserved_items}
use Rattle.page_rows.specs.Pages.{is_in_lines, PageFacts}
use Rattle.stock.specs.Puts.{put}
use Rattle.stock.specs.Stops.{order_changes}
use Rattle.stock.proofs.reservations.changes.Goals as goal
use Rattle.stock.proofs.reservations.changes.Goals.{After-drop-touched-2}

pub add_lines-requires-clause-fits : goal.add_lines-requires-clause-fits
add_lines-requires-clause-fits c =
    let p = c.args.page.now in
    let o = c.args.order.now in
    let shares = c.args.shares.now in
    let t0 = c.in_ok-touched.touched.items in
    let lines : c.deref.result.now ≡ reserved_lines shares = cc (c.in_ok-lines.ensures, c.deref.ensures.value) in
    let lines2 : c.deref-2.result.now ≡ reserved_lines shares = cc (c.in_ok-lines.ensures, c.deref-2.ensures.value) in
    let touched : IsTouched (reserved_lines shares) p.rows t0 = rw (lines, c.rows-rows.ensures.rows) at c.in_ok-touched.ensures in
    let facts : IsAllotted p.rows shares = subst (IsAllotted p.rows) (sym c.requires.allotted.1) (allotted c.requires.allotted.0 p.rows o.lines c.rows-rows.ensures.sound.distinct c.requires.once) in
    rw lines2 (λ x y. omega (arith, touched_less (reserved_lines shares) p.rows t0 touched (amount Reservation) x y, reserved_fits p shares facts c.rows-rows.ensures.sound x y))

-- what becomes of the page, and what is listed
whole : (c : After-drop-touched-2) (n : Named) (P : PageFacts) → IsPart n c.args.page.now P → NamesOrder n c.args.order.now
    → IsReserved c.args.order.now c.args.shares.now P (put c.push.new.self.items P) × (c.push.new.self.items ≡ order_changes c.args.order.now.number P (put c.push.new.self.items P))
whole c n P part names =
    let p = c.args.page.now in
    let o = c.args.order.now in
    let shares = c.args.shares.now in
    let t0 = c.in_ok-touched.touched.items in
    let lines : c.deref.result.now ≡ reserved_lines shares = cc (c.in_ok-lines.ensures, c.deref.ensures.value) in
    let lines2 : c.deref-2.result.now ≡ reserved_lines shares = cc (c.in_ok-lines.ensures, c.deref-2.ensures.value) in
    let touched : IsTouched (reserved_lines shares) p.rows t0 = rw (lines, c.rows-rows.ensures.rows) at c.in_ok-touched.ensures in
    let t1 = c.add_lines.new.rows.items in
    let moved : IsAdded Reservation (reserved_lines shares) t0 t1 = rw lines2 at c.in_ok-add_lines.ensures in
    let changed : c.in_ok-changes.changes.items ≡ map change.Stock (changed_rows p.rows t1) = rw (c.rows-rows.ensures.rows, c.deref-3.ensures.value) at c.in_ok-changes.ensures in
    let items : are_items n (reserved_lines shares) ≡ true = subst (λ (ls : List Line). are_items n (reserved_lines ls) ≡ true) (sym c.requires.allotted.1) (reserved_items c.requires.allotted.0 n p o.lines names.items) in
    let pushed : c.push.new.self.items ≡ map change.Stock (changed_rows p.rows t1) ++ change.Order (opened_order o shares) ∷ [] =
    c.in_ok-push.ensures.items ∙ (λ i. changed i ++ change.Order (c.in_ok-opened.ensures i) ∷ []) in
    let moves = reserved_whole n o shares p P t0 t1 part items touched moved in
    rw pushed (moves.made, moves.exact)

pub returns-clause-made : goal.returns-clause-made
returns-clause-made c = λ n P part names. (whole c n P part names).0

pub returns-clause-exact : goal.returns-clause-exact
returns-clause-exact c = λ n P part names. (whole c n P part names).1

pub returns-clause-sound : goal.returns-clause-sound
returns-clause-sound c =
    let p = c.args.page.now in
    let facts : IsAllotted p.rows c.args.shares.now = subst (IsAllotted p.rows) (sym c.requires.allotted.1) (allotted c.requires.allotted.0 p.rows c.args.order.now.lines c.rows-rows.ensures.sound.distinct c.requires.once) in
    let lies = subst (λ (ls : List Line). is_in_lines (opened_order c.args.order.now ls) ≡ true) (sym c.requires.allotted.1) (opened_in_lines c.requires.allotted.0 c.args.order.now p) in
    reserved_sound c.args.order.now c.args.shares.now p _
    (returns-clause-made c all_named p (part_of_self all_named p c.rows-rows.ensures.sound.sorted) (record { number = refl; items = all_ordered c.args.order.now.lines })) facts lies c.requires.unknown c.requires.room c.rows-rows.ensures.sound

pub touched-requires : goal.touched-requires
touched-requires c = rw c.rows-rows.ensures.rows c.rows-rows.ensures.sound.sorted.rows

pub add_lines-requires-clause-sorted : goal.add_lines-requires-clause-sorted
add_lines-requires-clause-sorted c = c.in_ok-touched.ensures.sorted

pub row_changes-requires : goal.row_changes-requires
row_changes-requires c = rw c.rows-rows.ensures.rows c.rows-rows.ensures.sound.sorted.rows
