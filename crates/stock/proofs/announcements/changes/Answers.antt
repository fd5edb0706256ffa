use Rattle.std.proofs.Common.{◌≡◌, refl, ◌∙◌, ◌∷◌, [], ◌++◌, map, arith, ap, List, length}
use Rattle.std.proofs.lemmas.List.{length-map}
use Rattle.definitions.specs.Means.{AdviceLine, Line, advised}
use Rattle.definitions.specs.Movements.{Expected}
use Rattle.stock.specs.declared.steps.Change.TheVariants as change
use Rattle.page_rows.specs.Moved.{IsAdded, IsDated, IsAdvised}
use Rattle.page_rows.specs.Steps.{opened, IsAnnounced}
use Rattle.page_rows.specs.OfPairs.{amount, named_by, changed_rows}
use Rattle.stock.specs.Touched.{IsTouched}
use Rattle.stock.proofs.Announces.{advised_fits, announced_sound}
use Rattle.stock.proofs.Dated.{advised_made}
use Rattle.stock.proofs.Leads.{touched_less}
use Rattle.stock.specs.Parts.{all_named, Named, IsPart, NamesAdvice}
use Rattle.stock.proofs.PartLemmas.{announced_whole, part_of_self, all_items}
use Rattle.page_rows.specs.Pages.{PageFacts}
use Rattle.stock.specs.Puts.{put}
use Rattle.stock.specs.Stops.{advice_changes}
use Rattle.stock.proofs.announcements.changes.Goals as goal
use Rattle.stock.proofs.announcements.changes.Goals.{After-drop-touched-2}

pub add_lines-requires-clause-fits : goal.add_lines-requires-clause-fits
add_lines-requires-clause-fits c =
    let p = c.args.page.now in
    let a = c.args.advice.now in
    let lines : c.deref.result.now ≡ advised a = cc (c.in_ok-lines.ensures, c.deref.ensures.value, c.lines-set_lines.ensures.lines) in
    let lines2 : c.deref-2.result.now ≡ advised a = cc (c.in_ok-lines.ensures, c.deref-2.ensures.value, c.lines-set_lines.ensures.lines) in
    let touched : IsTouched (advised a) p.rows c.in_ok-touched.touched.items = rw (lines, c.rows-rows.ensures.rows) at c.in_ok-touched.ensures in
    rw lines2 (λ x y. omega (arith, touched_less (advised a) p.rows c.in_ok-touched.touched.items touched (amount Expected) x y, advised_fits a p c.lines-set_lines.ensures.few c.rows-rows.ensures.sound x y))

pub date_lines-requires-clause-there : goal.date_lines-requires-clause-there
date_lines-requires-clause-there c =
    let same : c.deref-2.result.now ≡ map (λ l. l.line) c.lines-set_lines.result.now = c.deref-2.ensures.value ∙ c.in_ok-lines.ensures in
    λ x y. omega (arith, c.in_ok-add_lines.ensures.named x y, ap (λ (ls : List Line). named_by ls x y) same)

pub opened-requires-clause-few : goal.opened-requires-clause-few
opened-requires-clause-few c = omega (arith, c.lines-set_lines.ensures.few.few, ap (λ (ls : List Line). length ls) c.in_ok-lines.ensures, ap (λ (ls : List AdviceLine). length ls) c.lines-set_lines.ensures.lines, length-map c.lines-set_lines.result.now (λ (l : AdviceLine). l.line))

-- what becomes of the page, and what is listed
whole : (c : After-drop-touched-2) (n : Named) (P : PageFacts) → IsPart n c.args.page.now P → NamesAdvice n c.args.advice.now
    → IsAnnounced c.args.advice.now P (put c.push.new.self.items P) × (c.push.new.self.items ≡ advice_changes c.args.advice.now.shipment P (put c.push.new.self.items P))
whole c n P part names =
    let p = c.args.page.now in
    let a = c.args.advice.now in
    let t0 = c.in_ok-touched.touched.items in
    let t1 = c.date_lines.new.rows.items in
    let lines : c.deref.result.now ≡ advised a = cc (c.in_ok-lines.ensures, c.deref.ensures.value, c.lines-set_lines.ensures.lines) in
    let lines2 : c.deref-2.result.now ≡ advised a = cc (c.in_ok-lines.ensures, c.deref-2.ensures.value, c.lines-set_lines.ensures.lines) in
    let touched : IsTouched (advised a) p.rows t0 = rw (lines, c.rows-rows.ensures.rows) at c.in_ok-touched.ensures in
    let added : IsAdded Expected (advised a) t0 c.add_lines.new.rows.items = rw lines2 at c.in_ok-add_lines.ensures in
    let dating : IsDated a.lines c.add_lines.new.rows.items t1 = rw c.lines-set_lines.ensures.lines at c.in_ok-date_lines.ensures in
    let moved : IsAdvised a.lines t0 t1 = advised_made a.lines t0 c.add_lines.new.rows.items t1 added dating in
    let changed : c.in_ok-changes.changes.items ≡ map change.Stock (changed_rows p.rows t1) = rw (c.rows-rows.ensures.rows, c.deref-3.ensures.value) at c.in_ok-changes.ensures in
    let pushed : c.push.new.self.items ≡ map change.Stock (changed_rows p.rows t1) ++ change.Advice (opened a) ∷ [] =
    c.in_ok-push.ensures.items ∙ (λ i. changed i ++ change.Advice (c.in_ok-opened.ensures i) ∷ []) in
    let moves = announced_whole n a p P t0 t1 part names touched moved in
    rw pushed (moves.made, moves.exact)

pub returns-clause-made : goal.returns-clause-made
returns-clause-made c = λ n P part names. (whole c n P part names).0

pub returns-clause-exact : goal.returns-clause-exact
returns-clause-exact c = λ n P part names. (whole c n P part names).1

pub returns-clause-sound : goal.returns-clause-sound
returns-clause-sound c =
    announced_sound c.args.advice.now c.args.page.now _
    (returns-clause-made c all_named c.args.page.now (part_of_self all_named c.args.page.now c.rows-rows.ensures.sound.sorted) (record { shipment = refl; items = all_items (advised c.args.advice.now) }))
    c.lines-set_lines.ensures.few c.requires.unknown c.requires.room c.rows-rows.ensures.sound

pub touched-requires : goal.touched-requires
touched-requires c = rw c.rows-rows.ensures.rows c.rows-rows.ensures.sound.sorted.rows

pub add_lines-requires-clause-sorted : goal.add_lines-requires-clause-sorted
add_lines-requires-clause-sorted c = c.in_ok-touched.ensures.sorted

pub date_lines-requires-clause-sorted : goal.date_lines-requires-clause-sorted
date_lines-requires-clause-sorted c = c.in_ok-add_lines.ensures.sorted

pub row_changes-requires : goal.row_changes-requires
row_changes-requires c = rw c.rows-rows.ensures.rows c.rows-rows.ensures.sound.sorted.rows
