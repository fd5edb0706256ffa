use Rattle.std.proofs.Common.{map, take, Some, ap, sym, ◌∙◌, subst}
use Rattle.std.specs.Prelude.{option_map}
use Rattle.definitions.specs.Means.{Line, AdviceLine}
use Rattle.definitions.specs.Events.{same_advice_pair}
use Rattle.page_rows.specs.Moved.{IsPlaced}
use Rattle.stock.proofs.Repeats.{advised_alike, stood_again, stood_more}
use Rattle.stock.proofs.faults.repeated_pair.Goals as goal

pub returns-then-is_among-clause-first : goal.returns-then-is_among-clause-first
returns-then-is_among-clause-first c =
    let line = λ (l : AdviceLine). l.line in
    let before = map line (take c.loop-line.line-index c.args.lines.now) in
    let said = rw (c.deref-in-loop-line.ensures.value, c.deref-in-loop-line-2.ensures.value, ap (λ (l : Line). l.item) c.goods.view_is, ap (λ (l : Line). l.lot) c.goods.view_is, ap (λ (l : AdviceLine). l.line.item) c.line.view_is, ap (λ (l : AdviceLine). l.line.lot) c.line.view_is) at
    (c.is_among.ensures before (rw c.deref.ensures.value c.loop-line.invariant.are)) in
    let again = stood_again same_advice_pair line c.args.lines.now c.loop-line.line-index c.line-item.result c.loop-line.seen.items
    advised_alike c.loop-line-test.true c.line-item.is c.loop-line.invariant (sym said ∙ c.if-is_among.true) in
    ap (λ (l : AdviceLine). Some l.position) c.line.view_is ∙ sym (ap (option_map (λ (l : AdviceLine). l.position)) again)

pub loop-line-preserved : goal.loop-line-preserved
loop-line-preserved c =
    let line = λ (l : AdviceLine). l.line in
    let before = map line (take c.loop-line.line-index c.args.lines.now) in
    let said = rw (c.deref-in-loop-line.ensures.value, c.deref-in-loop-line-2.ensures.value, ap (λ (l : Line). l.item) c.goods.view_is, ap (λ (l : Line). l.lot) c.goods.view_is, ap (λ (l : AdviceLine). l.line.item) c.line.view_is, ap (λ (l : AdviceLine). l.line.lot) c.line.view_is) at
    (c.is_among.ensures before (rw c.deref.ensures.value c.loop-line.invariant.are)) in
    let placed = subst (λ (x : Line). IsPlaced c.loop-line.seen.items c.placed.new.rows.items x c.in_ok-placed.field-0)
    (ap line c.line.view_is) c.in_ok-placed.ensures in
    stood_more same_advice_pair line c.args.lines.now c.loop-line.line-index c.line-item.result c.loop-line.seen.items
    c.placed.new.rows.items c.in_ok-placed.field-0 advised_alike c.loop-line-test.true c.line-item.is c.loop-line.invariant
    (sym said ∙ c.if-is_among.false) placed

pub is_among-requires : goal.is_among-requires
is_among-requires c = rw c.deref.ensures.value c.loop-line.invariant.sorted

pub placed-requires : goal.placed-requires
placed-requires c = c.loop-line.invariant.sorted
