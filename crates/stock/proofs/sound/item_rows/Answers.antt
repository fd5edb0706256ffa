use Rattle.std.proofs.Common.{◌≡◌, ◌∙◌, [], ap, subst}
use Rattle.definitions.specs.Means.{Line}
use Rattle.definitions.specs.Page.{PageLine}
use Rattle.page_rows.specs.Moved.{IsPlaced}
use Rattle.page_rows.specs.Soundness.{item_alone}
use Rattle.stock.proofs.Repeats.{rows_more}
use Rattle.stock.proofs.sound.item_rows.Goals as goal

pub loop-line-preserved : goal.loop-line-preserved
loop-line-preserved c =
    let item : c.deref.result.now ≡ c.line-item.result.item = c.deref.ensures.value ∙ ap (λ (l : PageLine). l.item) c.line.view_is in
    let line : c.in_ok-new_line.field-0 ≡ item_alone c.line-item.result = c.in_ok-new_line.ensures ∙ (λ i. record { item = item i; lot = []; quantity = 0 }) in
    let placed : IsPlaced c.loop-line.rows.items c.placed-in-loop-line.new.rows.items (item_alone c.line-item.result) c.in_ok-placed.field-0 =
    subst (λ (l : Line). IsPlaced c.loop-line.rows.items c.placed-in-loop-line.new.rows.items l c.in_ok-placed.field-0) line c.in_ok-placed.ensures in
    record {
      sorted = placed.sorted;
      are = rows_more item_alone c.args.lines.now c.loop-line.line-index c.line-item.result c.loop-line.rows.items c.placed-in-loop-line.new.rows.items c.in_ok-placed.field-0
          c.loop-line-test.true c.line-item.is c.loop-line.invariant.are placed;
    }
