use Rattle.std.proofs.Common.{arith, sym, ap, List, ◌∙◌}
use Rattle.definitions.specs.Means.{Line}
use Rattle.page_rows.proofs.Sums.{pair_next}
use Rattle.std.proofs.lemmas.List.{take_all}
use Rattle.definitions.specs.Events.{quantity_of}
use Rattle.page_rows.proofs.lines.sum_of.Goals as goal

pub overflow_add-quantity : goal.overflow_add-quantity
overflow_add-quantity c = omega (
  arith,
  c.requires,
  c.loop-line.invariant,
  c.from-quantity.ensures,
  ap (λ (l : Line). l.quantity) c.line.view_is,
  pair_next c.args.lines.now c.loop-line.line-index c.line-item.result c.args.item.now c.args.lot.now c.loop-line-test.true c.line-item.is (sym c.if-is_of.ensures),
)

pub returns : goal.returns
returns c =
    c.loop-line.invariant
    ∙ ap (λ (ls : List Line). quantity_of ls c.args.item.now c.args.lot.now) (take_all c.loop-line.line-index c.args.lines.now c.loop-line-test.false)
