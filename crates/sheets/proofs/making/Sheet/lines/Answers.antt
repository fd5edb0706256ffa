use Rattle.sheets.proofs.SheetLaws.{fits}
use Rattle.sheets.proofs.making.Sheet.lines.Goals as goal

pub typed-requires : goal.typed-requires
typed-requires c =
    let all = fits c.self.inside.lines.items c.self.invariant in
    rw (c.line-item.is, c.deref-line-items.ensures.value) (all c.loop-line.line-index c.line-item.result (rw c.deref-line-items.ensures.value at c.loop-line-test.true))
