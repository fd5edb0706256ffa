use Rattle.std.proofs.Common.{ap}
use Rattle.definitions.specs.Need.{items_of}
use Rattle.definitions.specs.Page.{PageAdvice}
use Rattle.book_tables.proofs.Added.{more_added}
use Rattle.book_tables.proofs.needed.add_advised.Goals as goal

pub loop-advice-preserved : goal.loop-advice-preserved
loop-advice-preserved c =
    more_added (λ (k : PageAdvice). items_of k.lines) _ _ _ _ c.args.advices.now c.loop-advice.advice-index c.advice-item.result c.loop-advice-test.true c.advice-item.is
    c.in_ok-add_items.ensures (ap items_of c.lines.ensures) c.loop-advice.invariant
