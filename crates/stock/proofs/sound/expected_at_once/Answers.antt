use Rattle.definitions.specs.Movements.{Expected}
use Rattle.definitions.specs.Page.{PageAdvice}
use Rattle.page_rows.specs.OfPairs.{amount}
use Rattle.stock.proofs.Lefts.{taken_once}
use Rattle.stock.proofs.sound.expected_at_once.Goals as goal

pub returns : goal.returns
returns c = taken_once (λ (k : PageAdvice). k.is_open) (λ k. k.lines) (amount Expected) c.args.rows.now c.args.advices.now c.in_ok-left.left.items _ _
    c.requires c.in_ok-left.ensures c.take_awaited.ensures
