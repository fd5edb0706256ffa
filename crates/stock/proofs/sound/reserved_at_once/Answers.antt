use Rattle.definitions.specs.Movements.{Reservation}
use Rattle.definitions.specs.Page.{PageOrder}
use Rattle.page_rows.specs.OfPairs.{amount}
use Rattle.stock.proofs.Lefts.{taken_once}
use Rattle.stock.proofs.sound.reserved_at_once.Goals as goal

pub returns : goal.returns
returns c = taken_once (λ (k : PageOrder). k.is_open) (λ k. k.reserved) (amount Reservation) c.args.rows.now c.args.orders.now c.in_ok-left.left.items _ _
    c.requires c.in_ok-left.ensures c.take_held.ensures
