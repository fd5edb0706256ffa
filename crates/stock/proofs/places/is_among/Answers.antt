use Rattle.std.proofs.Common.{sym, []}
use Rattle.page_rows.specs.OfPairs.{blank}
use Rattle.stock.proofs.Repeats.{none_among, one_among}
use Rattle.stock.proofs.places.is_among.Goals as goal

pub returns-in-None : goal.returns-in-None
returns-in-None c = λ lines are. sym (none_among c.args.item.now c.args.lot.now lines c.args.seen.now are c.in-None.ensures)

pub returns-in-Some : goal.returns-in-Some
returns-in-Some c = λ lines are. sym (one_among c.args.item.now c.args.lot.now lines c.args.seen.now _ are c.in-Some.ensures
    (blank (record { item = []; lot = []; quantity = 0 })))
