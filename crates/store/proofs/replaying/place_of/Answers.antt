use Rattle.std.proofs.Common.{sym}
use Rattle.store.specs.Replayed.{is_under}
use Rattle.store.proofs.Entries.{find_next}
use Rattle.store.proofs.replaying.place_of.Goals as goal

pub loop-i-preserved : goal.loop-i-preserved
loop-i-preserved c = find_next (is_under c.args.who.now c.args.mark.now) c.args.entries.now c.loop-i.i c.index-entries-i.result c.loop-i-test.true c.index-entries-i.is c.loop-i.invariant (sym c.if-is_under.ensures)
