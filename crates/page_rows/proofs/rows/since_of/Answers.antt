use Rattle.std.proofs.Common.{sym, ◌∙◌}
use Rattle.page_rows.specs.OfPairs.{since}
use Rattle.page_rows.proofs.OfPairLemmas.{of_pair_absent, amount_here}
use Rattle.page_rows.proofs.rows.since_of.Goals as goal

pub returns-in-None : goal.returns-in-None
returns-in-None c = sym (of_pair_absent since c.args.item.now c.args.lot.now c.args.rows.now c.in-None.ensures)

pub returns-in-Some : goal.returns-in-Some
returns-in-Some c = c.since.ensures ∙ amount_here since c.args.item.now c.args.lot.now c.args.rows.now c.in-Some.i c.index-rows-i.result c.requires c.in-Some.ensures c.index-rows-i.is
