use Rattle.stock.proofs.Raises.{shipped_made, sheet_there}
use Rattle.stock.proofs.postings.ship.Goals as goal

pub returns : goal.returns
returns c = shipped_made _ _ _ _ _ _ c.take_lines.ensures c.raise_lines.ensures c.take_lines-2.ensures

pub raise_lines-requires-clause-there : goal.raise_lines-requires-clause-there
raise_lines-requires-clause-there c = sheet_there c.args.sheet.now c.args.rows.now.items c.take_lines.new.rows.items c.take_lines.ensures c.requires.on_hand
