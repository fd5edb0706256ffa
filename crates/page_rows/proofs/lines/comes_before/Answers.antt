use Rattle.std.proofs.Common.{◌∙◌, ap, sym, is_lt}
use Rattle.sheets.proofs.PairLaws.{before_is}
use Rattle.page_rows.proofs.lines.comes_before.Goals as goal

pub returns : goal.returns
returns c = c.is_lt.ensures ∙ ap is_lt c.pairs_order.ensures ∙ sym (before_is c.args.line.now c.args.other.now)
