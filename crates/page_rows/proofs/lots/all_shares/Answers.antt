use Rattle.std.proofs.Common.{ap, ◌∙◌}
use Rattle.std.proofs.lemmas.List.{take_all}
use Rattle.page_rows.specs.Lots.{all_shares_in}
use Rattle.page_rows.proofs.lots.all_shares.Goals as goal

pub returns : goal.returns
returns c = c.loop-line.invariant ∙ ap (all_shares_in c.args.rules c.args.rows.now) (take_all c.loop-line.line-index c.args.lines.now c.loop-line-test.false)
