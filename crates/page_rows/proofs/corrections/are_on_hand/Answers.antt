use Rattle.std.proofs.Common.{ap, sym, ◌∙◌}
use Rattle.std.specs.List.{list_all}
use Rattle.std.proofs.lemmas.List.{take_all}
use Rattle.page_rows.specs.Steps.{is_on_hand}
use Rattle.page_rows.proofs.corrections.are_on_hand.Goals as goal

pub returns : goal.returns
returns c = sym (ap (list_all (is_on_hand c.args.rows.now)) (sym (take_all c.loop-line.line-index c.args.lines.now c.loop-line-test.false)) ∙ c.loop-line.invariant)
