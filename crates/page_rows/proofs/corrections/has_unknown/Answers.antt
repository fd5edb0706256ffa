use Rattle.std.proofs.Common.{ap, sym, ◌∙◌}
use Rattle.std.specs.List.{list_any}
use Rattle.std.proofs.lemmas.List.{take_all}
use Rattle.page_rows.specs.Steps.{is_unknown}
use Rattle.page_rows.proofs.corrections.has_unknown.Goals as goal

pub returns : goal.returns
returns c = sym (ap (list_any (is_unknown c.args.rows.now)) (sym (take_all c.loop-line.line-index c.args.lines.now c.loop-line-test.false)) ∙ c.loop-line.invariant)
