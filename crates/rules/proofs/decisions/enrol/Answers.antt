use Rattle.std.proofs.Common.{sym, ◌∙◌}
use Rattle.rules.proofs.Leading.{nowhere_from, from_none}
use Rattle.rules.proofs.decisions.enrol.Goals as goal

pub returns-then-is_some-clause-leads : goal.returns-then-is_some-clause-leads
returns-then-is_some-clause-leads c = nowhere_from c.args.rules c.args.page _ c.args.moment _ tt

pub returns-clause-leads : goal.returns-clause-leads
returns-clause-leads c = from_none c.args.rules c.args.page _ c.args.moment _ (sym c.is_some.ensures ∙ c.if-is_some.false) c.new-2.ensures.items
