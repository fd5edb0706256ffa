use Rattle.std.proofs.Common.{◌∙◌}
use Rattle.envelope.proofs.Holding.{held}
use Rattle.envelope.proofs.making.make_group.Goals as goal

pub new-requires : goal.new-requires
new-requires c = (held c.args.delims c.args.head.now c.again.result c.args.others.now c.before-2.result.now c.in_ok-sets.sets.items c.again_if-tail.result c.requires.same
    c.before-2.ensures.elements c.in_ok-sets.ensures c.again.ensures (c.again_if-tail.ensures ∙ c.first_with.ensures)).0

pub returns : goal.returns
returns c = c.new.ensures ∙ (held c.args.delims c.args.head.now c.again.result c.args.others.now c.before-2.result.now c.in_ok-sets.sets.items c.again_if-tail.result c.requires.same
    c.before-2.ensures.elements c.in_ok-sets.ensures c.again.ensures (c.again_if-tail.ensures ∙ c.first_with.ensures)).1
