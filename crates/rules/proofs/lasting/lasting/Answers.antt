use Rattle.std.proofs.Common.{sym, subst, arith}
use Rattle.std.proofs.lemmas.Grind.{common_steps}
use Rattle.rules.specs.Lasting.{HasPairsOnce}
use Rattle.rules.proofs.Lasts.{lasting_once, one_more_kept}
use Rattle.rules.proofs.lasting.lasting.Goals as goal

pub loop-change-preserved : goal.loop-change-preserved
loop-change-preserved c =
    one_more_kept c.rows-rows.result.now c.args.changes.items c.loop-change.left.items c.pop.new.self.items c.loop-change.kept.items c.keep_if.new.kept.items c.in-Some.change
    c.lasts-lasts.result c.loop-change.marks.items c.lasts-lasts.new.marks.items c.loop-change.invariant c.in-Some.ensures.items c.lasts-lasts.ensures.lasts c.lasts-lasts.ensures.marks c.in_ok-keep_if.ensures

pub returns-clause-lasts : goal.returns-clause-lasts
returns-clause-lasts c = grind (arith, common_steps)

pub returns-clause-once : goal.returns-clause-once
returns-clause-once c = subst HasPairsOnce (sym (returns-clause-lasts c)) (lasting_once c.args.changes.items)
