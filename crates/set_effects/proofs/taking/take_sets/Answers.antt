use Rattle.std.proofs.Common.{Some, arith}
use Rattle.set_effects.proofs.Takes.{none_taken}
use Rattle.set_effects.proofs.Loops.{fault_within, set_closed, sets_go_on, sets_all}
use Rattle.set_effects.proofs.taking.take_sets.Goals as goal

pub index-requires : goal.index-requires
index-requires c =
    omega (arith, fault_within c.args.group.now.group c.args.group.now.delims c.sets-set-items.result.now c.in_ok-faults.faults.items c.loop-i.i c.sets-set-items.ensures c.in_ok-faults.ensures c.loop-i-test.true, c.in_ok-faults.faults.ok)

pub take_set-requires-clause-closed : goal.take_set-requires-clause-closed
take_set-requires-clause-closed c =
    set_closed c.args.group.now.group c.args.group.now.delims c.sets-set-items.result.now c.in_ok-faults.faults.items c.loop-i.i c.set-item.result c.index.result.now
    c.sets-set-items.ensures c.in_ok-faults.ensures c.loop-i-test.true c.set-item.is c.index.ensures

pub loop-i-preserved : goal.loop-i-preserved
loop-i-preserved c = sets_go_on c.args.rules c.args.group.now.group c.args.group.now.delims (Some c.args.kind) c.sets-set-items.result.now c.in_ok-faults.faults.items c.loop-i.i c.set-item.result c.index.result.now
    c.args.start c.loop-i.page c.in_ok-taken.taken.page c.loop-i.changes.items c.in_ok-taken.taken.changes.items _ c.loop-i.told.items c.in_ok-taken.taken.told c.push.new.self.items
    c.sets-set-items.ensures c.in_ok-faults.ensures c.loop-i-test.true c.set-item.is c.index.ensures c.loop-i.invariant c.in_ok-taken.ensures c.in_ok-append.ensures.items c.in_ok-push.ensures.items

pub returns : goal.returns
returns c =
    sets_all c.args.rules c.args.group.now.group c.args.group.now.delims (Some c.args.kind) c.sets-set-items.result.now c.loop-i.i c.args.start c.loop-i.page c.loop-i.changes.items c.loop-i.told.items
    c.sets-set-items.ensures (omega (arith, c.loop-i-test.false)) c.loop-i.invariant

pub loop-i-init : goal.loop-i-init
loop-i-init c = rw (c.new-changes.ensures.items, c.new-told.ensures.items, c.start.view_is) (none_taken c.args.rules c.args.group.now.delims (Some c.args.kind) c.args.start)
