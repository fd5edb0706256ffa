use Rattle.set_effects.proofs.Loops.{group_room, group_small, groups_go_on, no_groups}
use Rattle.set_effects.proofs.taking.take_groups.Goals as goal

pub take_group-requires : goal.take_group-requires
take_group-requires c =
    (group_room c.args.interchange.now.delims c.args.interchange.now.groups c.groups-group-items.result.now c.loop-group.group-index c.group-item.result c.args.start c.loop-group.page
    c.groups-group-items.ensures c.loop-group-test.true c.group-item.is c.loop-group.invariant.recent c.requires.room).0

pub tell-requires-clause-small : goal.tell-requires-clause-small
tell-requires-clause-small c =
    group_small c.args.interchange.now.delims c.args.interchange.now.groups c.groups-group-items.result.now c.loop-group.group-index c.group-item.result
    c.groups-group-items.ensures c.loop-group-test.true c.group-item.is c.requires.small

pub tell-requires-clause-few : goal.tell-requires-clause-few
tell-requires-clause-few c =
    (group_room c.args.interchange.now.delims c.args.interchange.now.groups c.groups-group-items.result.now c.loop-group.group-index c.group-item.result c.args.start c.loop-group.page
    c.groups-group-items.ensures c.loop-group-test.true c.group-item.is c.loop-group.invariant.recent c.requires.room).1

pub loop-group-preserved : goal.loop-group-preserved
loop-group-preserved c =
    let d = c.args.interchange.now.delims in
    rw (c.in_ok-append.ensures.items, c.in_ok-tell.ensures)
    (groups_go_on c.args.rules d c.args.interchange.now.groups c.groups-group-items.result.now c.loop-group.group-index c.group-item.result
    c.args.start c.loop-group.page c.in_ok-taken.taken.page c.loop-group.changes.items c.in_ok-taken.taken.changes.items c.loop-group.told.items c.in_ok-taken.taken.told.items
    c.groups-group-items.ensures c.loop-group-test.true c.group-item.is c.loop-group.invariant c.in_ok-taken.ensures)

pub loop-group-init : goal.loop-group-init
loop-group-init c = rw (c.new-changes.ensures.items, c.new-told.ensures.items) (no_groups c.args.rules c.args.interchange.now.delims c.args.start)
