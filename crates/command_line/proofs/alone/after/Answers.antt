use Rattle.std.proofs.Common.{codes}
use Rattle.command_line.specs.Lines as meant
use Rattle.command_line.specs.declared.words.Place.TheVariants.{Script}
use Rattle.command_line.proofs.AloneLaws as law
use Rattle.command_line.proofs.alone.after.Goals as goal

pub returns-in-init : goal.returns-in-init
returns-in-init c = λ rest. law.named c.alone.result meant.init_shape (codes "init") c.args.name.now rest c.in-init.is (c.alone.ensures _ c.init.ensures) (law.init_alone rest)

pub returns-in-enrol : goal.returns-in-enrol
returns-in-enrol c = λ rest. law.named c.alone-in-enrol.result meant.enrol_shape (codes "enrol") c.args.name.now rest c.in-enrol.is (c.alone-in-enrol.ensures _ c.enrol.ensures) (law.enrol_alone rest)

pub returns-in-roster : goal.returns-in-roster
returns-in-roster c = λ rest. law.named c.alone-in-roster.result meant.roster_shape (codes "roster") c.args.name.now rest c.in-roster.is (c.alone-in-roster.ensures _ c.roster.ensures) (law.roster_alone rest)

pub returns-in-send : goal.returns-in-send
returns-in-send c = λ rest. law.named c.alone-in-send.result meant.send_shape (codes "send") c.args.name.now rest c.in-send.is (c.alone-in-send.ensures _ c.send.ensures) (law.send_alone rest)

pub returns-in-take : goal.returns-in-take
returns-in-take c = λ rest. law.named c.alone-in-take.result meant.take_shape (codes "take") c.args.name.now rest c.in-take.is (c.alone-in-take.ensures _ c.take.ensures) (law.take_alone rest)

pub returns-in-count : goal.returns-in-count
returns-in-count c = λ rest. law.named c.alone-in-count.result meant.count_shape (codes "count") c.args.name.now rest c.in-count.is (c.alone-in-count.ensures _ c.count.ensures) (law.count_alone rest)

pub returns-in-pick : goal.returns-in-pick
returns-in-pick c = λ rest. law.named c.alone-in-pick.result meant.pick_shape (codes "pick") c.args.name.now rest c.in-pick.is (c.alone-in-pick.ensures _ c.pick.ensures) (law.pick_alone rest)

pub returns-in-recount : goal.returns-in-recount
returns-in-recount c = λ rest. law.named c.alone-in-recount.result meant.recount_shape (codes "recount") c.args.name.now rest c.in-recount.is (c.alone-in-recount.ensures _ c.recount.ensures) (law.recount_alone rest)

pub returns-in-stock : goal.returns-in-stock
returns-in-stock c = λ rest. law.named c.alone-in-stock.result meant.stock_shape (codes "stock") c.args.name.now rest c.in-stock.is (c.alone-in-stock.ensures _ c.stock.ensures) (law.stock_alone rest)

pub returns-in-open : goal.returns-in-open
returns-in-open c = λ rest. law.named c.alone-in-open.result meant.open_shape (codes "open") c.args.name.now rest c.in-open.is (c.alone-in-open.ensures _ c.open.ensures) (law.open_alone rest)

pub returns-in-advices : goal.returns-in-advices
returns-in-advices c = λ rest. law.named c.alone-in-advices.result meant.advices_shape (codes "advices") c.args.name.now rest c.in-advices.is (c.alone-in-advices.ensures _ c.advices.ensures) (law.advices_alone rest)

pub returns-in-orders : goal.returns-in-orders
returns-in-orders c = λ rest. law.named c.alone-in-orders.result meant.orders_shape (codes "orders") c.args.name.now rest c.in-orders.is (c.alone-in-orders.ensures _ c.orders.ensures) (law.orders_alone rest)

pub returns-in-outbox : goal.returns-in-outbox
returns-in-outbox c = λ rest. law.named c.alone-in-outbox.result meant.outbox_shape (codes "outbox") c.args.name.now rest c.in-outbox.is (c.alone-in-outbox.ensures _ c.outbox.ensures) (law.outbox_alone rest)

pub returns-in-depositors : goal.returns-in-depositors
returns-in-depositors c = λ rest. law.named c.alone-in-depositors.result meant.depositors_shape (codes "depositors") c.args.name.now rest c.in-depositors.is (c.alone-in-depositors.ensures _ c.depositors.ensures) (law.depositors_alone rest)

pub returns-in_default : goal.returns-in_default
returns-in_default c = λ rest. law.whole c.parser.result Script _ c.parser.ensures
