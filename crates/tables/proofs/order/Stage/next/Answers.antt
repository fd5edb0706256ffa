use Rattle.tables.proofs.order.Stage.next.Goals as goal

pub returns-in-Numbered : goal.returns-in-Numbered
returns-in-Numbered c = rw c.in-Numbered.is (c.after_number.ensures c.args.rules)

pub returns-in-Goods : goal.returns-in-Goods
returns-in-Goods c = rw c.in-Goods.is (c.after_goods.ensures c.args.rules)

pub returns-in-Pinned : goal.returns-in-Pinned
returns-in-Pinned c = rw c.in-Pinned.is (c.after_pin.ensures c.args.rules)

pub returns-in-Total : goal.returns-in-Total
returns-in-Total c = rw c.in-Total.is (c.after_total.ensures c.args.rules)
