use Rattle.tables.proofs.advice.Stage.next.Goals as goal

pub returns-in-Goods : goal.returns-in-Goods
returns-in-Goods c = rw c.in-Goods.is (c.after_goods.ensures c.args.rules)

pub returns-in-Lot : goal.returns-in-Lot
returns-in-Lot c = rw c.in-Lot.is (c.after_lot.ensures c.args.rules)

pub returns-in-Total : goal.returns-in-Total
returns-in-Total c = rw c.in-Total.is (c.after_total.ensures c.args.rules)
