use Rattle.page_rows.proofs.KeyLemmas.{orders_put_sorted}
use Rattle.stock.proofs.drafts.Draft.with_order.Goals as goal

pub invariant_of-result : goal.invariant_of-result
invariant_of-result c = record {
  rows = c.self.invariant.rows;
  advices = c.self.invariant.advices;
  orders = orders_put_sorted c.args.order c.self.inside.facts.orders.items _ c.in_ok-put_order.ensures c.self.invariant.orders;
  documents = c.self.invariant.documents;
}
