use Rattle.page_rows.proofs.KeyLemmas.{advices_put_sorted}
use Rattle.stock.proofs.drafts.Draft.with_advice.Goals as goal

pub invariant_of-result : goal.invariant_of-result
invariant_of-result c = record {
  rows = c.self.invariant.rows;
  advices = advices_put_sorted c.args.advice c.self.inside.facts.advices.items _ c.in_ok-put_advice.ensures c.self.invariant.advices;
  orders = c.self.invariant.orders;
  documents = c.self.invariant.documents;
}
