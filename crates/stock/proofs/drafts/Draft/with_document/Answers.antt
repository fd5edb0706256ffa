use Rattle.page_rows.proofs.KeyLemmas.{documents_put_sorted}
use Rattle.stock.proofs.drafts.Draft.with_document.Goals as goal

pub invariant_of-result : goal.invariant_of-result
invariant_of-result c = record {
  rows = c.self.invariant.rows;
  advices = c.self.invariant.advices;
  orders = c.self.invariant.orders;
  documents = documents_put_sorted c.args.document c.self.inside.facts.documents.items _ c.in_ok-put_document.ensures c.self.invariant.documents;
}
