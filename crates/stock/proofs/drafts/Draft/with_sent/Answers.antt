use Rattle.page_rows.specs.Functions.{function_text}
use Rattle.page_rows.proofs.KeyLemmas.{sent_sorted}
use Rattle.stock.proofs.drafts.Draft.with_sent.Goals as goal

pub invariant_of-result : goal.invariant_of-result
invariant_of-result c = record {
  rows = c.self.invariant.rows;
  advices = c.self.invariant.advices;
  orders = c.self.invariant.orders;
  documents = sent_sorted c.args.n (function_text c.args.function) c.self.inside.facts.documents.items _ c.in_ok-send.ensures c.self.invariant.documents;
}
