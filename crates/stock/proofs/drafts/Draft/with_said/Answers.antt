use Rattle.std.proofs.Common.{ap, ◌∙◌}
use Rattle.std.specs.Prelude.{nat_lt}
use Rattle.page_rows.specs.Keyed.{rises_by, entry_of}
use Rattle.page_rows.proofs.KeyLemmas.{said_sorted}
use Rattle.stock.proofs.drafts.Draft.with_said.Goals as goal

pub invariant_of-result : goal.invariant_of-result
invariant_of-result c = record {
  rows = c.self.invariant.rows;
  advices = c.self.invariant.advices;
  orders = c.self.invariant.orders;
  documents = ap (rises_by nat_lt entry_of) c.put_said.ensures ∙ said_sorted c.args.n c.args.accepts c.self.inside.facts.documents.items c.self.invariant.documents;
}
