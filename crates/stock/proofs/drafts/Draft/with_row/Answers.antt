use Rattle.std.proofs.Common.{ap, ◌∙◌}
use Rattle.page_rows.specs.Keyed.{rises_by, key_before, row_key}
use Rattle.page_rows.proofs.KeyLemmas.{put_sorted}
use Rattle.stock.proofs.drafts.Draft.with_row.Goals as goal

pub invariant_of-result : goal.invariant_of-result
invariant_of-result c = record {
  rows = ap (rises_by key_before row_key) c.in_ok-put_row.ensures ∙ put_sorted c.args.row c.self.inside.facts.rows.items c.self.invariant.rows;
  advices = c.self.invariant.advices;
  orders = c.self.invariant.orders;
  documents = c.self.invariant.documents;
}
