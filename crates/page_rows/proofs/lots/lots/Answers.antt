use Rattle.std.proofs.Common.{subst}
use Rattle.std.specs.List.Sorted.{IsPermutation}
use Rattle.page_rows.proofs.KeyLemmas.{sorted_distinct}
use Rattle.page_rows.proofs.LotLemmas.{lots_sorted}
use Rattle.page_rows.proofs.lots.lots.Goals as goal

pub returns : goal.returns
returns c = lots_sorted c.args.rules c.args.item.now c.args.rows.now c.sorted.result.items (sorted_distinct c.args.rows.now c.requires)
    (subst (λ js. IsPermutation js c.sorted.result.items) c.in_ok-counted_lots.ensures c.sorted.ensures.same) c.sorted.ensures.sorted
