use Rattle.std.proofs.Common.{rules, not}
use Rattle.std.proofs.lemmas.List.Sorted.{IsPartitionPoint-from_clause}
use Rattle.definitions.specs.Bytes.{comes_before}
use Rattle.page_rows.specs.Keyed.{row_key}
use Rattle.page_rows.proofs.KeyLemmas.{later_parted, not_false}
use Rattle.page_rows.proofs.lots.item_end.Goals as goal

pub returns-clause-back : goal.returns-clause-back
returns-clause-back c = λ k d le within. not_false _
    ((IsPartitionPoint-from_clause (λ r. not (comes_before c.args.item.now r.item)) c.args.rows.now _ c.partition_point.ensures.partitioned (later_parted row_key c.args.rows.now c.args.item.now c.requires) (λ a r f called. search rules)).1
    k d le within)
