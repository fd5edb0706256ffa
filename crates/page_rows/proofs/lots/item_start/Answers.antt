use Rattle.std.proofs.Common.{rules, arith}
use Rattle.std.proofs.lemmas.List.Sorted.{IsPartitionPoint-from_clause}
use Rattle.definitions.specs.Bytes.{comes_before}
use Rattle.page_rows.specs.Keyed.{row_key}
use Rattle.page_rows.proofs.KeyLemmas.{before_parted}
use Rattle.page_rows.proofs.lots.item_start.Goals as goal

pub returns : goal.returns
returns c = λ k d lt.
    (IsPartitionPoint-from_clause (λ r. comes_before r.item c.args.item.now) c.args.rows.now _ c.partition_point.ensures.partitioned (before_parted row_key c.args.rows.now c.args.item.now c.requires) (λ a r f called. search rules)).0
    k d (omega arith) lt
