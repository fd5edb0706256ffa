use Rattle.std.proofs.Common.{rules}
use Rattle.std.proofs.lemmas.List.Sorted.{IsPartitionPoint-from_clause}
use Rattle.page_rows.specs.Keyed.{Pair, key_before, row_key}
use Rattle.page_rows.proofs.Keys.{parted, ranked}
use Rattle.page_rows.proofs.KeyLemmas.{pairs_strict}
use Rattle.page_rows.proofs.rows.rank_of.Goals as goal

pub returns : goal.returns
returns c =
    let k : Pair = (c.args.item.now, c.args.lot.now) in
    ranked key_before pairs_strict row_key c.args.rows.now k _ c.partition_point.ensures.bound
    (IsPartitionPoint-from_clause (λ r. key_before (row_key r) k) c.args.rows.now _ c.partition_point.ensures.partitioned (parted key_before pairs_strict row_key c.args.rows.now k c.requires)
    (λ a r f called. search rules))
