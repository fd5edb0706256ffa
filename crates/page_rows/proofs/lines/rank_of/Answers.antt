use Rattle.std.proofs.Common.{rules}
use Rattle.std.proofs.lemmas.List.Sorted.{IsPartitionPoint-from_clause}
use Rattle.page_rows.specs.Keyed.{Pair, key_before}
use Rattle.page_rows.specs.Pairs.{pair_key}
use Rattle.page_rows.proofs.Halves.{ascending_by}
use Rattle.page_rows.proofs.Keys.{parted, ranked}
use Rattle.page_rows.proofs.KeyLemmas.{pairs_strict}
use Rattle.page_rows.proofs.lines.rank_of.Goals as goal

pub returns : goal.returns
returns c =
    let k : Pair = (c.args.item.now, c.args.lot.now) in
    ranked key_before pairs_strict pair_key c.args.lines.now k _ c.partition_point.ensures.bound
    (IsPartitionPoint-from_clause (λ l. key_before (pair_key l) k) c.args.lines.now _ c.partition_point.ensures.partitioned
    (parted key_before pairs_strict pair_key c.args.lines.now k (ascending_by c.args.lines.now c.requires)) (λ a r f called. search rules))
