use Rattle.std.proofs.Common.{rules, arith, not}
use Rattle.std.proofs.lemmas.List.Sorted.{IsPartitionPoint-from_clause}
use Rattle.definitions.specs.Bytes.{comes_before}
use Rattle.stock.specs.Pairs.{pair_key}
use Rattle.stock.proofs.Halves.{ascending_by}
use Rattle.stock.proofs.KeyLemmas.{later_parted}
use Rattle.rules.proofs.documents.shipments.item_end.Goals as goal

pub returns : goal.returns
returns c =
    let point = IsPartitionPoint-from_clause (λ l. not (comes_before c.args.item.now l.item)) c.args.sheet.now _ c.partition_point.ensures.partitioned
    (later_parted pair_key c.args.sheet.now c.args.item.now (ascending_by c.args.sheet.now c.requires)) (λ a r f called. search rules) in
    record { bound = c.partition_point.ensures.bound; below = λ k d lt. point.0 k d (omega arith) lt; above = λ k d le within. point.1 k d le within }
