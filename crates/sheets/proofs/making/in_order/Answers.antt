use Rattle.std.proofs.Common.{rules, is_lt}
use Rattle.std.proofs.lemmas.List.Sorted.{ranks_by, answers_always}
use Rattle.sheets.specs.Pairs.{pair_cmp}
use Rattle.sheets.proofs.PairLaws.{raw_total}
use Rattle.sheets.proofs.making.in_order.Goals as goal

pub returns-clause-sorted : goal.returns-clause-sorted
returns-clause-sorted c =
    c.sort_unstable_by.ensures.sorted (λ a b. is_lt (pair_cmp a b)) (ranks_by raw_total (λ l. l)) (answers_always _ _ _ (λ f a r g h. search rules))
