use Rattle.std.proofs.Common.{rules, is_lt, subst, sym}
use Rattle.std.specs.List.Sorted.{IsSortedBy}
use Rattle.std.proofs.lemmas.Fn.{always_returns_same}
use Rattle.std.proofs.lemmas.List.Sorted.{ranks_by}
use Rattle.page_rows.specs.Lots.{rank_order}
use Rattle.page_rows.proofs.Ranks.{ranks_are, ranks_total}
use Rattle.page_rows.proofs.lots.sorted.Goals as goal

pub returns-clause-sorted : goal.returns-clause-sorted
returns-clause-sorted c =
    subst (λ less. IsSortedBy less c.sort_unstable_by.new.self.items) (λ i a b. sym (ranks_are c.args.rules a b) i)
    (c.sort_unstable_by.ensures.sorted (λ a b. is_lt (rank_order c.args.rules a b)) (ranks_by (ranks_total c.args.rules) (λ k. k)) (always_returns_same _ _ _ (λ a r f called. search rules)))
