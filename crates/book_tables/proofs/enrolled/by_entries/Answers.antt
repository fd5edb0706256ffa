use Rattle.std.proofs.Common.{◌≡◌, rules}
use Rattle.std.proofs.lemmas.Fn.{always_returns_same}
use Rattle.book_tables.proofs.enrolled.by_entries.Goals as goal

pub returns-clause-sorted : goal.returns-clause-sorted
returns-clause-sorted c = c.sort_unstable_by_key.ensures.sorted (λ e. e.seq) (always_returns_same _ (λ a r. r ≡ a.0.now.seq) _ (λ a r f called. search rules))
