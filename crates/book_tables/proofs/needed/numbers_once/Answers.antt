use Rattle.std.proofs.Common.{◌≡◌, ◌∙◌, ◌==◌, ap, List, ℕ, sym}
use Rattle.std.specs.Cmp.{nat_eq_equiv}
use Rattle.std.proofs.lemmas.List.Filters.{dedup_is}
use Rattle.std.proofs.lemmas.Map.Keys.{IsStrictlyIncreasing-dedup}
use Rattle.definitions.specs.Need.{is_number_of}
use Rattle.book_tables.proofs.OnceKept.{number_any, sorted_once}
use Rattle.book_tables.proofs.needed.numbers_once.Goals as goal

pub returns-clause-same : goal.returns-clause-same
returns-clause-same c = λ n.
    let whole : c.in_ok-rising.rising.items ≡ c.args.numbers.now = c.in_ok-rising.ensures.items_if_clones_equal (λ x y e. e) in
    let kept = sorted_once (λ x y. x == y) (λ m. m == n) (λ x y e. nat_eq_equiv.congr x y n e) c.in_ok-rising.rising.items _ c.dedup.new.self.items
    c.sort_unstable.ensures.permutation (dedup_is _ _ _ c.dedup.ensures.filtered) in
    number_any c.dedup.new.self.items n ∙ kept ∙ sym (number_any c.in_ok-rising.rising.items n) ∙ ap (λ (ms : List ℕ). is_number_of ms n) whole

pub returns-clause-once : goal.returns-clause-once
returns-clause-once c = rw (dedup_is _ _ _ c.dedup.ensures.filtered) (IsStrictlyIncreasing-dedup _ c.sort_unstable.ensures.sorted)
