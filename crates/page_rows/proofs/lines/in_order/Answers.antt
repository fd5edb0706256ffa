use Rattle.std.proofs.Common.{rules, is_lt, ap, subst, ◌∙◌}
use Rattle.std.specs.List.{dedup}
use Rattle.std.specs.List.Sorted.{IsSortedBy, IsStableBy}
use Rattle.std.specs.Ordering.{is_eq}
use Rattle.std.proofs.lemmas.Fn.{always_returns_same, dedup_same}
use Rattle.definitions.specs.Events.{pair_before}
use Rattle.page_rows.specs.Pairs.{pairs_order}
use Rattle.page_rows.proofs.Rising.{lines_less, lines_order, lines_weak, pairs_weak, tied_lines}
use Rattle.page_rows.proofs.Sorted.{sorted_in_order}
use Rattle.page_rows.proofs.lines.in_order.Goals as goal

pub returns : goal.returns
returns c =
    let lines = c.sort_by.new.self.items in
    dedup_same _ (λ k l. is_eq (pairs_order k l)) _ (λ x y b f' x' y' k. search rules) lines _ c.dedup_by.ensures.filtered
    ∙ ap (λ e. dedup e lines) (λ i k l. tied_lines k l i)
    ∙ sorted_in_order pair_before lines_order lines_weak c.args.lines.items lines
    (subst (λ less. IsSortedBy less lines) lines_less (c.in_ok-sort_by.ensures.sorted (λ k l. is_lt (pairs_order k l)) pairs_weak (always_returns_same _ _ _ (λ a r f called. search rules))))
    (subst (λ ks. IsStableBy pair_before ks lines) c.reverse.ensures.items
    (subst (λ less. IsStableBy less c.reverse.new.self.items lines) lines_less (c.sort_by.ensures.stable (λ k l. is_lt (pairs_order k l)) pairs_weak (always_returns_same _ _ _ (λ a r f called. search rules)))))
