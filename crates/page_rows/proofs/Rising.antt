-- Lines in the order of their pairs.
use Rattle.std.proofs.Common.{◌≡◌, Bool, true, not, ◌&&◌, List, [], ◌∷◌, inl, inr, refl, ap, sym, ◌∙◌, subst, map-id, Ordering}
use Rattle.std.specs.Cmp.{IsStrictWeakOrder}
use Rattle.std.specs.List.{IsAllAdjacentAnswer}
use Rattle.std.specs.List.Sorted.{ties}
use Rattle.std.specs.Ordering.{is_eq, is_lt, ordering_reverse}
use Rattle.std.specs.declared.cmp.Ordering.TheVariants.{Less, Equal, Greater}
use Rattle.std.proofs.lemmas.Bool.{and_parts}
use Rattle.std.proofs.lemmas.List.Sorted.{ranks_by}
use Rattle.definitions.specs.Clerk.{is_ascending}
use Rattle.definitions.specs.Events.{pair_before}
use Rattle.definitions.specs.Means.{Line}
use Rattle.sheets.proofs.Ascending.{ascending_answer as answer_of}
use Rattle.sheets.proofs.PairLaws.{before_is, line_cmp, line_cmp_total}
use Rattle.page_rows.specs.Pairs.{pairs_order}
use Rattle.page_rows.proofs.Orders.{Has, IsOrder, Rises}
use Rattle.page_rows.proofs.Pairs.{before_lot, pair_through, ascending_tail, ascending_skip}
use Rattle.page_rows.proofs.Texts.{texts_never}

-- Lines that ascend rise.

after_first : (k : Line) (ls : List Line) → is_ascending (k ∷ ls) ≡ true → (z : Line) → Has z ls → pair_before k z ≡ true
after_first k [] h z b = absurd b
after_first k (l ∷ ls) h z (inl a) = subst (λ w. pair_before k w ≡ true) (sym a) (and_parts (pair_before k l) (is_ascending (l ∷ ls)) h).0
after_first k (l ∷ ls) h z (inr b) = after_first k ls (ascending_skip k l ls h) z b

pub ascending_rises : (ls : List Line) → is_ascending ls ≡ true → Rises pair_before ls
ascending_rises [] h = tt
ascending_rises (k ∷ ls) h = (after_first k ls h, ascending_rises ls (ascending_tail k ls h))

pub lines_order : IsOrder pair_before
lines_order = record { never = λ k. before_lot k k refl ∙ texts_never k.lot; through = pair_through }

pub lines_less : (λ (k l : Line). is_lt (pairs_order k l)) ≡ pair_before
lines_less = λ i k l. sym (before_is k l) i

pub pairs_weak : IsStrictWeakOrder (λ k l. is_lt (pairs_order k l))
pairs_weak = ranks_by line_cmp_total (λ k. k)

pub lines_weak : IsStrictWeakOrder pair_before
lines_weak = subst IsStrictWeakOrder lines_less pairs_weak

-- lines that tie are of one pair
pub tied_lines : (k l : Line) → is_eq (pairs_order k l) ≡ ties pair_before k l
tied_lines k l =
    tied (line_cmp k l) (line_cmp l k) (line_cmp_total.antisymm l k) ∙ (λ i. not (sym (before_is k l) i) && not (sym (before_is l k) i))
  where
    tied : (o p : Ordering) → p ≡ ordering_reverse o → is_eq o ≡ (not (is_lt o) && not (is_lt p))
    tied Less p e = refl
    tied Equal p e = rw e refl
    tied Greater p e = rw e refl

-- What a look at each line and the next tells.

pub ascending_answer : (ls : List Line) (r : Bool) → IsAllAdjacentAnswer (λ k l b. b ≡ pair_before k l) ls r → r ≡ is_ascending ls
ascending_answer ls r h = answer_of (λ l. l) pair_before (λ a b. refl) ls r h ∙ ap is_ascending (map-id ls)
