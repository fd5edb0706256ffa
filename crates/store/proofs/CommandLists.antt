-- Commands in a list: what was answered to the first ones, and one more.
use Rattle.std.proofs.Common.{◌≡◌, ℕ, true, List, [], ◌∷◌, ◌++◌, length, refl, sym, ap, ◌∙◌, subst, arith, take, get_or, suc, zero, ◌<◌, ◌≤◌, ◌+◌}
use Rattle.std.specs.Cmp.Derive.{both_true}
use Rattle.definitions.specs.declared.rules.Rules.{Rules}
use Rattle.definitions.specs.Rules.{Today}
use Rattle.definitions.specs.Moments.{Moment}
use Rattle.definitions.specs.Header.{Who}
use Rattle.definitions.specs.Register.{Entry}
use Rattle.definitions.specs.Reply.{Reply}
use Rattle.definitions.specs.Accepted.{reply_to, after, accepted_on, replies_on, is_command}
use Rattle.definitions.proofs.TextLaws.{both_parts}
use Rattle.rules.specs.Asked.{asked}
use Rattle.rules.specs.Command.{Command as Asking}
use Rattle.store.specs.Runs.{all_asked, asked_at, can_be_given}
use Rattle.store.specs.Standing.{Standing, IsUsable, KeepsLegal, LeavesEither}
use Rattle.store.proofs.Replies.{accepted_on-more, replies_on-more}

asked_suc : (cs : List (Asking × Moment)) (i : ℕ) (d : Asking × Moment) → i < length cs
    → take (suc i) (all_asked cs) ≡ take i (all_asked cs) ++ asked_at (get_or cs i d) ∷ []
asked_suc [] i d lt = absurd (omega (arith, lt))
asked_suc (c ∷ cs) zero d lt = refl
asked_suc (c ∷ cs) (suc i) d lt = ap (λ xs. asked_at c ∷ xs) (asked_suc cs i d (omega (arith, lt)))

asked_more : (cs : List (Asking × Moment)) (i : ℕ) (d : Asking × Moment) → i < length cs
    → take (i + 1) (all_asked cs) ≡ take i (all_asked cs) ++ asked_at (get_or cs i d) ∷ []
asked_more cs i d lt = let one : i + 1 ≡ suc i = omega arith in ap (λ n. take n (all_asked cs)) one ∙ asked_suc cs i d lt

-- the register and the replies after one command more
accepted_more : (r : Rules) (W : Who) (L : List Entry) (cs : List (Asking × Moment)) (i : ℕ) (d : Asking × Moment) → i < length cs
    → after r W (accepted_on r W L (take i (all_asked cs))) (asked_at (get_or cs i d)) ≡ accepted_on r W L (take (i + 1) (all_asked cs))
accepted_more r W L cs i d lt = sym (ap (accepted_on r W L) (asked_more cs i d lt) ∙ accepted_on-more r W L (take i (all_asked cs)) (asked_at (get_or cs i d)))

replies_more : (r : Rules) (W : Who) (L : List Entry) (cs : List (Asking × Moment)) (i : ℕ) (d : Asking × Moment) → i < length cs
    → replies_on r W L (take i (all_asked cs)) ++ reply_to r W (accepted_on r W L (take i (all_asked cs))) (asked (get_or cs i d).0) ((get_or cs i d).1) ∷ []
    ≡ replies_on r W L (take (i + 1) (all_asked cs))
replies_more r W L cs i d lt = sym (ap (replies_on r W L) (asked_more cs i d lt) ∙ replies_on-more r W L (take i (all_asked cs)) (asked_at (get_or cs i d)))

-- what one command more leaves, where another call names the house
moved : (r : Rules) (V W : Who) (L : List Entry) (cs : List (Asking × Moment)) (i : ℕ) (item : Asking × Moment) → i < length cs → item ≡ get_or cs i item → V ≡ W
    → after r V (accepted_on r W L (take i (all_asked cs))) (asked_at item) ≡ accepted_on r W L (take (i + 1) (all_asked cs))
moved r V W L cs i item lt is house =
    ap (λ U. after r U (accepted_on r W L (take i (all_asked cs))) (asked_at item)) house
    ∙ ap (λ x. after r W (accepted_on r W L (take i (all_asked cs))) (asked_at x)) is
    ∙ accepted_more r W L cs i item lt

pub next_usable : (r : Rules) (s : Standing) (V W : Who) (L : List Entry) (cs : List (Asking × Moment)) (i : ℕ) (item : Asking × Moment) → i < length cs → item ≡ get_or cs i item → V ≡ W
    → IsUsable s (after r V (accepted_on r W L (take i (all_asked cs))) (asked_at item)) → IsUsable s (accepted_on r W L (take (i + 1) (all_asked cs)))
next_usable r s V W L cs i item lt is house h =
    subst (IsUsable s) (moved r V W L cs i item lt is house) h

pub next_keeps : (r : Rules) (s : Standing) (V W : Who) (L : List Entry) (cs : List (Asking × Moment)) (i : ℕ) (item : Asking × Moment) → i < length cs → item ≡ get_or cs i item → V ≡ W
    → KeepsLegal s (after r V (accepted_on r W L (take i (all_asked cs))) (asked_at item)) → KeepsLegal s (accepted_on r W L (take (i + 1) (all_asked cs)))
next_keeps r s V W L cs i item lt is house h = subst (KeepsLegal s) (moved r V W L cs i item lt is house) h

pub next_left : (r : Rules) (s : Standing) (V W : Who) (L : List Entry) (cs : List (Asking × Moment)) (i n : ℕ) (item : Asking × Moment) → i < length cs → item ≡ get_or cs i item → V ≡ W → n ≡ i
    → LeavesEither s (accepted_on r W L (take i (all_asked cs))) (after r V (accepted_on r W L (take i (all_asked cs))) (asked_at item))
    → LeavesEither s (accepted_on r W L (take n (all_asked cs))) (accepted_on r W L (take (n + 1) (all_asked cs)))
next_left r s V W L cs i n item lt is house count h =
    subst (λ m. LeavesEither s (accepted_on r W L (take m (all_asked cs))) (accepted_on r W L (take (m + 1) (all_asked cs)))) (sym count)
    (subst (λ M. LeavesEither s (accepted_on r W L (take i (all_asked cs))) M) (moved r V W L cs i item lt is house) h)

pub next_told : (r : Rules) (old new : List Reply) (V W : Who) (L : List Entry) (cs : List (Asking × Moment)) (i : ℕ) (item : Asking × Moment) → i < length cs → item ≡ get_or cs i item → V ≡ W
    → old ≡ replies_on r W L (take i (all_asked cs))
    → new ≡ old ++ reply_to r V (accepted_on r W L (take i (all_asked cs))) (asked item.0) (item.1) ∷ []
    → new ≡ replies_on r W L (take (i + 1) (all_asked cs))
next_told r old new V W L cs i item lt is house before h =
    h ∙ ap (λ rs. rs ++ reply_to r V (accepted_on r W L (take i (all_asked cs))) (asked item.0) (item.1) ∷ []) before
    ∙ ap (λ U. replies_on r W L (take i (all_asked cs)) ++ reply_to r U (accepted_on r W L (take i (all_asked cs))) (asked item.0) (item.1) ∷ []) house
    ∙ ap (λ (x : Asking × Moment). replies_on r W L (take i (all_asked cs)) ++ reply_to r W (accepted_on r W L (take i (all_asked cs))) (asked x.0) (x.1) ∷ []) is
    ∙ replies_more r W L cs i item lt

-- of commands that can be given, so can the first ones
pub given_fewer : (cs : List (Asking × Moment)) (n k : ℕ) → k ≤ n → can_be_given (take n cs) ≡ true → can_be_given (take k cs) ≡ true
given_fewer [] n zero le given = refl
given_fewer [] n (suc k) le given = refl
given_fewer (c ∷ cs) n zero le given = refl
given_fewer (c ∷ cs) zero (suc k) le given = absurd (omega (arith, le))
given_fewer (c ∷ cs) (suc n) (suc k) le given =
    let both = both_parts (is_command Today (asked c.0)) (can_be_given (take n cs)) given in
    both_true both.0 (given_fewer cs n k (omega (arith, le)) both.1)

-- and the one at a place that they reach
given_within : (cs : List (Asking × Moment)) (n i : ℕ) (d : Asking × Moment) → i < n → can_be_given (take n cs) ≡ true → i < length cs → is_command Today (asked (get_or cs i d).0) ≡ true
given_within [] n i d less given lt = absurd (omega (arith, lt))
given_within (c ∷ cs) zero i d less given lt = absurd (omega (arith, less))
given_within (c ∷ cs) (suc n) zero d less given lt = (both_parts (is_command Today (asked c.0)) (can_be_given (take n cs)) given).0
given_within (c ∷ cs) (suc n) (suc i) d less given lt = given_within cs n i d (omega (arith, less)) (both_parts (is_command Today (asked c.0)) (can_be_given (take n cs)) given).1 (omega (arith, lt))

pub given_item : (cs : List (Asking × Moment)) (n i : ℕ) (item : Asking × Moment) → i < n → can_be_given (take n cs) ≡ true → i < length cs → item ≡ get_or cs i item → is_command Today (asked item.0) ≡ true
given_item cs n i item less given lt is = ap (λ (x : Asking × Moment). is_command Today (asked x.0)) is ∙ given_within cs n i item less given lt
