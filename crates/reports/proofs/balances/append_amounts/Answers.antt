use Rattle.std.proofs.Common.{◌≡◌, ℕ, ◌+◌, ◌<◌, List, [], ◌∷◌, ◌++◌, length, get_or, take, flat_map, Bor, ap, sym, ◌∙◌, append_assoc}
use Rattle.std.proofs.lemmas.List.{take_more, flat_map_more}
use Rattle.definitions.specs.Bytes.{right_aligned}
use Rattle.reports.proofs.balances.append_amounts.Goals as goal

abbrev cell : Bor (List ℕ) → List ℕ
cell a = 32 ∷ right_aligned 15 a.now

-- the amount at `i` stands after those before it
more : (amounts : List (Bor (List ℕ))) (i : ℕ) (amount : Bor (List ℕ)) (before begun spaced now : List ℕ) → i < length amounts
    → begun ≡ before ++ flat_map cell (take i amounts) → spaced ≡ begun ++ 32 ∷ []
    → now ≡ spaced ++ right_aligned 15 (get_or amounts i amount).now → now ≡ before ++ flat_map cell (take (i + 1) amounts)
more amounts i amount before begun spaced now h is space named =
    let text = right_aligned 15 (get_or amounts i amount).now in
    named
    ∙ ap (λ (b : List ℕ). b ++ text) (space ∙ ap (λ (b : List ℕ). b ++ 32 ∷ []) is)
    ∙ append_assoc (before ++ flat_map cell (take i amounts)) (32 ∷ []) text
    ∙ flat_map_more cell before (take i amounts) (get_or amounts i amount)
    ∙ ap (λ (xs : List (Bor (List ℕ))). before ++ flat_map cell xs) (sym (take_more amounts i amount h))

pub loop-amount-preserved : goal.loop-amount-preserved
loop-amount-preserved c =
    more c.args.amounts.now c.loop-amount.amount-index _ c.args.out.now.items c.loop-amount.out.items _ _ c.loop-amount-test.true
    c.loop-amount.invariant c.in_ok-push.ensures.items c.in_ok-append_right.ensures
