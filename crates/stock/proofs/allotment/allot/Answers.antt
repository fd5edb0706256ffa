use Rattle.std.proofs.Common.{◌≡◌, ◌+◌, ◌-◌, ◌<◌, ◌∷◌, ◌++◌, [], ℕ, List, length, get_or, take, drop, min, ap, sym, ◌∙◌, append_assoc, append-nil, arith}
use Rattle.std.specs.Prelude.{sum}
use Rattle.std.proofs.lemmas.List.{at_drop_all, at_drop_more}
use Rattle.std.proofs.lemmas.List.Sums.{sum_by_more}
use Rattle.definitions.specs.Allotment.{allot, shares_after}
use Rattle.stock.proofs.allotment.allot.Goals as goal

-- one lot more
share_next : (free shares new : List ℕ) (i share want : ℕ) → i < length free → share ≡ min (want - sum (take i free)) (get_or free i 0) → new ≡ shares ++ share ∷ []
    → allot free want ≡ shares ++ shares_after (sum (take i free)) (drop i free) want → allot free want ≡ new ++ shares_after (sum (take (i + 1) free)) (drop (i + 1) free) want
share_next free shares new i share want within is more inv =
    let e : ℕ = sum (take i free) in
    let f : ℕ = get_or free i 0 in
    let rest : List ℕ = drop (i + 1) free in
    let given : min f (want - e) ≡ share = omega (arith, is) in
    inv
    ∙ at_drop_more (λ fs. shares ++ shares_after e fs want) free i 0 within
    ∙ ap (λ n. shares ++ n ∷ shares_after (e + f) rest want) given
    ∙ sym (append_assoc shares (share ∷ []) (shares_after (e + f) rest want))
    ∙ (λ j. sym more j ++ shares_after (sym (sum_by_more (λ x. x) free i 0 within) j) rest want)

left_next : (free : List ℕ) (i left share want : ℕ) → i < length free → share ≡ min (want - sum (take i free)) (get_or free i 0) → left ≡ want - sum (take i free)
    → left - share ≡ want - sum (take (i + 1) free)
left_next free i left share want within is was = omega (arith, sum_by_more (λ x. x) free i 0 within)

pub loop-amount-preserved : goal.loop-amount-preserved
loop-amount-preserved c =
    let l = c.loop-amount in
    let free = c.args.free.now in
    let within = c.loop-amount-test.true in
    let share = c.min-share.ensures ∙ ap (λ n. min n (get_or free l.amount-index 0)) l.invariant.left in
    record {
      shares = share_next free l.shares.items _ l.amount-index _ c.args.want within share c.in_ok-push.ensures.items l.invariant.shares;
      left = left_next free l.amount-index l.left _ c.args.want within share l.invariant.left;
    }

pub returns : goal.returns
returns c =
    let l = c.loop-amount in
    sym (l.invariant.shares ∙ at_drop_all (λ fs. l.shares.items ++ shares_after (sum (take l.amount-index c.args.free.now)) fs c.args.want) c.args.free.now l.amount-index c.loop-amount-test.false ∙ append-nil l.shares.items)
