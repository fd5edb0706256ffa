-- What the closed formula of the allotment says: no share is above what is free, together they are
-- what is wanted or all that is free, and it can be followed lot by lot.
use Rattle.std.proofs.Common.{◌≡◌, ℕ, zero, suc, ◌+◌, ◌-◌, ◌≤◌, min, List, [], ◌∷◌, ap, ◌∙◌, take, slice_index, sum, sym, refl, arith}
use Rattle.std.proofs.lemmas.List.Sums.{sum_by-cons}
use Rattle.definitions.specs.Allotment.{shares_after, allot}

-- the sum of a list, from the front
abbrev pub total : List ℕ → ℕ
total [] = 0
total (x ∷ xs) = x + total xs

-- place by place at most
abbrev pub IsWithin : List ℕ → List ℕ → Type 0
IsWithin [] [] = Unit {0}
IsWithin (x ∷ xs) (y ∷ ys) = (x ≤ y) × IsWithin xs ys
IsWithin xs ys = ⊥

-- a lot gets no more than is free of it
pub shares-within : (earlier : ℕ) (free : List ℕ) (w : ℕ) → IsWithin (shares_after earlier free w) free
shares-within earlier [] w = tt
shares-within earlier (f ∷ fs) w = (omega arith, shares-within (earlier + f) fs w)

-- all shares together are what is still wanted after the lots before, as far as it is free
pub total-shares : (earlier : ℕ) (free : List ℕ) (w : ℕ) → total (shares_after earlier free w) ≡ min (total free) (w - earlier)
total-shares earlier [] w = omega arith
total-shares earlier (f ∷ fs) w = let ih = total-shares (earlier + f) fs w in omega (arith, ih)

share_after : (earlier : ℕ) (free : List ℕ) (w j : ℕ)
    → slice_index (shares_after earlier free w) j ≡ min (slice_index free j) (w - (earlier + total (take j free)))
share_after earlier [] w j = omega arith
share_after earlier (f ∷ fs) w zero = ap (λ n. min f (w - n)) (omega arith)
share_after earlier (f ∷ fs) w (suc j) = share_after (earlier + f) fs w j ∙ ap (λ n. min (slice_index fs j) (w - n)) (omega arith)

-- lot j is given min(fj, max(0, w - (f1 + .. + f(j-1))))
pub share_at : (free : List ℕ) (w j : ℕ) → slice_index (allot free w) j ≡ min (slice_index free j) (w - total (take j free))
share_at free w j = share_after 0 free w j ∙ ap (λ n. min (slice_index free j) (w - n)) (omega arith)

total_is : (xs : List ℕ) → total xs ≡ sum xs
total_is [] = refl
total_is (x ∷ xs) = ap (λ n. x + n) (total_is xs) ∙ sym (sum_by-cons (λ n. n) x xs)

-- the same with std's sum
pub share-at : (free : List ℕ) (w j : ℕ) → slice_index (allot free w) j ≡ min (slice_index free j) (w - sum (take j free))
share-at free w j = share_at free w j ∙ ap (λ n. min (slice_index free j) (w - n)) (total_is (take j free))

-- Lot by lot: the first gives what it can, and the others give of what is then still wanted.

after_is : (earlier : ℕ) (free : List ℕ) (w : ℕ) → shares_after earlier free w ≡ allot free (w - earlier)
after_is earlier [] w = refl
after_is earlier (f ∷ fs) w =
    ap (λ (n : ℕ). min f n ∷ shares_after (earlier + f) fs w) (omega arith)
    ∙ ap (λ (xs : List ℕ). min f (w - earlier - 0) ∷ xs) (after_is (earlier + f) fs w ∙ ap (allot fs) (omega arith) ∙ sym (after_is (0 + f) fs (w - earlier)))
