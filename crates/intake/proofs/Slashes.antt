-- where the first slash of a path is
use Rattle.std.proofs.Common.{◌≡◌, ℕ, zero, suc, ◌-◌, ◌<◌, List, [], ◌∷◌, drop, Bool, true, false, cond, refl, arith, length, get_or, ◌==◌}
use Rattle.std.proofs.lemmas.Bool.Decides.{nat_tests}
use Rattle.matchit.specs.Seek.{has_slash, segment, slash}

pub slash_after : (k : ℕ) (p q : List ℕ) → drop k p ≡ slash ∷ q → has_slash p ≡ true
slash_after zero [] q e = cc
slash_after (suc k) [] q e = cc
slash_after zero (b ∷ p) q e = let is : b ≡ 47 = cc in rw is refl
slash_after (suc k) (b ∷ p) q e = by (b == slash) (slash_after k p q e)
  where
    by : (v : Bool) → has_slash p ≡ true → cond v true (has_slash p) ≡ true
    by true h = refl
    by false h = h

abbrev pub EndsAtSlash : List ℕ → Type 0
EndsAtSlash p = (0 < length (segment p)) × (length (segment p) - 1 < length p) × (get_or p (length (segment p) - 1) 0 ≡ 47)

pub segment_ends : (p : List ℕ) → has_slash p ≡ true → EndsAtSlash p
segment_ends [] e = cc
segment_ends (b ∷ p) e = by (b == slash) refl (segment_ends p) e
  where
    by : (v : Bool) → (b == slash) ≡ v → (has_slash p ≡ true → EndsAtSlash p) → cond v true (has_slash p) ≡ true
        → (0 < length (cond v (b ∷ []) (b ∷ segment p))) × (length (cond v (b ∷ []) (b ∷ segment p)) - 1 < length (b ∷ p))
        × (get_or (b ∷ p) (length (cond v (b ∷ []) (b ∷ segment p)) - 1) 0 ≡ 47)
    by true e go h = (omega arith, omega arith, grind (arith, nat_tests))
    by false e go h = there (length (segment p)) (go h)
      where
        there : (n : ℕ) → (0 < n) × (n - 1 < length p) × (get_or p (n - 1) 0 ≡ 47) → (0 < suc n) × (suc n - 1 < length (b ∷ p)) × (get_or (b ∷ p) (suc n - 1) 0 ≡ 47)
        there zero f = absurd (omega (arith, f.0))
        there (suc n) f = let e : suc (suc n) - 1 ≡ suc (suc n - 1) = omega arith in (omega arith, omega (arith, f.1), rw e f.2)
