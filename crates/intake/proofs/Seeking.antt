-- a route that is found is one of the rows, and the path begins with the bytes of its pattern
use Rattle.std.proofs.Common.{◌≡◌, ℕ, zero, suc, ◌-◌, ◌<◌, List, [], ◌∷◌, drop, Option, Some, None, Bool, true, false, cond, refl, sym, ap, ◌∙◌, ◌⊎◌, inl, inr, arith, ltb, length, ◌==◌}
use Rattle.std.proofs.lemmas.Bool.Decides.{nat_tests}
use Rattle.matchit.specs.Rows.{RowsOf, param_token, catch_all_token}
use Rattle.matchit.specs.Seek.{own, step, or_else, seek, param_step, has_slash, with_suffix, longest_suffix, segment, same_text}

-- the pattern's bytes stand in the path as they are, and a parameter stands for some of the path's
-- bytes
abbrev pub Fits : List ℕ → List ℕ → Type 0
Fits [] path = Unit {0}
Fits (x ∷ t) path = (x < 256 → (p : List ℕ) × (path ≡ x ∷ p) × Fits t p) × (x ≡ 256 → (k : ℕ) × Fits t (drop k path))

module _ {K : Type 0} where
  abbrev pub IsIn : List ℕ × K → RowsOf K → Type 0
  IsIn row [] = ⊥
  IsIn row (x ∷ rest) = (row ≡ x) ⊎ IsIn row rest

  pub own_in : (rs : RowsOf K) (key : K) → own rs ≡ Some key → IsIn ([], key) rs
  own_in [] key e = cc
  own_in (([], k) ∷ rest) key e = inl cc
  own_in ((x ∷ t, k) ∷ rest) key e = inr (own_in rest key e)

  pub step_in : (b : ℕ) (rs : RowsOf K) (t : List ℕ) (key : K) → IsIn (t, key) (step b rs) → IsIn (b ∷ t, key) rs
  step_in b [] t key h = absurd h
  step_in b (([], k) ∷ rest) t key h = inr (step_in b rest t key h)
  step_in b ((x ∷ w, k) ∷ rest) t key h = by (x == b) refl (step_in b rest t key) h
    where
      by : (v : Bool) → (x == b) ≡ v → (IsIn (t, key) (step b rest) → IsIn (b ∷ t, key) rest)
          → IsIn (t, key) (cond v ((w, k) ∷ step b rest) (step b rest)) → IsIn (b ∷ t, key) ((x ∷ w, k) ∷ rest)
      by true e go (inl same) = let xb : x ≡ b = grind (arith, nat_tests) in inl (ap (λ (q : List ℕ × K). (b ∷ q.0, q.1)) same ∙ ap (λ (y : ℕ). (y ∷ w, k)) (sym xb))
      by true e go (inr more) = inr (go more)
      by false e go more = inr (go more)

  suffix_in : (s : List ℕ) (rs : RowsOf K) (row : List ℕ × K) → IsIn row (with_suffix s rs) → IsIn row rs
  suffix_in s [] row h = h
  suffix_in s ((t, k) ∷ rest) row h = by (same_text (segment t) s) (suffix_in s rest row) h
    where
      by : (v : Bool) → (IsIn row (with_suffix s rest) → IsIn row rest) → IsIn row (cond v ((t, k) ∷ with_suffix s rest) (with_suffix s rest)) → IsIn row ((t, k) ∷ rest)
      by true go (inl same) = inl same
      by true go (inr more) = inr (go more)
      by false go more = inr (go more)

  pub param_in : (rs : RowsOf K) (path : List ℕ) (row : List ℕ × K) → IsIn row ((param_step rs path).1) → IsIn row rs
  unfolding param_step
  param_in rs path row h = by (ltb 0 (length (longest_suffix (segment path) rs))) (has_slash path) h
    where
      by : (u v : Bool) → IsIn row ((cond {A = ℕ × RowsOf K} u (length (segment path) - length (longest_suffix (segment path) rs), with_suffix (longest_suffix (segment path) rs) rs)
          (cond v (0, []) (length path, rs))).1) → IsIn row rs
      by true v h = suffix_in (longest_suffix (segment path) rs) rs row h
      by false true h = absurd h
      by false false h = h

  abbrev pub Found : RowsOf K → List ℕ → K → Type 0
  Found rs path key = (t : List ℕ) × IsIn (t, key) rs × Fits t path

  by_step : (b : ℕ) (rs : RowsOf K) (path : List ℕ) (key : K) → Found (step b rs) path key → Found rs (b ∷ path) key
  by_step b rs path key f = (b ∷ f.0, step_in b rs f.0 key f.1, ((λ few. (path, refl, f.2)), (λ many. (1, f.2))))

  by_param : (b : ℕ) (rs : RowsOf K) (path : List ℕ) (n : ℕ) (key : K) → Found ((param_step (step param_token rs) (b ∷ path)).1) (drop n path) key → Found rs (b ∷ path) key
  by_param b rs path n key f =
      (param_token ∷ f.0, step_in param_token rs f.0 key (param_in (step param_token rs) (b ∷ path) (f.0, key) f.1), ((λ few. absurd (omega arith)), (λ many. (suc n, f.2))))

  by_all : (rs : RowsOf K) (path : List ℕ) (key : K) → own (step catch_all_token rs) ≡ Some key → Found rs path key
  by_all rs path key e =
      (catch_all_token ∷ [], step_in catch_all_token rs [] key (own_in (step catch_all_token rs) key e), ((λ few. absurd (omega arith)), (λ many. absurd (omega arith))))

  pub by_either : (a b : Option K) (key : K) {P : Type 0} → (a ≡ Some key → P) → (b ≡ Some key → P) → or_else a b ≡ Some key → P
  by_either None b key f g e = g e
  by_either (Some k) b key f g e = f e

  pub found_in : (skip : ℕ) (rs : RowsOf K) (path : List ℕ) (key : K) → seek skip rs path ≡ Some key → Found rs (drop skip path) key
  unfolding seek
  found_in zero rs [] key e = ([], own_in rs key e, tt)
  found_in (suc skip) rs [] key e = ([], own_in rs key e, tt)
  found_in (suc skip) rs (b ∷ path) key e = found_in skip rs path key e
  found_in zero rs (b ∷ path) key e =
      by_either _ _ key
      (λ s. by_step b rs path key (found_in 0 (step b rs) path key s))
      (by_either _ _ key
      (λ s. by_param b rs path ((param_step (step param_token rs) (b ∷ path)).0 - 1) key (found_in ((param_step (step param_token rs) (b ∷ path)).0 - 1) ((param_step (step param_token rs) (b ∷ path)).1) path key s))
      (λ s. by_all rs (b ∷ path) key s))
      e
