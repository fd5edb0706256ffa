-- how many connections count
use Rattle.std.proofs.Common.{◌≡◌, ℕ, ◌+◌, ◌<◌, ◌≤◌, Bool, true, false, not, cond, if◌then◌else◌, List, [], ◌∷◌, ◌++◌, length, refl, ap, arith, ◌∙◌}
use Rattle.std.specs.List.{FoldsTo}
use Rattle.std.proofs.lemmas.List.Sums.{sum_by-append, sum_by-cons}
use Rattle.intake.specs.declared.served.Connection.{Connection}
use Rattle.intake.specs.Connections.{counted_of}

-- what one counts
abbrev weight : Connection → ℕ
weight c = cond (not c.served.is_health) 1 0

weight_by : (c : Connection) (b : Bool) → c.served.is_health ≡ b → weight c ≡ cond (not b) 1 0
weight_by c b e = ap (λ (k : Bool). cond (not k) 1 0) e

-- one more
pub counts_more : (cs : List Connection) (c : Connection) (n next : ℕ) → counted_of cs ≡ n → next ≡ (if c.served.is_health then n else n + 1) → counted_of (cs ++ c ∷ []) ≡ next
counts_more cs c n next so_far is = by c.served.is_health refl
  where
    push : counted_of (cs ++ c ∷ []) ≡ counted_of cs + (weight c + 0)
    push = sum_by-append weight cs (c ∷ []) ∙ ap (λ k. counted_of cs + k) (sum_by-cons weight c [])

    by : (b : Bool) → c.served.is_health ≡ b → counted_of (cs ++ c ∷ []) ≡ next
    by true e =
        let w : weight c ≡ 0 = weight_by c true e in
        let to : next ≡ n = is ∙ ap (λ (k : Bool). if k then n else n + 1) e in
        omega (arith, push, w, to, so_far)
    by false e =
        let w : weight c ≡ 1 = weight_by c false e in
        let to : next ≡ n + 1 = is ∙ ap (λ (k : Bool). if k then n else n + 1) e in
        omega (arith, push, w, to, so_far)

-- where none is for health, all count
pub all_count : {K : Type 0} (serves : K → Connection → K → Type 0) → ((b : K) (c : Connection) (l : K) → serves b c l → c.served.is_health ≡ false)
    → (book : K) (cs : List Connection) (left : K) → FoldsTo serves book cs left → counted_of cs ≡ length cs
all_count serves each book [] left h = refl
all_count serves each book (c ∷ cs) left h =
    let w : weight c ≡ 1 = weight_by c false (each book c h.0 h.1) in
    let rest : counted_of cs ≡ length cs = all_count serves each h.0 cs left h.2 in
    let whole : counted_of (c ∷ cs) ≡ weight c + counted_of cs = sum_by-cons weight c cs in
    omega (arith, whole, w, rest)

-- those that count stay within what is wanted
pub still_within : (n count next : ℕ) (b : Bool) → n ≤ count → (n ≡ count → ⊥) → next ≡ (if b then n else n + 1) → next ≤ count
still_within n count next true low not is = omega (arith, low, is)
still_within n count next false low not is = let less : n < count = omega (arith, low, not) in omega (arith, less, is)
