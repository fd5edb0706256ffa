-- Registers that go on, as they are written down, and texts one after another.
use Rattle.std.proofs.Common.{◌≡◌, ℕ, zero, suc, List, [], ◌∷◌, ◌++◌, length, take, refl, sym, ap, ◌∙◌, append_assoc, append-nil}
use Rattle.definitions.specs.Register.{Entry}
use Rattle.rules.specs.Written.{Written, written}
use Rattle.store.specs.Replayed.{written_on}

-- what is written down of entries behind others
pub written_on-append : (before L M : List Entry) → written_on before (L ++ M) ≡ written_on before L ++ written_on (before ++ L) M
written_on-append before [] M = ap (λ (B : List Entry). written_on B M) (sym (append-nil before))
written_on-append before (e ∷ L) M =
    ap (λ (ws : List Written). written before e ∷ ws) (written_on-append (before ++ e ∷ []) L M
    ∙ ap (λ (B : List Entry). written_on (before ++ e ∷ []) L ++ written_on B M) (append_assoc before (e ∷ []) L))

-- what is written down of the first entries
pub written_on-take : (before L : List Entry) (n : ℕ) → written_on before (take n L) ≡ take n (written_on before L)
written_on-take before L zero = refl
written_on-take before [] (suc n) = refl
written_on-take before (e ∷ L) (suc n) = ap (λ (ws : List Written). written before e ∷ ws) (written_on-take (before ++ e ∷ []) L n)

-- as many are written down as there are
pub length-written_on : (before L : List Entry) → length (written_on before L) ≡ length L
length-written_on before [] = refl
length-written_on before (e ∷ L) = ap suc (length-written_on (before ++ e ∷ []) L)

-- six texts that were added one by one
pub six_added : (s t u v w x y : List ℕ) → s ++ t ++ u ++ v ++ w ++ x ++ y ≡ s ++ (t ++ (u ++ (v ++ (w ++ (x ++ (y ++ []))))))
six_added s t u v w x y = search (append_assoc, append-nil)
