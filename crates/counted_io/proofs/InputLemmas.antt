-- what several reads gave, one after the other
use Rattle.std.proofs.Common.{◌≡◌, ℕ, ◌+◌, ◌≤◌, List, [], ◌++◌, take, drop, Option, Some, None, refl, sym, subst, length, ◌∷◌, ◌∙◌, ap, arith, length-append, append-nil, append_assoc, unwrap_or, min, inl, inr}
use Rattle.std.proofs.lemmas.List.{take-append-le, take_all}
use Rattle.std.proofs.lemmas.Bool.{cases_lt}
use Rattle.std.proofs.Math.Seq.{take-append_seam}
use Rattle.std.proofs.KnownBytes.{Consumes-trans}
use Rattle.std.specs.Io.KnownBytes.{Consumes}
use Rattle.counted_io.specs.Inputs.{IsInput, IsFront}
use Rattle.counted_io.proofs.Sends.{take_two}

pub taken_more : (a b c : Option (List ℕ)) (old new : List ℕ) (at n : ℕ) → Consumes a b (take at old) → take at new ≡ take at old → Consumes b c (take n (drop at new)) → Consumes a c (take (at + n) new)
taken_more a b c old new at n p same q =
    subst (Consumes a c) (sym (take_two new at n ∙ ap (λ l. l ++ take n (drop at new)) same)) (Consumes-trans a b c _ _ p q)

-- what the reader had is what it gave and what it has left
pub had_input : (old new : Option (List ℕ)) (got : List ℕ) → Consumes old new got → IsInput old (got ++ unwrap_or new [])
had_input None new got p = tt
had_input (Some x) None got p = absurd p
had_input (Some x) (Some y) got p = sym p

-- the same where an input of what is left is given
pub more_input : (old new : Option (List ℕ)) (got input : List ℕ) → Consumes old new got → IsInput new input → IsInput old (got ++ input)
more_input None new got input p q = tt
more_input (Some x) None got input p q = absurd p
more_input (Some x) (Some y) got input p q = ap (λ l. got ++ l) q ∙ sym p

no_bytes : (l : List ℕ) → length l ≤ 0 → l ≡ []
no_bytes [] h = refl
no_bytes (x ∷ l) h = absurd (omega arith)

-- a buffer that was filled with what was there and then with what was read has the first bytes
pub full : (start back left : List ℕ) (had size : ℕ) → had ≡ min (length start) size → length back + had ≡ size → IsFront (take had start ++ back) size (start ++ (back ++ left))
full start back left had size h b = elim (cases_lt size (length start)) [
  | inl many ↦
      let none : back ≡ [] = no_bytes back (omega arith) in
      let same : had ≡ size = omega arith in
      let e : take size (start ++ (back ++ left)) ≡ take size start = take-append-le size start (back ++ left) (omega arith) in
      (simp length-append (omega arith), rw (none, append-nil (take had start), same) (subst (λ (l : List ℕ). take size start ≡ take size (start ++ (l ++ left))) none (sym e)))
  | inr few ↦
      let all : take had start ≡ start = take_all had start (omega arith) in
      let len : length (start ++ back) ≡ size = length-append start back ∙ (omega arith) in
      let e : take size (start ++ (back ++ left)) ≡ start ++ back =
      ap (take size) (sym (append_assoc start back left)) ∙ subst (λ (n : ℕ). take n ((start ++ back) ++ left) ≡ start ++ back) len (take-append_seam (start ++ back) left) in
      (simp length-append (omega arith), rw all (sym e))
]
