-- a buffer filled from two sources
use Rattle.std.proofs.Common.{◌≡◌, ℕ, ◌+◌, ◌<◌, ◌≤◌, List, [], ◌++◌, take, Option, Some, None, length, ◌∙◌, refl, arith, length-append, append-nil, unwrap_or, min, true, false, nat_le, inl, inr}
use Rattle.std.proofs.lemmas.List.{take_all, length-take-le}
use Rattle.std.proofs.lemmas.Bool.Decides.{nat_tests}
use Rattle.std.proofs.lemmas.Bool.{cases_lt}
use Rattle.std.specs.Io.KnownBytes.{Consumes, IsAtEnd}
use Rattle.counted_io.specs.Inputs.{IsInput}
use Rattle.counted_io.proofs.InputLemmas.{had_input, full}
use Rattle.intake.specs.Requests.{FillsBuffer}

pub own_input : (known : Option (List ℕ)) → IsInput known (unwrap_or known [])
own_input None = tt
own_input (Some bytes) = refl

left_none : (new : Option (List ℕ)) → IsAtEnd new → unwrap_or new [] ≡ []
left_none None e = refl
left_none (Some y) e = e

by_order : {P : Type 0} (a b : ℕ) → (a ≤ b → P) → (b < a → P) → P
by_order {P} a b small large = elim (cases_lt b a) [ inl lt ↦ large lt | inr le ↦ small le ]

pub filled_is : (old new : Option (List ℕ)) (start front back : List ℕ) (had more size : ℕ) → had ≡ min (length start) size → front ≡ take had start → length back + had ≡ size
    → more ≤ length back → Consumes old new (take more back) → (more < length back → IsAtEnd new)
    → (input : List ℕ) × IsInput old input × FillsBuffer (nat_le (length back) more) (front ++ back) (start ++ input)
filled_is old new start front back had more size h f b within bytes end = by_order (length back) more
    (λ whole.
    let t : nat_le (length back) more ≡ true = grind (arith, nat_tests) in
    let all : take more back ≡ back = take_all more back whole in
    let left : List ℕ = unwrap_or new [] in
    let is = full start back left had size h b in
    let len : length (take had start ++ back) ≡ size = length-append (take had start) back ∙ (let n = length-take-le had start (omega arith) in omega arith) in
    (back ++ left, had_input old new back (rw all at bytes), rw (t, f, len) is))
    (λ short.
    let t : nat_le (length back) more ≡ false = grind (arith, nat_tests) in
    let none = left_none new (end short) in
    let input : List ℕ = take more back ++ unwrap_or new [] in (
      input,
      had_input old new (take more back) bytes,
      rw (t, f, none, append-nil (take more back)) (simp length-append (let n = length-take-le had start (omega arith) in let k = length-take-le more back within in omega arith)),
    ))
