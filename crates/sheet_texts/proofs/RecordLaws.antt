-- The records that a reader comes to one after the other are the first ones of its text.
use Rattle.std.proofs.Common.{◌≡◌, ◌⊎◌, ℕ, zero, suc, ◌+◌, ◌-◌, ◌≤◌, Bool, true, false, cond, List, [], ◌∷◌, ◌++◌, take, length, Option, Some, None, inl, inr, refl, ap, sym, ◌∙◌, arith}
use Rattle.std.proofs.Math.Seq.{take-append_seam}
use Rattle.std.proofs.lemmas.List.{append-nil}
use Rattle.csv.specs.Machine.{Read, next_record, step, is_end, fields_after, field_after, ends_at_end}
use Rattle.csv.specs.Reading.{Reached, records, records_from, records_next}
use Rattle.csv.specs.declared.parser.Config.{Config}
use Rattle.csv.specs.declared.parser.State.{State}
use Rattle.csv.specs.declared.parser.State.TheVariants as st

-- a record takes a byte at least, or ends where its text ends
abbrev Spends : List ℕ → Read → Type 0
Spends xs p = (length p.2 + 1 ≤ length xs) ⊎ ((p.1 ≡ st.StartRecord) × (p.2 ≡ []))

abbrev read_or : Read → Option Read → Read
read_or d (Some p) = p
read_or d None = d

same_read : (p q : Read) → Some p ≡ Some q → p ≡ q
same_read p q h = ap (read_or p) h

next_spends : (cfg : Config) (s : State) (fields : List (List ℕ)) (field xs : List ℕ) (p : Read) → next_record cfg s fields field xs ≡ Some p → Spends xs p
unfolding next_record
next_spends cfg s fields field [] p h = by_test (ends_at_end s) h
  where
    by_test : (t : Bool) → cond {A = Option Read} t (Some (fields ++ (field ∷ []), st.StartRecord, [])) None ≡ Some p → Spends [] p
    by_test true e = let same = same_read (fields ++ (field ∷ []), st.StartRecord, []) p e in inr (sym (ap (λ (q : Read). q.1) same), sym (ap (λ (q : Read). q.2) same))
    by_test false e = absurd (cc)
next_spends cfg s fields field (c ∷ rest) p h =
    by_test (is_end (step cfg s c).1) h (λ g. next_spends cfg (step cfg s c).0 (fields_after (step cfg s c).1 fields field) (field_after (step cfg s c).1 c field) rest p g)
  where
    ended : Read
    ended = (fields_after (step cfg s c).1 fields field, (step cfg s c).0, rest)

    on : Option Read
    on = next_record cfg (step cfg s c).0 (fields_after (step cfg s c).1 fields field) (field_after (step cfg s c).1 c field) rest

    one_more : Spends rest p → Spends (c ∷ rest) p
    one_more (inl a) = inl (omega (arith, a))
    one_more (inr b) = inr b

    by_test : (t : Bool) → cond {A = Option Read} t (Some ended) on ≡ Some p → (on ≡ Some p → Spends rest p) → Spends (c ∷ rest) p
    by_test true e go = let same = same_read ended p e in inl (omega (arith, ap (λ (q : Read). length q.2) same))
    by_test false e go = one_more (go e)

-- a text that has come to its end has no record more
none_more : (cfg : Config) (s : State) (xs : List ℕ) (rs : List (List (List ℕ))) (s2 : State) (ys : List ℕ) → s ≡ st.StartRecord → xs ≡ [] → Reached cfg s xs rs s2 ys → length rs ≡ 0
unfolding Reached next_record
none_more cfg s xs [] s2 ys a b h = refl
none_more cfg s xs (r ∷ rs) s2 ys a b h =
    let none : None ≡ Some h.0 = (λ i. next_record cfg (sym a i) [] [] (sym b i)) ∙ h.1 in
    absurd (cc)

-- so a text has at most one record more than bytes
spent : (cfg : Config) (s : State) (xs : List ℕ) (rs : List (List (List ℕ))) (s2 : State) (ys : List ℕ) → Reached cfg s xs rs s2 ys → length rs ≤ length xs + 1
unfolding Reached
spent cfg s xs [] s2 ys h = omega arith
spent cfg s xs (r ∷ rs) s2 ys h =
    by_kind h.0 (next_spends cfg s [] [] xs h.0 h.1) (spent cfg h.0.1 h.0.2 rs s2 ys h.3) (λ a b. none_more cfg h.0.1 h.0.2 rs s2 ys a b h.3)
  where
    by_kind : (p : Read) → Spends xs p → length rs ≤ length p.2 + 1 → (p.1 ≡ st.StartRecord → p.2 ≡ [] → length rs ≡ 0) → length (r ∷ rs) ≤ length xs + 1
    by_kind p (inl a) on end = omega (arith, a, on)
    by_kind p (inr b) on end = omega (arith, end b.0 b.1)

reads_on : (cfg : Config) (s : State) (xs : List ℕ) (rs : List (List (List ℕ))) (s2 : State) (ys : List ℕ) → Reached cfg s xs rs s2 ys
    → (n k : ℕ) → n ≡ length rs + k → records_from cfg n s xs ≡ rs ++ records_from cfg k s2 ys
unfolding Reached records_from
reads_on cfg s xs [] s2 ys h n k e =
    let same : n ≡ k = omega (arith, e) in
    λ i. records_from cfg (same i) (h.0 i) (h.1 i)
reads_on cfg s xs (r ∷ rs) s2 ys h zero k e = absurd (omega (arith, e))
reads_on cfg s xs (r ∷ rs) s2 ys h (suc n) k e =
    ap (records_next (records_from cfg n)) h.1
    ∙ (λ i. sym h.2 i ∷ reads_on cfg h.0.1 h.0.2 rs s2 ys h.3 n k (omega (arith, e)) i)

nothing_more : (cfg : Config) (s : State) (xs : List ℕ) → next_record cfg s [] [] xs ≡ None → (k : ℕ) → records_from cfg k s xs ≡ []
unfolding records_from
nothing_more cfg s xs h zero = refl
nothing_more cfg s xs h (suc k) = ap (records_next (records_from cfg k)) h

-- the records come to are the first ones
pub first_read : (cfg : Config) (xs : List ℕ) (rs : List (List (List ℕ))) (s2 : State) (ys : List ℕ) → Reached cfg st.StartRecord xs rs s2 ys → (n : ℕ) → length rs ≡ n → take n (records cfg xs) ≡ rs
first_read cfg xs rs s2 ys h n e =
    let k = (length xs + 1) - length rs in
    let long : length xs + 1 ≡ length rs + k = omega (arith, spent cfg st.StartRecord xs rs s2 ys h) in
    ap (take n) (reads_on cfg st.StartRecord xs rs s2 ys h (length xs + 1) k long)
    ∙ (λ i. take (sym e i) (rs ++ records_from cfg k s2 ys))
    ∙ take-append_seam rs (records_from cfg k s2 ys)

-- and all, where there is none after them
pub all_read : (cfg : Config) (xs : List ℕ) (rs : List (List (List ℕ))) (s2 : State) (ys : List ℕ) → Reached cfg st.StartRecord xs rs s2 ys → next_record cfg s2 [] [] ys ≡ None → records cfg xs ≡ rs
all_read cfg xs rs s2 ys h none =
    let k = (length xs + 1) - length rs in
    let long : length xs + 1 ≡ length rs + k = omega (arith, spent cfg st.StartRecord xs rs s2 ys h) in
    reads_on cfg st.StartRecord xs rs s2 ys h (length xs + 1) k long ∙ ap (λ zs. rs ++ zs) (nothing_more cfg s2 ys none k) ∙ append-nil rs
