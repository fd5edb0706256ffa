-- How a text is cut at its first terminator.
use Rattle.std.proofs.Common.{◌≡◌, ℕ, ◌+◌, ◌<◌, ◌≤◌, Bool, true, false, cond, eqb, List, [], ◌∷◌, ◌++◌, length, get_or, take, drop, map, refl, ap, arith, suc, eq-eqb, Some, None}
use Rattle.std.specs.Prelude.{position, ◌==◌, nat_lt}
use Rattle.std.proofs.lemmas.Option.{cond_some}
use Rattle.std.proofs.lemmas.Bool.{eqb-true}
use borrow.Author.Tests.{ltb-true, ltb-false}
use Rattle.std.proofs.Common.{length-take}
use Rattle.std.proofs.lemmas.List.{get_or-take}
use Rattle.std.proofs.Math.Numerals.{one-add}
use Rattle.std.specs.List.{position_or_len}
use Rattle.std.proofs.lemmas.List.Sums.{split_at_first, fails_before_first, passes_at_first}
use Rattle.definitions.specs.Bytes.{Delims, is_line_end}
use Rattle.definitions.specs.Cut.{Pieces, pieces_from, cut, elements, skipped}

-- Up to the terminator stands the first piece.
pub pieces_append : (d : Delims) (a more : List ℕ) → ((k : ℕ) → k < length a → eqb (get_or a k 0) d.terminator ≡ false)
    → pieces_from d false (a ++ d.terminator ∷ more) ≡ record { whole = a ∷ (pieces_from d true more).whole; rest = (pieces_from d true more).rest }
pieces_append d [] more h =
    let same : eqb d.terminator d.terminator ≡ true = eq-eqb d.terminator d.terminator refl in
    rw same refl
pieces_append d (b ∷ a) more h =
    let here : eqb b d.terminator ≡ false = h 0 (omega arith) in
    let ih = pieces_append d a more (λ k lt. h (suc k) (omega arith)) in
    rw (here, ih) refl

-- Without a terminator all is rest.
pub pieces_none : (d : Delims) (a : List ℕ) → ((k : ℕ) → k < length a → eqb (get_or a k 0) d.terminator ≡ false)
    → pieces_from d false a ≡ record { whole = []; rest = a }
pieces_none d [] h = refl
pieces_none d (b ∷ a) h =
    let here : eqb b d.terminator ≡ false = h 0 (omega arith) in
    let ih = pieces_none d a (λ k lt. h (suc k) (omega arith)) in
    rw (here, ih) refl

-- After a terminator CR and LF don't count.
pub pieces_skipped : (d : Delims) (a : List ℕ) → pieces_from d true a ≡ pieces_from d false (skipped a)
pieces_skipped d [] = refl
pieces_skipped d (b ∷ a) = by_test (is_line_end b) refl (pieces_skipped d a)
  where
    by_test : (t : Bool) → is_line_end b ≡ t → pieces_from d true a ≡ pieces_from d false (skipped a) → pieces_from d true (b ∷ a) ≡ pieces_from d false (skipped (b ∷ a))
    by_test true e ih = rw (e, one-add) ih
    by_test false e ih = rw e refl

abbrev ends : Delims → ℕ → Bool
ends d b = b == d.terminator

-- Where a terminator stands first, the first segment is what stands before it, and the cut goes on
-- after it and its CR and LF.
pub cut_at : (d : Delims) (text a more : List ℕ) → text ≡ a ++ d.terminator ∷ more → ((k : ℕ) → k < length a → eqb (get_or a k 0) d.terminator ≡ false)
    → cut d text ≡ record { segments = elements d a ∷ (cut d (skipped more)).segments; rest = (cut d (skipped more)).rest }
cut_at d text a more e h =
    let first = pieces_append d a more h in
    rw (e, first, pieces_skipped d more) refl

pub cut_first : (d : Delims) (text : List ℕ) (i : ℕ) → position (λ b. b == d.terminator) text ≡ Some i
    → cut d text ≡ record { segments = elements d (take i text) ∷ (cut d (skipped (drop (i + 1) text))).segments; rest = (cut d (skipped (drop (i + 1) text))).rest }
cut_first d text i e = by_parts (cond_some (nat_lt (position_or_len (ends d) text) (length text)) (position_or_len (ends d) text) i e)
  where
    by_parts : (nat_lt (position_or_len (ends d) text) (length text) ≡ true) × (position_or_len (ends d) text ≡ i)
        → cut d text ≡ record { segments = elements d (take i text) ∷ (cut d (skipped (drop (i + 1) text))).segments; rest = (cut d (skipped (drop (i + 1) text))).rest }
    by_parts h =
        let inside : position_or_len (ends d) text < length text = ltb-true (position_or_len (ends d) text) (length text) h.0 in
        let at : get_or text (position_or_len (ends d) text) 0 ≡ d.terminator = eqb-true (get_or text (position_or_len (ends d) text) 0) d.terminator (passes_at_first (ends d) text 0 inside) in
        let whole = split_at_first (ends d) text 0 inside in
        rw (← h.1) (cut_at d text (take (position_or_len (ends d) text) text) (drop (position_or_len (ends d) text + 1) text) (rw at at whole)
        (λ k lt. let low : k < position_or_len (ends d) text = omega (arith, length-take {A = ℕ}) in rw (get_or-take (position_or_len (ends d) text) text k 0 low) (fails_before_first (ends d) text k 0 low)))

-- Where no terminator stands, all is rest.
pub cut_none : (d : Delims) (text : List ℕ) → position (λ b. b == d.terminator) text ≡ None → cut d text ≡ record { segments = []; rest = text }
cut_none d text e =
    let past : length text ≤ position_or_len (ends d) text = by_test (nat_lt (position_or_len (ends d) text) (length text)) refl e in
    ap (λ (p : Pieces). record { segments = map (elements d) p.whole; rest = p.rest }) (pieces_none d text (λ k lt. fails_before_first (ends d) text k 0 (omega arith)))
  where
    by_test : (b : Bool) → nat_lt (position_or_len (ends d) text) (length text) ≡ b → cond b (Some (position_or_len (ends d) text)) None ≡ None → length text ≤ position_or_len (ends d) text
    by_test true t f = absurd (cc)
    by_test false t f = ltb-false (position_or_len (ends d) text) (length text) t
