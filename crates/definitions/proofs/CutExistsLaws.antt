-- What the function gives is a cut.
use Rattle.std.proofs.Common.{◌≡◌, ℕ, ◌+◌, ◌<◌, ◌≤◌, Bool, true, false, not, eqb, List, [], ◌∷◌, ◌++◌, length, get_or, take, drop, map, refl, sym, ◌∙◌, ap, arith, suc, zero, append_assoc, subst, length-drop, length-take}
use Rattle.std.specs.Prelude.{◌==◌, nat_lt}
use Rattle.std.specs.List.{list_all, slice_split, position_or_len}
use Rattle.std.proofs.lemmas.List.{take-append-drop, get_or-take}
use Rattle.std.proofs.lemmas.List.Sums.{list_all-from_AllPass, fails_before_first, split_at_first, passes_at_first}
use Rattle.std.proofs.lemmas.Bool.{eqb-true}
use borrow.Author.Tests.{ltb-true, ltb-false}
use Rattle.definitions.specs.Bytes.{Delims, is_line_end}
use Rattle.definitions.specs.Cut.{Pieces, cut, elements, skipped, Cut, IsCut, IsSegment, joined, spelled, StartsClean}
use Rattle.definitions.proofs.CutLaws.{cut_at, pieces_none}
use Rattle.std.proofs.Math.Numerals.{one-add}
use Rattle.std.proofs.lemmas.List.Splits.{length-slice_split}

ends : Delims → ℕ → Bool
ends d b = b == d.terminator

-- ---- elements joined are the text

joined_at : (c : ℕ) (b : ℕ) (bs : List ℕ) (t : Bool) → (b == c) ≡ t → (parts : List (List ℕ)) → slice_split (λ x. x == c) bs ≡ parts → joined c parts ≡ bs
    → joined c (slice_split (λ x. x == c) (b ∷ bs)) ≡ b ∷ bs
joined_at c b bs true e [] p h = absurd (omega (arith, length-slice_split (λ x. x == c) bs, ap length p))
joined_at c b bs true e (x ∷ xs) p h = let same : b ≡ c = eqb-true b c e in rw (e, p) (ap (λ ys. c ∷ ys) h ∙ ap (λ y. y ∷ bs) (sym same))
joined_at c b bs false e [] p h = absurd (omega (arith, length-slice_split (λ x. x == c) bs, ap length p))
joined_at c b bs false e (x ∷ xs) p h = rw (e, p) (ap (λ ys. b ∷ ys) h)

pub joined-elements : (c : ℕ) (bs : List ℕ) → joined c (slice_split (λ x. x == c) bs) ≡ bs
joined-elements c [] = refl
joined-elements c (b ∷ bs) = joined_at c b bs (b == c) refl (slice_split (λ x. x == c) bs) refl (joined-elements c bs)

-- ---- elements hold no delimiter

segment_at : (d : Delims) (b : ℕ) (bs : List ℕ) (t : Bool) → (b == d.separator) ≡ t → (b == d.terminator) ≡ false → (parts : List (List ℕ)) → elements d bs ≡ parts → IsSegment d parts → IsSegment d (elements d (b ∷ bs))
segment_at d b bs t e n [] p h = absurd h
segment_at d b bs true e n (x ∷ xs) p h = rw (e, p) h
segment_at d b bs false e n (x ∷ xs) p h = rw (e, p, n, e) h

pub segment_elements : (d : Delims) (bs : List ℕ) → ((k : ℕ) → k < length bs → eqb (get_or bs k 0) d.terminator ≡ false) → IsSegment d (elements d bs)
segment_elements d [] h = refl
segment_elements d (b ∷ bs) h = segment_at d b bs (b == d.separator) refl (h 0 (omega arith)) (elements d bs) refl (segment_elements d bs (λ k lt. h (suc k) (omega arith)))

-- ---- the run that is skipped

pub starts_skipped : (text : List ℕ) → StartsClean (skipped text)
starts_skipped [] = tt
starts_skipped (b ∷ bs) = by_test (is_line_end b) refl (starts_skipped bs)
  where
    by_test : (t : Bool) → is_line_end b ≡ t → StartsClean (skipped bs) → StartsClean (skipped (b ∷ bs))
    by_test true e ih = rw (e, one-add) ih
    by_test false e ih = rw e e

pub run_skipped : (text : List ℕ) → list_all is_line_end (take (position_or_len (λ b. not (is_line_end b)) text) text) ≡ true
run_skipped [] = refl
run_skipped (b ∷ bs) = by_test (is_line_end b) refl (run_skipped bs)
  where
    by_test : (t : Bool) → is_line_end b ≡ t → list_all is_line_end (take (position_or_len (λ c. not (is_line_end c)) bs) bs) ≡ true → list_all is_line_end (take (position_or_len (λ c. not (is_line_end c)) (b ∷ bs)) (b ∷ bs)) ≡ true
    by_test true e ih = rw (e, one-add, e) ih
    by_test false e ih = rw e refl

-- ---- the whole

cut_step : (d : Delims) (text : List ℕ) → ((more : List ℕ) → length more < length text → IsCut d more ((cut d more).segments) ((cut d more).rest))
    → IsCut d text ((cut d text).segments) ((cut d text).rest)
cut_step d text ih = by_test (nat_lt (position_or_len (λ b. b == d.terminator) text) (length text)) refl
  where
    by_test : (t : Bool) → nat_lt (position_or_len (λ b. b == d.terminator) text) (length text) ≡ t → IsCut d text ((cut d text).segments) ((cut d text).rest)
    by_test true t =
        let p : ℕ → Bool = λ b. b == d.terminator in
        let k = position_or_len p text in
        let inside : k < length text = ltb-true k (length text) t in
        let at : get_or text k 0 ≡ d.terminator = eqb-true (get_or text k 0) d.terminator (passes_at_first p text 0 inside) in
        let a = take k text in
        let m = drop (k + 1) text in
        let whole : text ≡ a ++ d.terminator ∷ m = rw at at (split_at_first p text 0 inside) in
        let lacks : (j : ℕ) → j < length a → eqb (get_or a j 0) d.terminator ≡ false = λ j lt. (let low : j < k = omega (arith, length-take {A = ℕ}) in rw (get_or-take k text j 0 low) (fails_before_first p text j 0 low)) in
        let r = position_or_len (λ b. not (is_line_end b)) m in
        let spelled_so : text ≡ spelled d (elements d a) ++ (take r m ++ skipped m) = rw (joined-elements d.separator a, take-append-drop r m, append_assoc) whole in
        let shorter : length (skipped m) < length text = omega (arith, length-drop {A = ℕ}) in
        subst (λ (x : Cut). IsCut d text x.segments x.rest) (sym (cut_at d text a m whole lacks))
        (take r m, skipped m, spelled_so, segment_elements d a lacks, run_skipped m, starts_skipped m, ih (skipped m) shorter)
    by_test false t =
        let p : ℕ → Bool = λ b. b == d.terminator in
        let past : length text ≤ position_or_len p text = ltb-false (position_or_len p text) (length text) t in
        let none : cut d text ≡ record { segments = []; rest = text } = ap (λ (x : Pieces). record { segments = map (elements d) x.whole; rest = x.rest }) (pieces_none d text (λ k lt. fails_before_first p text k 0 (omega arith))) in
        subst (λ (x : Cut). IsCut d text x.segments x.rest) (sym none)
        (refl, list_all-from_AllPass (λ b. not (b == d.terminator)) text (λ k z lt. ap not (fails_before_first p text k z (omega arith))))

pub cut_is : (n : ℕ) (d : Delims) (text : List ℕ) → length text ≤ n → IsCut d text ((cut d text).segments) ((cut d text).rest)
cut_is zero d text small = cut_step d text (λ more lt. absurd (omega arith))
cut_is (suc n) d text small = cut_step d text (λ more lt. cut_is n d more (omega arith))
