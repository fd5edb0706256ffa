-- A text has one cut.
use Rattle.std.proofs.Common.{◌≡◌, ℕ, Bool, true, false, not, List, [], ◌∷◌, ◌++◌, get_or, refl, ◌∙◌, ap, arith, suc, zero, append_assoc, eq-eqb}
use Rattle.std.proofs.Math.Numerals.{one-add}
use Rattle.std.proofs.lemmas.List.Elements.{All-append}
use Rattle.std.specs.Prelude.{flat_map, ◌==◌, ◌&&◌, ◌||◌}
use Rattle.std.specs.List.{AllByRecursion, list_all, All}
use Rattle.std.proofs.lemmas.List.{append-nil}
use Rattle.std.proofs.lemmas.List.Sums.{AllPass-from_list_all}
use Rattle.std.proofs.lemmas.List.Splits.{slice_split_none, slice_split_at}
use Rattle.definitions.specs.Bytes.{Delims, is_line_end}
use Rattle.definitions.specs.Cut.{cut, elements, skipped, Cut, Segment, IsCut, is_inside, joined, spelled, StartsClean, IsWritten}
use Rattle.definitions.proofs.CutLaws.{cut_at, pieces_none}

-- ---- tests

not_true : (b : Bool) → not b ≡ true → b ≡ false
not_true true h = cc
not_true false h = refl

pub both : (a b : Bool) → (a && b) ≡ true → (a ≡ true) × (b ≡ true)
both true b h = (refl, h)
both false b h = absurd (cc)

or_false : (a b : Bool) → not (a || b) ≡ true → (a ≡ false) × (b ≡ false)
or_false true b h = absurd (cc)
or_false false b h = (refl, not_true b h)

-- the test that fails at each element
fails_each : (p : ℕ → Bool) (xs : List ℕ) → list_all (λ b. not (p b)) xs ≡ true → All (λ b. p b ≡ false) xs
fails_each p xs h = λ k d lt. not_true (p (get_or xs k d)) (AllPass-from_list_all (λ b. not (p b)) xs h k d lt)

-- ---- the bytes of a segment

inside_lacks : (d : Delims) (e : List ℕ) → list_all (is_inside d) e ≡ true → All (λ b. (b == d.separator) ≡ false) e × All (λ b. (b == d.terminator) ≡ false) e
inside_lacks d e h = (
  λ k z lt. (or_false (get_or e k z == d.separator) (get_or e k z == d.terminator) (AllPass-from_list_all (is_inside d) e h k z lt)).0,
  λ k z lt. (or_false (get_or e k z == d.separator) (get_or e k z == d.terminator) (AllPass-from_list_all (is_inside d) e h k z lt)).1,
)

-- the elements of joined elements
pub elements-joined : (d : Delims) (e : List ℕ) (es : List (List ℕ)) → list_all (list_all (is_inside d)) (e ∷ es) ≡ true → elements d (joined d.separator (e ∷ es)) ≡ e ∷ es
elements-joined d e [] h =
    let parts = both (list_all (is_inside d) e) true h in
    rw append-nil (slice_split_none (λ b. b == d.separator) e ((inside_lacks d e parts.0).0))
elements-joined d e (x ∷ xs) h =
    let parts = both (list_all (is_inside d) e) (list_all (list_all (is_inside d)) (x ∷ xs)) h in
    let ih = elements-joined d x xs parts.1 in
    slice_split_at (λ b. b == d.separator) e d.separator (x ++ flat_map (λ y. d.separator ∷ y) xs) ((inside_lacks d e parts.0).0) (eq-eqb d.separator d.separator refl) ∙ ap (λ ys. e ∷ ys) ih

-- joined elements lack the terminator
joined_lacks : (d : Delims) (e : List ℕ) (es : List (List ℕ)) → (d.separator == d.terminator) ≡ false → list_all (list_all (is_inside d)) (e ∷ es) ≡ true
    → All (λ b. (b == d.terminator) ≡ false) (joined d.separator (e ∷ es))
joined_lacks d e [] neq h =
    let parts = both (list_all (is_inside d) e) true h in
    rw append-nil ((inside_lacks d e parts.0).1)
joined_lacks d e (x ∷ xs) neq h =
    let parts = both (list_all (is_inside d) e) (list_all (list_all (is_inside d)) (x ∷ xs)) h in
    All-append (λ b. (b == d.terminator) ≡ false) e (d.separator ∷ joined d.separator (x ∷ xs)) ((inside_lacks d e parts.0).1)
    (All-append (λ b. (b == d.terminator) ≡ false) (d.separator ∷ []) (joined d.separator (x ∷ xs)) (one_lacks d.separator neq) (joined_lacks d x xs neq parts.1))
  where
    one_lacks : (b : ℕ) → (b == d.terminator) ≡ false → All (λ c. (c == d.terminator) ≡ false) (b ∷ [])
    one_lacks b n zero z lt = n
    one_lacks b n (suc k) z lt = absurd (omega arith)

-- a run of CR and LF in front of what begins with neither is skipped
skipped_run : (skip more : List ℕ) → list_all is_line_end skip ≡ true → StartsClean more → skipped (skip ++ more) ≡ more
skipped_run [] [] h clean = refl
skipped_run [] (b ∷ bs) h clean = rw clean refl
skipped_run (x ∷ skip) more h clean =
    let parts = both (is_line_end x) (list_all is_line_end skip) h in
    let here : is_line_end x ≡ true = parts.0 in
    let ih = skipped_run skip more parts.1 clean in
    rw (here, one-add) ih

pub cut_unique : (d : Delims) (text : List ℕ) (ss : List Segment) (rest : List ℕ) → (d.separator == d.terminator) ≡ false → IsCut d text ss rest → cut d text ≡ record { segments = ss; rest = rest }
cut_unique d text [] rest neq h =
    let none = pieces_none d rest (λ k lt. fails_each (λ b. b == d.terminator) rest h.1 k 0 lt) in
    rw (h.0, none) refl
cut_unique d text ([] ∷ ss) rest neq h = absurd h.3
cut_unique d text ((e ∷ es) ∷ ss) rest neq h =
    let ih = cut_unique d h.1 ss rest neq h.6 in
    let first = cut_at d text (joined d.separator (e ∷ es)) (h.0 ++ h.1) (h.2 ∙ append_assoc (joined d.separator (e ∷ es)) (d.terminator ∷ []) (h.0 ++ h.1)) (λ k lt. joined_lacks d e es neq h.3 k 0 lt) in
    first ∙ rw (elements-joined d e es h.3, skipped_run h.0 h.1 h.4 h.5) (ap (λ (c : Cut). record { segments = (e ∷ es) ∷ c.segments; rest = c.rest }) ih)

-- ---- what was written

starts_front : (a more : List ℕ) (t : ℕ) → StartsClean (a ++ t ∷ []) → StartsClean ((a ++ t ∷ []) ++ more)
starts_front [] more t h = h
starts_front (b ∷ a) more t h = h

starts_all : (d : Delims) (ss : List Segment) → AllByRecursion (IsWritten d) ss → StartsClean (flat_map (spelled d) ss)
starts_all d [] h = tt
starts_all d (s ∷ ss) h = starts_front (joined d.separator s) (flat_map (spelled d) ss) d.terminator h.0.1

pub written_cut : (d : Delims) (ss : List Segment) → AllByRecursion (IsWritten d) ss → IsCut d (flat_map (spelled d) ss) ss []
written_cut d [] h = (refl, refl)
written_cut d (s ∷ ss) h = ([], flat_map (spelled d) ss, refl, h.0.0, refl, starts_all d ss h.1, written_cut d ss h.1)

-- Segments that were written are the one cut of their text.
pub written_again : (d : Delims) (ss : List Segment) → (d.separator == d.terminator) ≡ false → AllByRecursion (IsWritten d) ss
    → cut d (flat_map (spelled d) ss) ≡ record { segments = ss; rest = [] }
written_again d ss neq h = cut_unique d (flat_map (spelled d) ss) ss [] neq (written_cut d ss h)
