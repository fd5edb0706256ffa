-- What the places that code finds say.
use Rattle.std.proofs.Common.{◌≡◌, ℕ, ◌++◌, sym, subst, ◌+◌, ◌≤◌, Bool, true, false, cond, not, List, [], ◌∷◌, length, take, drop, refl, ◌∙◌, ap, arith, Some, None}
use Rattle.std.specs.Prelude.{position, nat_lt, IsTrue}
use Rattle.std.specs.List.{position_or_len, list_all}
use Rattle.std.proofs.lemmas.Option.{cond_some}
use borrow.Author.Tests.{ltb-true, ltb-false}
use Rattle.std.proofs.Common.{length-drop}
use Rattle.std.proofs.lemmas.List.{nil_from_length, take_all}
use Rattle.definitions.specs.Bytes.{is_line_end}
use Rattle.std.proofs.Common.{◌-◌}
use Rattle.std.specs.Prelude.{◌==◌}
use Rattle.std.specs.List.{slice_split}
use Rattle.definitions.specs.Bytes.{Delims}
use Rattle.definitions.specs.Cut.{skipped, cut, Cut, Segment, Piece, spelled, StartsClean, Uncut, GivesSegment, pieces_left}
use Rattle.definitions.proofs.CutLaws.{cut_first, cut_none}
use Rattle.definitions.proofs.CutExistsLaws.{joined-elements, run_skipped, starts_skipped}
use Rattle.std.proofs.lemmas.List.{take-append-drop}
use Rattle.std.proofs.lemmas.List.Sums.{split_at_first, passes_at_first}
use Rattle.std.proofs.lemmas.Bool.{eqb-true}
use Rattle.std.proofs.Common.{map, append_assoc, get_or, ◌<◌}

abbrev inside : ℕ → Bool
inside b = not (is_line_end b)

pub skipped_some : (text : List ℕ) (i : ℕ) → position (λ b. not (is_line_end b)) text ≡ Some i → skipped text ≡ drop i text
skipped_some text i e = ap (λ k. drop k text) ((cond_some (nat_lt (position_or_len inside text) (length text)) (position_or_len inside text) i e).1)

pub skipped_none : (text : List ℕ) → position (λ b. not (is_line_end b)) text ≡ None → skipped text ≡ []
skipped_none text e =
    let past : length text ≤ position_or_len inside text = by_test (nat_lt (position_or_len inside text) (length text)) refl e in
    nil_from_length (drop (position_or_len inside text) text) (omega (arith, length-drop {A = ℕ}))
  where
    by_test : (b : Bool) → nat_lt (position_or_len inside text) (length text) ≡ b → cond b (Some (position_or_len inside text)) None ≡ None → length text ≤ position_or_len inside text
    by_test true t f = absurd (cc)
    by_test false t f = ltb-false (position_or_len inside text) (length text) t

-- The text is the spelled segment before its first terminator, and what stands after it.
spelled_first : (d : Delims) (text : List ℕ) (i : ℕ) → position (λ b. b == d.terminator) text ≡ Some i
    → text ≡ spelled d (slice_split (λ b. b == d.separator) (take i text)) ++ drop (i + 1) text
spelled_first d text i e = by_parts (cond_some (nat_lt (position_or_len ends text) (length text)) (position_or_len ends text) i e)
  where
    ends : ℕ → Bool
    ends b = b == d.terminator

    by_parts : (nat_lt (position_or_len ends text) (length text) ≡ true) × (position_or_len ends text ≡ i)
        → text ≡ spelled d (slice_split (λ b. b == d.separator) (take i text)) ++ drop (i + 1) text
    by_parts h =
        let inside : position_or_len ends text < length text = ltb-true (position_or_len ends text) (length text) h.0 in
        let at : get_or text (position_or_len ends text) 0 ≡ d.terminator = eqb-true (get_or text (position_or_len ends text) 0) d.terminator (passes_at_first ends text 0 inside) in
        let whole : text ≡ take (position_or_len ends text) text ++ d.terminator ∷ drop (position_or_len ends text + 1) text = rw at at (split_at_first ends text 0 inside) in
        rw (← h.1, joined-elements d.separator (take (position_or_len ends text) text), append_assoc) whole

-- What the code found at the first terminator gives the cut.
pub first_some : (d : Delims) (text after : List ℕ) (i t : ℕ) (segment : Piece) → t ≡ d.terminator
    → position (λ b. b == t) text ≡ Some i → after ≡ skipped (take (length text - (i + 1)) (drop (i + 1) text))
    → segment ≡ record { delims = d; elements = slice_split (λ b. b == d.separator) (take i text) }
    → (segment.delims ≡ d) × ((cut d text).segments ≡ segment.elements ∷ (cut d after).segments) × ((cut d text).rest ≡ (cut d after).rest)
    × ((skip : List ℕ) × (text ≡ spelled d segment.elements ++ (skip ++ after)) × IsTrue (list_all is_line_end skip) × StartsClean after)
first_some d text after i t segment et at eb eg =
    let at' = rw et at at in
    let m = drop (i + 1) text in
    let r = position_or_len (λ b. not (is_line_end b)) m in
    let all : take (length text - (i + 1)) m ≡ m = take_all (length text - (i + 1)) m (omega (arith, length-drop {A = ℕ})) in
    let after_is : after ≡ skipped m = rw (eb, all) refl in
    let elements_are : segment.elements ≡ slice_split (λ b. b == d.separator) (take i text) = ap (λ (p : Piece). p.elements) eg in
    let first = cut_first d text i at' in
    let run : text ≡ spelled d segment.elements ++ (take r m ++ after) = rw (elements_are, after_is, take-append-drop r m) (spelled_first d text i at') in (
      ap (λ (p : Piece). p.delims) eg,
      ap (λ (c : Cut). c.segments) first ∙ rw (elements_are, after_is) refl,
      ap (λ (c : Cut). c.rest) first ∙ rw after_is refl,
      (take r m, run, run_skipped m, subst StartsClean (sym after_is) (starts_skipped m)),
    )

pub first_none : (d : Delims) (text : List ℕ) (t : ℕ) → t ≡ d.terminator → position (λ b. b == t) text ≡ None
    → ((cut d text).segments ≡ []) × ((cut d text).rest ≡ text)
first_none d text t et at =
    let none = cut_none d text (rw et at at) in
    (ap (λ (c : Cut). c.segments) none, ap (λ (c : Cut). c.rest) none)

-- A segment and the text after it are what a call may give.
pub gives_first : (s : Uncut) (after : List ℕ) (p : Piece)
    → (p.delims ≡ s.delims) × ((cut s.delims s.text).segments ≡ p.elements ∷ (cut s.delims after).segments) × ((cut s.delims s.text).rest ≡ (cut s.delims after).rest)
    × ((skip : List ℕ) × (s.text ≡ spelled s.delims p.elements ++ (skip ++ after)) × IsTrue (list_all is_line_end skip) × StartsClean after)
    → GivesSegment s (Some p) (record { delims = s.delims; text = after })
gives_first s after p (same, first, rest, (skip, run, ends, clean)) =
    let head : record { delims = s.delims; elements = p.elements } ≡ p = ap (λ (d : Delims). record { delims = d; elements = p.elements }) (sym same) in
    let all : pieces_left s ≡ record { delims = s.delims; elements = p.elements } ∷ pieces_left (record { delims = s.delims; text = after }) =
    ap (λ (ss : List Segment). map (λ es. record { delims = s.delims; elements = es }) ss) first in
    (all ∙ ap (λ (q : Piece). q ∷ pieces_left (record { delims = s.delims; text = after })) head, sym rest, tt, (refl, skip, run, ends, clean))
