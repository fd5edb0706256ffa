-- A loop that pushes what it makes: what is made and what is left are the whole.
use Rattle.std.proofs.Common.{◌≡◌, ℕ, ◌+◌, ◌<◌, List, [], ◌∷◌, ◌++◌, map, length, get_or, take, drop, sym, ◌∙◌, ap, append_assoc, zero, suc, arith}
use Rattle.std.proofs.lemmas.List.{append-nil}
use Rattle.definitions.specs.Bytes.{Delims}
use Rattle.definitions.specs.Cut.{Piece, AreOf}
use Rattle.envelope.proofs.Framing.{take_of}

pub pushed : {X : Type 0} (made now left rest whole : List X) (x : X) → now ≡ made ++ x ∷ [] → left ≡ x ∷ rest → made ++ left ≡ whole → now ++ rest ≡ whole
pushed made now left rest whole x n l w =
    ap (λ ys. ys ++ rest) n ∙ (append_assoc made (x ∷ []) rest ∙ (ap (λ ys. made ++ ys) (sym l) ∙ w))

pub all_made : {X : Type 0} (made left whole : List X) → left ≡ [] → made ++ left ≡ whole → made ≡ whole
all_made made left whole l w = sym (append-nil made) ∙ (ap (λ ys. made ++ ys) (sym l) ∙ w)

-- what was made of the first run
pub run_made : {Y : Type 0} (f : (Piece × List Piece) → Y) (runs later : List (Piece × List Piece)) (p q : Piece) (ps : List Piece) (y : Y)
    → runs ≡ (p, ps) ∷ later → q ≡ p → y ≡ f (q, ps) → map f runs ≡ y ∷ map f later
run_made f runs later p q ps y r e m =
    ap (map f) r ∙ ap (λ z. z ∷ map f later) (ap (λ (x : Piece). f (x, ps)) (sym e) ∙ sym m)

delims_at : (d : Delims) (ps : List Piece) (i : ℕ) (p : Piece) → AreOf d ps → i < length ps → (get_or ps i p).delims ≡ d
delims_at d [] i p h l = absurd (omega arith)
delims_at d (q ∷ ps) zero p h l = h.0
delims_at d (q ∷ ps) (suc i) p h l = delims_at d ps i p h.1 (omega arith)

drop_of : (d : Delims) (n : ℕ) (ps : List Piece) → AreOf d ps → AreOf d (drop n ps)
drop_of d zero ps h = h
drop_of d (suc n) [] h = tt
drop_of d (suc n) (p ∷ ps) h = drop_of d n ps h.1

-- the pieces of a run are of the text, as all are
pub run_of : (d : Delims) (ps : List Piece) (i n : ℕ) (p : Piece) → AreOf d ps → i < length ps → p ≡ get_or ps i p → AreOf d (p ∷ take n (drop (i + 1) ps))
run_of d ps i n p h l e = (
  ap (λ (q : Piece). q.delims) e ∙ delims_at d ps i p h l,
  take_of d n (drop (i + 1) ps) (drop_of d (i + 1) ps h),
)
