-- The pieces of a text.
use Rattle.std.proofs.Common.{◌≡◌, ℕ, ◌≤◌, suc, Bool, false, List, [], ◌∷◌, length, refl, sym, ◌∙◌, ap, arith, subst, map}
use Rattle.std.proofs.lemmas.List.{length-map}
use Rattle.definitions.specs.Bytes.{Delims}
use Rattle.definitions.specs.Cut.{Segment, Piece, Pieces, Role, Skipped, Ends, Inside, AreOf, cut, elements, onto, put, role, is_outside, pieces_from, pieces_left, segments_of}
use Rattle.envelope.specs.Parts.{piece}

elements_again : (d : Delims) (ss : List Segment) → segments_of (map (piece d) ss) ≡ ss
elements_again d [] = refl
elements_again d (s ∷ ss) = ap (λ (ts : List Segment). s ∷ ts) (elements_again d ss)

all_same : (d : Delims) (ss : List Segment) → AreOf d (map (piece d) ss)
all_same d [] = tt
all_same d (s ∷ ss) = (refl, all_same d ss)

onto_length : (b : ℕ) (ps : List (List ℕ)) (rest : List ℕ) → length (onto b ps rest).whole ≡ length ps
onto_length b [] rest = refl
onto_length b (p ∷ ps) rest = refl

put_length : (r : Role) (b : ℕ) (p : Pieces) → length (put r b p).whole ≤ suc (length p.whole)
put_length Skipped b p = omega arith
put_length Ends b p = omega arith
put_length Inside b p = omega (arith, onto_length b p.whole p.rest)

whole_length : (d : Delims) (after : Bool) (text : List ℕ) → length (pieces_from d after text).whole ≤ length text
whole_length d after [] = omega arith
whole_length d after (b ∷ bs) =
    let outside = is_outside (role d after b) in
    let tail : length (pieces_from d outside bs).whole ≤ length bs = whole_length d outside bs in
    let one : length (put (role d after b) b (pieces_from d outside bs)).whole ≤ suc (length (pieces_from d outside bs).whole) = put_length (role d after b) b (pieces_from d outside bs) in
    omega (arith, tail, one)

pub pieces_elements : (d : Delims) (text : List ℕ) (ps : List Piece) → ps ≡ pieces_left (record { delims = d; text = text }) → segments_of ps ≡ (cut d text).segments
pieces_elements d text ps e = ap segments_of e ∙ elements_again d (cut d text).segments

pub pieces_same : (d : Delims) (text : List ℕ) (ps : List Piece) → ps ≡ pieces_left (record { delims = d; text = text }) → AreOf d ps
pieces_same d text ps e = subst (AreOf d) (sym e) (all_same d (cut d text).segments)

pub pieces_few : (d : Delims) (text : List ℕ) (ps : List Piece) → ps ≡ pieces_left (record { delims = d; text = text }) → length ps ≤ length text
pieces_few d text ps e =
    omega (arith, ap length e, length-map (cut d text).segments (piece d), length-map (pieces_from d false text).whole (elements d), whole_length d false text)
