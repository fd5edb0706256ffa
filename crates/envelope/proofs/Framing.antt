-- What is true of a set that was made of its run.
use Rattle.std.proofs.Common.{◌≡◌, ℕ, zero, suc, ◌+◌, ◌<◌, Bool, true, false, List, [], ◌∷◌, length, take, refl, sym, ◌∙◌, subst, ap, arith, length-take}
use Rattle.std.specs.Prelude.{if◌then◌else◌, codes, bytes_eq}
use Rattle.std.specs.List.{position_or_len, list_any}
use Rattle.std.proofs.lemmas.Slice.Eq.{bytes_eq-Decides}
use Rattle.definitions.specs.Limits.{most_bytes}
use Rattle.definitions.specs.Bytes.{Delims}
use Rattle.definitions.specs.Cut.{Segment, Piece, AreOf, id_of, has_id, segments_of}
use Rattle.definitions.specs.Structure.{Set, set_of}
use Rattle.envelope.proofs.Bared.{through_bare}
use Rattle.envelope.specs.Parts.{IsFramed, AreKept, marked, bare}

pub take_of : (d : Delims) (n : ℕ) (ps : List Piece) → AreOf d ps → AreOf d (take n ps)
take_of d zero ps h = tt
take_of d (suc n) [] h = tt
take_of d (suc n) (p ∷ ps) h = (h.0, take_of d n ps h.1)

place_here : (p : Segment → Bool) (x : Segment) (xs : List Segment) → p x ≡ true → position_or_len p (x ∷ xs) ≡ 0
place_here p x xs t = rw t refl

place_later : (p : Segment → Bool) (x : Segment) (xs : List Segment) → p x ≡ false → position_or_len p (x ∷ xs) ≡ suc (position_or_len p xs)
place_later p x xs t = rw t (omega arith)

-- what stands through the first that passes ends there
EndsThere : (p : Segment → Bool) (xs through : List Segment) → Type 0
EndsThere p xs through = position_or_len p through + (if list_any p xs then 1 else 0) ≡ length through

ends_there : (p : Segment → Bool) (xs : List Segment) → EndsThere p xs (take (position_or_len p xs + 1) xs)
unfolding EndsThere
ends_there p [] = refl
ends_there p (x ∷ xs) = by_test (p x) refl (ends_there p xs)
  where
    by_test : (b : Bool) → p x ≡ b → EndsThere p xs (take (position_or_len p xs + 1) xs) → EndsThere p (x ∷ xs) (take (position_or_len p (x ∷ xs) + 1) (x ∷ xs))
    by_test true t ih =
        let some : list_any p (x ∷ xs) ≡ true = rw t refl in
        subst (EndsThere p (x ∷ xs)) (sym (ap (λ n. take (n + 1) (x ∷ xs)) (place_here p x xs t)))
        (omega (arith, place_here p x [] t, ap {B = ℕ} (λ (b : Bool). if b then 1 else 0) some))
    by_test false t ih =
        let same : list_any p (x ∷ xs) ≡ list_any p xs = rw t refl in
        let more : take (position_or_len p (x ∷ xs) + 1) (x ∷ xs) ≡ x ∷ take (position_or_len p xs + 1) xs =
        ap (λ n. take n (x ∷ xs)) (let e = place_later p x xs t in let n : position_or_len p (x ∷ xs) + 1 ≡ suc (position_or_len p xs + 1) = omega (arith, e) in n) in
        subst (EndsThere p (x ∷ xs)) (sym more)
        (omega (arith, ih, place_later p x (take (position_or_len p xs + 1) xs) t, ap {B = ℕ} (λ (b : Bool). if b then 1 else 0) same))

is_code : (id text : List ℕ) → bytes_eq text id ≡ true → text ≡ id
is_code id text h = (bytes_eq-Decides text id).0 h

no_end : (s : Segment) → has_id (codes "ST") s ≡ true → has_id (codes "SE") s ≡ false
no_end s h = ap (λ (t : List ℕ). bytes_eq t (codes "SE")) (is_code (codes "ST") (id_of s) h)

framed : (s : Segment) (ss : List Segment) → has_id (codes "ST") s ≡ true → IsFramed (set_of (s, ss))
unfolding EndsThere
framed s ss h = record {
  begins = h;
  ends = omega (
    arith,
    ends_there (has_id (codes "SE")) ss,
    place_later (has_id (codes "SE")) s (take (position_or_len (has_id (codes "SE")) ss + 1) ss) (no_end s h),
  );
}

set_is : (ss ts : List Segment) (a b : Bool) → ss ≡ ts → a ≡ b → (let s : Set = record { segments = ss; is_closed = a } in let t : Set = record { segments = ts; is_closed = b } in s ≡ t)
set_is ss ts a b e f = cc

pub kept : (d : Delims) (head : Piece) (others items : List Piece) (is_closed : Bool) → AreOf d (head ∷ others)
    → has_id (codes "ST") head.elements ≡ true → length others < most_bytes → items ≡ head ∷ take (position_or_len (marked (codes "SE")) others + 1) others
    → is_closed ≡ list_any (has_id (codes "SE")) (segments_of others)
    → AreKept d items is_closed × (let s : Set = record { segments = segments_of items; is_closed = is_closed } in s ≡ set_of (bare (head, others)))
kept d head others items is_closed h begins few ei ec =
    let place = position_or_len (marked (codes "SE")) others in
    let same : AreOf d items = subst (AreOf d) (sym ei) (h.0, take_of d (place + 1) others h.1) in
    let elements = ap segments_of ei ∙ ap (λ (ss : List Segment). head.elements ∷ ss) (through_bare (codes "SE") others) in
    let made = set_is _ _ _ _ elements ec in (
      record {
        same = same;
        framed = subst IsFramed (sym made) (framed head.elements (segments_of others) begins);
        few = omega (arith, ap length ei, length-take (place + 1) others);
      },
      made,
    )
