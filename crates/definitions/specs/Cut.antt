-- The cut of a text into segments and a rest.
use Rattle.std.specs.Prelude.{◌≡◌, ℕ, ◌-◌, Bool, true, false, not, ◌&&◌, ◌||◌, List, [], ◌∷◌, ◌++◌, map, length, drop, if◌then◌else◌, IsTrue, ◌==◌, slice_get, Some, None, bytes_eq, filter, find, flat_map, Option, unwrap_or, IfNone}
use Rattle.std.specs.List.{list_all, slice_split, AllByRecursion, position_or_len, enumerate_from}
use Rattle.std.specs.Iterator.{YieldsFirst}
use Rattle.definitions.specs.Bytes.{is_line_end, Delims}

-- a segment is its elements, the first of them its id
abbrev pub Segment : Type 0
Segment = List (List ℕ)

pub record Cut : Type 0 where
  pub segments : List Segment
  pub rest : List ℕ

-- As a relation: the text is what the segments and the rest print.

abbrev pub is_inside : Delims → ℕ → Bool
is_inside d b = not (b == d.separator || b == d.terminator)

-- one element at least, and no separator or terminator within
abbrev pub IsSegment : Delims → Segment → Type 0
IsSegment d [] = ⊥
IsSegment d (e ∷ es) = IsTrue (list_all (list_all (is_inside d)) (e ∷ es))

abbrev pub LacksTerminator : Delims → List ℕ → Type 0
LacksTerminator d text = IsTrue (list_all (λ b. not (b == d.terminator)) text)

-- the text doesn't begin with CR or LF
abbrev pub StartsClean : List ℕ → Type 0
StartsClean [] = Unit {0}
StartsClean (b ∷ bs) = is_line_end b ≡ false

-- the elements with a byte between each two
abbrev pub joined : ℕ → Segment → List ℕ
joined c [] = []
joined c (e ∷ es) = e ++ flat_map (λ x. c ∷ x) es

-- a segment with its terminator
abbrev pub spelled : Delims → Segment → List ℕ
spelled d s = joined d.separator s ++ d.terminator ∷ []

-- the text is, in order, each segment and a run of CR and LF after it, and then the rest
abbrev pub IsCut : Delims → List ℕ → List Segment → List ℕ → Type 0
IsCut d text [] rest = (text ≡ rest) × LacksTerminator d rest
IsCut d text (s ∷ ss) rest = (skip more : List ℕ) × (text ≡ spelled d s ++ (skip ++ more))
    × IsSegment d s
    × IsTrue (list_all is_line_end skip) × StartsClean more × IsCut d more ss rest

-- what may be written so that it is cut again: no separator or terminator within, and neither CR
-- nor LF in front
abbrev pub IsWritten : Delims → Segment → Type 0
IsWritten d s = IsSegment d s × StartsClean (spelled d s)

-- As a function.

-- what a byte does in a text: after a terminator CR and LF are skipped
pub data Role : Type 0 where
  Skipped : Role
  Ends : Role
  Inside : Role

abbrev pub role : Delims → Bool → ℕ → Role
role d after b =
    if after && is_line_end b then Skipped else (if b == d.terminator then Ends else Inside)

-- whether the next byte stands after a terminator
abbrev pub is_outside : Role → Bool
is_outside Skipped = true
is_outside Ends = true
is_outside Inside = false

-- the bytes of each segment, and the rest
pub record Pieces : Type 0 where
  pub whole : List (List ℕ)
  pub rest : List ℕ

abbrev pub onto : ℕ → List (List ℕ) → List ℕ → Pieces
onto b [] rest = record { whole = []; rest = b ∷ rest }
onto b (p ∷ ps) rest = record { whole = (b ∷ p) ∷ ps; rest = rest }

abbrev pub put : Role → ℕ → Pieces → Pieces
put Skipped b p = p
put Ends b p = record { whole = [] ∷ p.whole; rest = p.rest }
put Inside b p = onto b p.whole p.rest

abbrev pub pieces_from : Delims → Bool → List ℕ → Pieces
pieces_from d after [] = record { whole = []; rest = [] }
pieces_from d after (b ∷ bs) =
    put (role d after b) b (pieces_from d (is_outside (role d after b)) bs)

-- what stands between separators; a trailing separator makes an empty element
abbrev pub elements : Delims → List ℕ → Segment
elements d piece = slice_split (λ b. b == d.separator) piece

abbrev pub cut : Delims → List ℕ → Cut
cut d text =
    let p = pieces_from d false text in
    record { segments = map (elements d) p.whole; rest = p.rest }

-- what isn't cut yet of a text
pub record Uncut : Type 0 where
  pub delims : Delims
  pub text : List ℕ

abbrev pub segments_left : Uncut → List Segment
segments_left u = (cut u.delims u.text).segments

abbrev pub rest_left : Uncut → List ℕ
rest_left u = (cut u.delims u.text).rest

-- without the CR and LF in front
abbrev pub skipped : List ℕ → List ℕ
skipped text = drop (position_or_len (λ b. not (is_line_end b)) text) text

-- A segment of a program stands for its elements with the delimiters of the text that it was cut
-- from: a list of such segments says by itself what it is judged by.
pub record Piece : Type 0 where
  pub delims : Delims
  pub elements : Segment

-- pieces of a text with these delimiters
abbrev pub AreOf : Delims → List Piece → Type 0
AreOf d ps = AllByRecursion (λ p. p.delims ≡ d) ps

abbrev pub segments_of : List Piece → List Segment
segments_of ps = map (λ p. p.elements) ps

-- the segments that are left, as a program gives them
abbrev pub pieces_left : Uncut → List Piece
pieces_left u = map (λ s. record { delims = u.delims; elements = s }) (segments_left u)

-- what a call that gave a segment left of the text: under the same delimiters, what stands after
-- the segment, its terminator and a run of CR and LF
abbrev pub LeavesAfter : Uncut → Option Piece → Uncut → Type 0
LeavesAfter s None t = Unit {0}
LeavesAfter s (Some p) t = (t.delims ≡ s.delims) × (skip : List ℕ)
    × (s.text ≡ spelled s.delims p.elements ++ (skip ++ t.text))
    × IsTrue (list_all is_line_end skip) × StartsClean t.text

-- a call gave the first of the segments that were left, and left the others; at None nothing
-- changes, and what is left is the rest
abbrev pub GivesSegment : Uncut → Option Piece → Uncut → Type 0
GivesSegment s r t = YieldsFirst pieces_left s r t × (rest_left t ≡ rest_left s)
    × IfNone r ((t ≡ s) × (rest_left s ≡ s.text)) × LeavesAfter s r t

-- Elements and ids.

-- the element at a place, empty where there is none; 0 is the id
abbrev pub element : Segment → ℕ → List ℕ
element s n = unwrap_or (slice_get s n) []

abbrev pub id_of : Segment → List ℕ
id_of s = element s 0

abbrev pub has_id : List ℕ → Segment → Bool
has_id id s = bytes_eq (id_of s) id

-- the first segment with the id, or none
abbrev pub segment_with : List ℕ → List Segment → Segment
segment_with id ss = unwrap_or (find (has_id id) ss) []

-- the places, from 1, of the segments with the id
abbrev pub places_of : List ℕ → List Segment → List ℕ
places_of id ss = map (λ p. p.0) (filter (λ p. has_id id p.1) (enumerate_from 1 ss))

abbrev pub last_segment : List Segment → Segment
last_segment ss = unwrap_or (slice_get ss (length ss - 1)) []
