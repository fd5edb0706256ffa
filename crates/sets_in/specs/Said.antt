-- What a shipment advice says, as a tree with its printer.
use Rattle.std.specs.Prelude.{◌≡◌, ℕ, ◌+◌, ◌*◌, ◌⊎◌, List, [], ◌∷◌, ◌++◌, length, codes, Option, Some, None}
use Rattle.std.specs.List.{AllByRecursion}
use Rattle.definitions.specs.Bytes.{value}
use Rattle.definitions.specs.Cut.{Segment, element, id_of}
use Rattle.definitions.specs.Means.{Advice, AdviceLine}

-- ST, W06, the header after it, W04 and N9 of each line, W03 and SE
pub record AdviceSet : Type 0 where
  pub st : Segment
  pub w06 : Segment
  pub header : List Segment
  pub goods : List (Segment × Segment)
  pub w03 : Segment
  pub se : Segment

-- the two of each pair, one after the other
abbrev pub in_pairs : {X : Type 0} → List (X × X) → List X
in_pairs [] = []
in_pairs (g ∷ gs) = g.0 ∷ g.1 ∷ in_pairs gs

abbrev pub printed : AdviceSet → List Segment
printed t = t.st ∷ t.w06 ∷ t.header ++ (in_pairs t.goods ++ t.w03 ∷ t.se ∷ [])

abbrev pub IsAdviceHeader : List ℕ → Type 0
IsAdviceHeader id = (id ≡ codes "N1") ⊎ ((id ≡ codes "N9") ⊎ (id ≡ codes "G62"))

-- each segment has its id
pub record IsAdviceSet (t : AdviceSet) : Type 0 where
  pub st : id_of t.st ≡ codes "ST"
  pub w06 : id_of t.w06 ≡ codes "W06"
  pub header : AllByRecursion (λ s. IsAdviceHeader (id_of s)) t.header
  pub goods : AllByRecursion (λ g. (id_of g.0 ≡ codes "W04") × (id_of g.1 ≡ codes "N9")) t.goods
  pub w03 : id_of t.w03 ≡ codes "W03"
  pub se : id_of t.se ≡ codes "SE"

-- a date, if there is one
abbrev pub date_in : List ℕ → Option (List ℕ)
date_in [] = None
date_in (digit ∷ digits) = Some (digit ∷ digits)

-- the lines, of which the first stands at the position and each has two segments
abbrev pub lines_at : ℕ → List (Segment × Segment) → List AdviceLine
lines_at n [] = []
lines_at n (g ∷ gs) =
    record {
      line = record { item = element g.0 5; lot = element g.1 2; quantity = value (element g.0 1) };
      expiry = date_in (element g.1 4);
      position = n;
    } ∷ lines_at (n + 2) gs

abbrev pub meaning : AdviceSet → Advice
meaning t = record {
  shipment = element t.w06 4;
  order = element t.w06 2;
  lines = lines_at (length t.header + 3) t.goods;
  total = value (element t.w03 1);
  total_position = length t.header + 3 + 2 * length t.goods;
}

-- the segments print a tree, and the advice is what that says
abbrev pub SaysAdvice : List Segment → Advice → Type 0
SaysAdvice ss a = (t : AdviceSet) × (ss ≡ printed t) × IsAdviceSet t × (a ≡ meaning t)
