-- The elements of the segments in sets: each at its shortest and at its longest, one byte shorter
-- and one longer, with bytes that may stand in it and bytes that mayn't, and with other values;
-- under both rules.
use Rattle.std.specs.Prelude.{◌≡◌, ℕ, ◌+◌, ◌-◌, Bool, true, false, List, [], ◌∷◌, ◌++◌, map, length, take, drop, replicate, if◌then◌else◌, ◌==◌, Some, None, codes, Option, option_and_then}
use Rattle.std.specs.List.{list_all}
use Rattle.std.proofs.Common.{refl}
use Rattle.definitions.specs.declared.rules.Rules.{Rules}
use Rattle.definitions.specs.declared.rules.Rules.TheVariants.{One, Two}
use Rattle.definitions.specs.Bytes.{Delims}
use Rattle.definitions.specs.Cut.{Segment, elements, id_of}
use Rattle.definitions.specs.Elements.{ElementFault, faulty_element}
use Rattle.definitions.specs.Faults.{rows_after}

abbrev pub starred : Delims
starred = record { separator = 42; component = 62; terminator = 126 }

-- the types, by bytes at the edges of what may stand in them and just beyond
pub record Class : Type 0 where
  pub in_class : List ℕ
  pub beyond : List ℕ

abbrev pub numeric : Class
numeric = record { in_class = codes "19"; beyond = codes " -./:A" }

abbrev pub alphanumeric : Class
alphanumeric = record { in_class = codes "09AZ"; beyond = codes "-./:@[a" }

abbrev identifier : Class
identifier = record { in_class = codes "-.09AZ"; beyond = codes " ,/:@[_az" }

abbrev pub data_bytes : Class
data_bytes = record { in_class = codes " )+=?az}"; beyond = 31 ∷ 127 ∷ 10 ∷ codes ">" }

abbrev with_components : Class
with_components = record { in_class = codes " )+=>?}"; beyond = 31 ∷ 127 ∷ [] }

-- a code: any data byte is a right character
abbrev coded : Class
coded = record { in_class = []; beyond = 31 ∷ 127 ∷ codes ">" }

-- an element: its place, whether it is needed, its type, a long text that begins with all the good
-- ones, its least and its most bytes, and other values with their codes
pub record Width : Type 0 where
  pub place : ℕ
  pub is_needed : Bool
  pub class : Class
  pub text : List ℕ
  pub least : ℕ
  pub most : ℕ
  pub wrong : List (List ℕ × ℕ)

abbrev pub needed : ℕ → Class → List ℕ → ℕ → ℕ → List (List ℕ × ℕ) → Width
needed place class text least most wrong = record {
  place = place;
  is_needed = true;
  class = class;
  text = text;
  least = least;
  most = most;
  wrong = wrong;
}

abbrev pub digits_in : ℕ → ℕ → ℕ → Width
digits_in place least most = needed place numeric (replicate (most + 1) 57) least most
    ((codes "0", 0) ∷ [])

abbrev quantity_in : ℕ → ℕ → Width
quantity_in place most = needed place numeric (replicate (most + 1) 57) 1 most
    ((codes "0", 7) ∷ (codes "00000", 7) ∷ (codes "0001", 0) ∷ [])

abbrev identifier_in : ℕ → ℕ → Width
identifier_in place most = needed place identifier (replicate (most + 1) 90) 1 most []

abbrev pub alphanumeric_in : ℕ → ℕ → ℕ → Width
alphanumeric_in place least most = needed place alphanumeric (replicate (most + 1) 90) least most []

abbrev pub data_in : ℕ → ℕ → ℕ → Width
data_in place least most = needed place data_bytes (replicate (most + 1) 97) least most []

-- an element that may be empty
abbrev may_be : ℕ → Class → List ℕ → ℕ → ℕ → Width
may_be place class text least most = record {
  place = place;
  is_needed = false;
  class = class;
  text = text;
  least = least;
  most = most;
  wrong = [];
}

abbrev data_may : ℕ → ℕ → ℕ → Width
data_may place least most = may_be place data_bytes (replicate (most + 1) 97) least most

abbrev pub date_in : ℕ → Width
date_in place = needed place numeric (codes "202503031") 8 8
    ((codes "20250230", 8) ∷ (codes "20240229", 0) ∷ (codes "19000229", 8) ∷ (codes "20000229", 0)
    ∷ (codes "20251301", 8) ∷ (codes "20250001", 8) ∷ (codes "20250100", 8) ∷ (codes "20250431", 8)
    ∷ (codes "00000101", 8) ∷ (codes "00010101", 0) ∷ (codes "99991231", 0) ∷ [])

-- a date that may be missing
abbrev date_may : ℕ → Width
date_may place = record (date_in place) { is_needed = false }

-- the only code
abbrev code_in : ℕ → List ℕ → List (List ℕ × ℕ) → Width
code_in place text wrong = needed place coded (text ++ codes "X") (length text) (length text) wrong

-- a segment with all its elements, the id of the segment before it, and its elements
record Case : Type 0 where
  before : List ℕ
  text : List ℕ
  widths : List Width

abbrev case : List ℕ → List Width → Case
case text widths = record { before = []; text = text; widths = widths }

-- the digits of a quantity, and of a set's sum
abbrev quantity_width : Rules → ℕ
quantity_width One = 5
quantity_width Two = 6

abbrev total_width : Rules → ℕ
total_width One = 7
total_width Two = 9

abbrev goods : Rules → List Width
goods r = quantity_in 1 (quantity_width r)
    ∷ code_in 2 (codes "EA") ((codes "ea", 7) ∷ (codes "CA", 7) ∷ [])
    ∷ data_may 3 1 12
    ∷ code_in 4 (codes "SK") ((codes "UP", 7) ∷ []) ∷ identifier_in 5 20 ∷ []

abbrev lot : List Width
lot = code_in 1 (codes "LT") ((codes "LS", 7) ∷ []) ∷ identifier_in 2 12 ∷ data_may 3 1 45 ∷ []

-- the lot of an advice's line, which may have an expiry under the second
abbrev advised_lot : Rules → Case
advised_lot One = record { before = codes "W04"; text = codes "N9*LT*L1*ABC"; widths = lot }
advised_lot Two = record { before = codes "W04"; text = codes "N9*LT*L1*ABC*20250303"; widths = lot ++ date_may 4 ∷ [] }

abbrev errors_may : List ℕ → List Width
errors_may places = map (λ place. data_may place 1 3) places

abbrev cases : Rules → List Case
cases r =
    case (codes "W06*F*PO77*20250303*SHP1")
    (code_in 1 (codes "F") ((codes "N", 7) ∷ (codes "f", 7) ∷ [])
    ∷ identifier_in 2 22 ∷ date_in 3 ∷ identifier_in 4 22 ∷ [])
    ∷ case (codes "W04*100*EA*CS*SK*BOLT") (goods r)
    ∷ case (codes "W01*100*EA*CS*SK*BOLT") (goods r)
    ∷ advised_lot r
    ∷ record { before = codes "W01"; text = codes "N9*LT*L1*ABC"; widths = lot }
    ∷ record {
      before = codes "W06";
      text = codes "N9*LT*L1*ABC";
      widths = alphanumeric_in 1 2 3 ∷ data_in 2 1 30 ∷ data_may 3 1 45 ∷ [];
    }
    ∷ case (codes "W03*100") (quantity_in 1 (total_width r) ∷ [])
    ∷ case (codes "W76*100") (quantity_in 1 (total_width r) ∷ [])
    ∷ case (codes "W05*N*ORD1*PO77")
    (code_in 1 (codes "N") ((codes "F", 7) ∷ []) ∷ identifier_in 2 22 ∷ data_may 3 1 22 ∷ [])
    ∷ case (codes "LX*1") (quantity_in 1 6 ∷ [])
    ∷ case (codes "N1*ST*Jo Shop*92*A1")
    (alphanumeric_in 1 2 3 ∷ data_may 2 1 60 ∷ data_may 3 1 2 ∷ data_may 4 2 80 ∷ [])
    ∷ case (codes "N3*5 Quay Road*Gate 2") (data_in 1 1 55 ∷ data_may 2 1 55 ∷ [])
    ∷ case (codes "N4*Ulm*BW*89073*DE")
    (data_may 1 2 30 ∷ data_may 2 2 2 ∷ data_may 3 3 15 ∷ data_may 4 2 3 ∷ [])
    ∷ case (codes "G62*02*20250303") (alphanumeric_in 1 2 2 ∷ date_in 2 ∷ [])
    ∷ case (codes "AK1*SW*4") (alphanumeric_in 1 2 2 ∷ digits_in 2 1 9 ∷ [])
    ∷ case (codes "AK2*945*0001") (alphanumeric_in 1 3 3 ∷ alphanumeric_in 2 4 9 ∷ [])
    ∷ case (codes "AK3*W12*3*LX*8")
    (alphanumeric_in 1 2 3 ∷ digits_in 2 1 6 ∷ data_may 3 1 4 ∷ data_may 4 1 3 ∷ [])
    ∷ case (codes "AK4*2*88*7*ABC")
    (needed 1 with_components (replicate 11 49) 1 10 []
    ∷ may_be 2 numeric (replicate 5 57) 1 4
    ∷ data_in 3 1 3 ∷ data_may 4 1 99 ∷ [])
    ∷ case (codes "AK5*A*1*2*3*4*5")
    (code_in 1 (codes "A") ((codes "R", 0) ∷ (codes "P", 7) ∷ (codes "E", 7) ∷ (codes "a", 7) ∷ [])
    ∷ errors_may (2 ∷ 3 ∷ 4 ∷ 5 ∷ 6 ∷ []))
    ∷ case (codes "AK9*A*1*1*1*1*2*3*4*5")
    (code_in 1 (codes "A") ((codes "P", 0) ∷ (codes "R", 0) ∷ (codes "E", 7) ∷ (codes "X", 7) ∷ [])
    ∷ digits_in 2 1 6 ∷ digits_in 3 1 6 ∷ digits_in 4 1 6 ∷ errors_may (5 ∷ 6 ∷ 7 ∷ 8 ∷ 9 ∷ []))
    ∷ []

-- the texts that an element is given, each with its code, 0 for none
abbrev pub tried : Width → List (List ℕ × ℕ)
tried w =
    ([], if w.is_needed then 1 else 0)
    ∷ (take w.least w.text, 0)
    ∷ (take w.most w.text, 0)
    ∷ (take (w.most + 1) w.text, 5)
    ∷ (if w.least == 1 then [] else (take (w.least - 1) w.text, 4) ∷ [])
    ++ map (λ b. (b ∷ drop 1 (take w.least w.text), 0)) w.class.in_class
    ++ map (λ b. (b ∷ drop 1 (take w.least w.text), 6)) w.class.beyond
    ++ w.wrong

-- the place and the code of the least faulty element, 0 and 0 for none
abbrev fault_of : Rules → List ℕ → Segment → ℕ × ℕ
fault_of r before s =
    told (option_and_then (λ rows. faulty_element starred rows s) (rows_after r before (id_of s)))
  where
    told : Option ElementFault → ℕ × ℕ
    told None = (0, 0)
    told (Some f) = (f.place, f.code)

abbrev same : (ℕ × ℕ) → (ℕ × ℕ) → Bool
same (a, b) (c, d) = if a == c then b == d else false

-- whether an element's texts have their codes, in a segment that is good else
abbrev holds : Rules → List ℕ → Segment → Width → Bool
holds r before s w = list_all
    (λ p. same (fault_of r before (take w.place s ++ p.0 ∷ drop (w.place + 1) s))
    (if p.1 == 0 then 0 else w.place, p.1))
    (tried w)

abbrev is_as_said : Rules → Case → Bool
is_as_said r c = list_all (holds r c.before (elements starred c.text)) c.widths

widths : (r : Rules) → map (is_as_said r) (cases r) ≡ replicate 20 true
widths One = refl
widths Two = refl

-- a segment has just these elements: with one more, if an empty one, that is the fault
abbrev with_one_more : Rules → Case → ℕ × ℕ
with_one_more r c = fault_of r c.before (elements starred (c.text ++ codes "*"))

one_more : (r : Rules) → map (with_one_more r) (cases r) ≡ map (λ c. (length c.widths + 1, 3)) (cases r)
one_more One = refl
one_more Two = refl
