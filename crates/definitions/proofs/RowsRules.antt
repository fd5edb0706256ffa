-- Worked examples of what the rules say of a set: the same sets judged by both.
use Rattle.std.specs.Prelude.{◌≡◌, ℕ, List, [], ◌∷◌, ◌++◌, map, replicate, codes, flat_map}
use Rattle.std.proofs.Common.{refl}
use Rattle.std.specs.Fmt.{digits}
use Rattle.definitions.specs.declared.rules.Rules.{Rules}
use Rattle.definitions.specs.declared.rules.Rules.TheVariants.{One, Two}
use Rattle.definitions.specs.Cut.{cut, spelled}
use Rattle.definitions.specs.Words.{kind_words}
use Rattle.definitions.specs.declared.set_kind.SetKind.{SetKind}
use Rattle.definitions.specs.declared.set_kind.SetKind.TheVariants.{ShippingOrder, ShipmentAdvice}
use Rattle.definitions.specs.Faults.{set_fault}
use Rattle.definitions.specs.Texts.{own_delims, ak3_segments}
use Rattle.definitions.proofs.Sample.{first_set}

-- what a 997 tells of the segment in error of a set, AK3 and AK4; nothing where there is none
abbrev told : SetKind → Rules → List ℕ → List ℕ
told kind r text = flat_map (spelled own_delims) (ak3_segments (set_fault r own_delims (kind_words r kind) ((cut own_delims text).segments)))

-- an advice with this W04 and N9, and this W03
abbrev advice : List ℕ → List ℕ → List ℕ
advice line total = codes "ST*943*0001~W06*F*PO77*20250303*SHP1~" ++ line ++ total ++ codes "SE*6*0001~"

-- one with this W04, this N9 or this W03
abbrev with_W04 : Rules → List ℕ → List ℕ
with_W04 r w04 = told ShipmentAdvice r (advice (w04 ++ codes "N9*LT*L1~") (codes "W03*100~"))

abbrev advised : Rules → List ℕ → List ℕ
advised r n9 = told ShipmentAdvice r (advice (codes "W04*100*EA**SK*BOLT~" ++ n9) (codes "W03*100~"))

abbrev with_W03 : Rules → List ℕ → List ℕ
with_W03 r w03 = told ShipmentAdvice r (advice (codes "W04*100*EA**SK*BOLT~N9*LT*L1~") w03)

-- an order with this W01 and N9, and this W76
abbrev order : List ℕ → List ℕ → List ℕ
order line total = codes "ST*940*0001~W05*N*ORD1~LX*1~" ++ line ++ total ++ codes "SE*7*0001~"

abbrev with_W01 : Rules → List ℕ → List ℕ
with_W01 r w01 = told ShippingOrder r (order (w01 ++ codes "N9*LT*L1~") (codes "W76*6~"))

abbrev pinned : Rules → List ℕ → List ℕ
pinned r n9 = told ShippingOrder r (order (codes "W01*6*EA**SK*BOLT~" ++ n9) (codes "W76*6~"))

abbrev with_W76 : Rules → List ℕ → List ℕ
with_W76 r w76 = told ShippingOrder r (order (codes "W01*6*EA**SK*BOLT~") w76)

-- What both say.

without_fault : (r : Rules) → told ShipmentAdvice r first_set ∷ pinned r (codes "N9*LT*L1~") ∷ pinned r [] ∷ [] ≡ replicate 3 []
unfolding digits
without_fault One = refl
without_fault Two = refl

goods_faults : (r : Rules) → map (with_W04 r)
    (codes "W04*100*EA**SK*BOLT*~"
    ∷ codes "W04*100*ea**SK*BOLT~"
    ∷ codes "W04*100*EAX**SK*BOLT~"
    ∷ codes "W04**EA**SK*BOLT~"
    ∷ codes "W04*1.5*EA**SK*BOLT~"
    ∷ codes "W04*0*EA**SK*BOLT~"
    ∷ [])
    ≡ codes "AK3*W04*3**8~AK4*6**3~"
    ∷ codes "AK3*W04*3**8~AK4*2**7~"
    ∷ codes "AK3*W04*3**8~AK4*2**5~"
    ∷ codes "AK3*W04*3**8~AK4*1**1~"
    ∷ codes "AK3*W04*3**8~AK4*1**6~"
    ∷ codes "AK3*W04*3**8~AK4*1**7~"
    ∷ []
unfolding digits
goods_faults One = refl
goods_faults Two = refl

no_such_day : (r : Rules) → told ShipmentAdvice r (codes "ST*943*0001~W06*F*PO77*20250230*SHP1~W04*100*EA**SK*BOLT~N9*LT*L1~W03*100~SE*6*0001~")
    ≡ codes "AK3*W06*2**8~AK4*3**8~"
unfolding digits
no_such_day One = refl
no_such_day Two = refl

out_of_place : (r : Rules) → map (told ShipmentAdvice r)
    (codes "ST*943*0001~W06*F*PO77*20250303*SHP1~W04*100*EA**SK*BOLT~N9*LT*L1~SE*5*0001~"
    ∷ codes "ST*943*0001~W06*F*PO77*20250303*SHP1~ZZZ~W04*100*EA**SK*BOLT~N9*LT*L1~W03*100~SE*7*0001~"
    ∷ codes "ST*943*0001~W06*F*PO77*20250303*SHP1~W05*N*X~W04*100*EA**SK*BOLT~N9*LT*L1~W03*100~SE*7*0001~"
    ∷ [])
    ≡ codes "AK3*W03*5**3~"
    ∷ codes "AK3*ZZZ*3**1~"
    ∷ codes "AK3*W05*3**6~"
    ∷ []
unfolding digits
out_of_place One = refl
out_of_place Two = refl

-- a reference before the lines has no fourth element, nor has the lot of an order's line
no_date : (r : Rules) → told ShipmentAdvice r (codes "ST*943*0001~W06*F*PO77*20250303*SHP1~N9*PO*7**20250630~" ++ codes "W04*100*EA**SK*BOLT~N9*LT*L1~W03*100~SE*7*0001~")
    ∷ pinned r (codes "N9*LT*L1**20250630~") ∷ []
    ≡ codes "AK3*N9*3**8~AK4*4**3~" ∷ codes "AK3*N9*5**8~AK4*4**3~" ∷ []
unfolding digits
no_date One = refl
no_date Two = refl

-- Quantities and sums at their limits, and one more.

abbrev quantities : Rules → List ℕ → List ℕ → List (List ℕ)
quantities r most more =
    with_W04 r (codes "W04*" ++ most ++ codes "*EA**SK*BOLT~") ∷ with_W04 r (codes "W04*" ++ more ++ codes "*EA**SK*BOLT~")
    ∷ with_W01 r (codes "W01*" ++ most ++ codes "*EA**SK*BOLT~") ∷ with_W01 r (codes "W01*" ++ more ++ codes "*EA**SK*BOLT~") ∷ []

abbrev over_in_turn : List (List ℕ)
over_in_turn = [] ∷ codes "AK3*W04*3**8~AK4*1**5~" ∷ [] ∷ codes "AK3*W01*4**8~AK4*1**5~" ∷ []

five_digits : quantities One (codes "99999") (codes "100000") ≡ over_in_turn
unfolding digits
five_digits = refl

six_digits : quantities Two (codes "999999") (codes "1000000") ≡ over_in_turn
unfolding digits
six_digits = refl

abbrev sums : Rules → List ℕ → List ℕ → List (List ℕ)
sums r most more =
    with_W03 r (codes "W03*" ++ most ++ codes "~") ∷ with_W03 r (codes "W03*" ++ more ++ codes "~")
    ∷ with_W76 r (codes "W76*" ++ most ++ codes "~") ∷ with_W76 r (codes "W76*" ++ more ++ codes "~") ∷ []

abbrev sums_in_turn : List (List ℕ)
sums_in_turn = [] ∷ codes "AK3*W03*5**8~AK4*1**5~" ∷ [] ∷ codes "AK3*W76*5**8~AK4*1**5~" ∷ []

sums_of_seven : sums One (codes "9999999") (codes "10000000") ≡ sums_in_turn
unfolding digits
sums_of_seven = refl

sums_of_nine : sums Two (codes "999999999") (codes "1000000000") ≡ sums_in_turn
unfolding digits
sums_of_nine = refl

-- The expiry of an advice's lot.

abbrev dates : List (List ℕ)
dates = codes "N9*LT*L1**20250630~" ∷ codes "N9*LT*L1**20250230~" ∷ codes "N9*LT*L1**2025~" ∷ codes "N9*LT*L1**~" ∷ codes "N9*LT*L1**20250630*X~" ∷ []

dated : map (advised Two) dates
    ≡ [] ∷ codes "AK3*N9*4**8~AK4*4**8~" ∷ codes "AK3*N9*4**8~AK4*4**4~" ∷ [] ∷ codes "AK3*N9*4**8~AK4*5**3~" ∷ []
unfolding digits
dated = refl

undated : map (advised One) dates ≡ replicate 5 (codes "AK3*N9*4**8~AK4*4**3~")
unfolding digits
undated = refl
