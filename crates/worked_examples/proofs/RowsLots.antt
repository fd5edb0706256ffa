-- Worked examples of two lots that expire on one day, announced by one advice and counted by one
-- count: an order takes first of the lot whose bytes come first, whichever was named first.
use Rattle.std.specs.Prelude.{◌≡◌, ℕ, List, [], ◌∷◌, ◌++◌, map, replicate, Ok, Err, codes, Result}
use Rattle.std.proofs.Common.{refl}
use Rattle.std.specs.Fmt.{digits}
use Rattle.definitions.specs.Rules.{Today}
use Rattle.definitions.specs.declared.sheet_kind.SheetKind.TheVariants.{Count as CountSheet}
use Rattle.definitions.specs.Moments.{Moment}
use Rattle.definitions.specs.Means.{Line}
use Rattle.definitions.specs.Register.{Act, Command, Count}
use Rattle.definitions.specs.declared.refusals.Refusal.{Refusal}
use Rattle.definitions.specs.Clerk.{RawLine, sheet_of}
use Rattle.definitions.proofs.Sample.{received, sends, line, does}
use Rattle.definitions.proofs.RowsTrade.{reserved_for}

-- so many bolts of a lot that expires on 30 June 2025, as an advice has them and as a clerk does
abbrev announced : List ℕ → List ℕ → List ℕ
announced quantity lot = codes "W04*" ++ quantity ++ codes "*EA**SK*BOLT~N9*LT*" ++ lot
    ++ codes "**20250630~"

abbrev noted : List ℕ → List ℕ → RawLine
noted quantity lot = record { item = codes "BOLT"; lot = lot; quantity = quantity }

-- the advice with its two lines, and the sheet with its two, each in either order
abbrev advices : List (List ℕ)
advices = (announced (codes "25") (codes "L10") ++ announced (codes "40") (codes "L9"))
    ∷ (announced (codes "40") (codes "L9") ++ announced (codes "25") (codes "L10"))
    ∷ []

abbrev ten_noted_first : List RawLine
ten_noted_first = noted (codes "25") (codes "L10") ∷ noted (codes "40") (codes "L9") ∷ []

abbrev nine_noted_first : List RawLine
nine_noted_first = noted (codes "40") (codes "L9") ∷ noted (codes "25") (codes "L10") ∷ []

abbrev advice : List ℕ → Command × Moment
advice lines = sends (received (codes "000000001") (codes "0") (codes "AR") (codes "1")
    (codes "ST*943*0001~W06*F*PO77*20250303*SHP1~" ++ lines ++ codes "W03*65~SE*8*0001~"))

-- the count by the sheet that a clerk's lines make
abbrev count : List RawLine → Command × Moment
count lines = does (codes "T1") (by_sheet (sheet_of Today CountSheet lines))
  where
    by_sheet : Result (List Line) Refusal → Act
    by_sheet (Ok sheet) = Count (codes "SHP1") sheet
    by_sheet (Err refusal) = Count (codes "SHP1") []

-- an order of so many bolts
abbrev order : List ℕ → Command × Moment
order wanted = sends (received (codes "000000002") (codes "0") (codes "OW") (codes "2")
    (codes "ST*940*0001~W05*N*ORD1~LX*1~W01*" ++ wanted ++ codes "*EA**SK*BOLT~W76*" ++ wanted
    ++ codes "~SE*6*0001~"))

-- what an order gets of the lots after the advice with these lines and the count with those
abbrev gets : List ℕ → List RawLine → List ℕ → List Line
gets lines sheet wanted =
    reserved_for Today (advice lines ∷ count sheet ∷ order wanted ∷ []) (codes "ORD1")

-- thirty bolts: all 25 of L10, which comes before L9 by its bytes, and five of L9
both_lots : map (λ lines. gets lines ten_noted_first (codes "30")) advices
    ++ map (λ lines. gets lines nine_noted_first (codes "30")) advices
    ≡ replicate 4 (line (codes "BOLT") (codes "L10") 25 ∷ line (codes "BOLT") (codes "L9") 5 ∷ [])
unfolding digits
both_lots = refl

-- twenty bolts: the lesser lot alone has them
lesser_lot_alone : map (λ lines. gets lines ten_noted_first (codes "20")) advices
    ++ map (λ lines. gets lines nine_noted_first (codes "20")) advices
    ≡ replicate 4 (line (codes "BOLT") (codes "L10") 20 ∷ line (codes "BOLT") (codes "L9") 0 ∷ [])
unfolding digits
lesser_lot_alone = refl
