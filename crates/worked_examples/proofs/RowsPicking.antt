-- Worked examples of the largest line of an order on its way to the picking sheet.
use Rattle.std.specs.Prelude.{◌≡◌, ℕ, List, [], ◌∷◌, ◌++◌, Ok, codes, Result}
use Rattle.std.proofs.Common.{refl}
use Rattle.std.specs.Fmt.{digits}
use Rattle.definitions.specs.Rules.{Today}
use Rattle.definitions.specs.declared.refusals.Refusal.{Refusal}
use Rattle.definitions.specs.Moments.{Moment}
use Rattle.definitions.specs.Register.{Command, Count, own}
use Rattle.definitions.specs.History.{events}
use Rattle.definitions.specs.Reports.{pick_list}
use Rattle.definitions.proofs.Sample.{ACME, received, sends, line, does, book}

-- 999,999 of an item and a lot of as many bytes as they may have, and one bolt
abbrev announced : Command × Moment
announced = sends (received (codes "000000001") (codes "0") (codes "AR") (codes "1")
    (codes "ST*943*0001~W06*F*PO77*20250303*SHP1~"
    ++ codes "W04*999999*EA**SK*WASHER-STEEL-M8-1000~N9*LT*LOT-2025-001~"
    ++ codes "W04*1*EA**SK*BOLT~N9*LT*L1~W03*1000000~SE*8*0001~"))

abbrev counted : Command × Moment
counted = does (codes "T1") (Count (codes "SHP1") (line (codes "BOLT") (codes "L1") 1
    ∷ line (codes "WASHER-STEEL-M8-1000") (codes "LOT-2025-001") 999999 ∷ []))

-- an order of both
abbrev ordered : Command × Moment
ordered = sends (received (codes "000000002") (codes "0") (codes "OW") (codes "2")
    (codes "ST*940*0001~W05*N*ORD1~LX*1~W01*999999*EA**SK*WASHER-STEEL-M8-1000~"
    ++ codes "LX*2~W01*1*EA**SK*BOLT~W76*1000000~SE*8*0001~"))

-- the order's picking sheet
abbrev sheet_after : List (Command × Moment) → Result (List ℕ) Refusal
sheet_after cs = pick_list (events (own (book Today cs) ACME)) (codes "ORD1")

-- six digits fill their six columns, and a single one stands under the last
six_columns : sheet_after (announced ∷ counted ∷ ordered ∷ [])
    ≡ Ok (codes "ORDER ORD1\nWASHER-STEEL-M8-1000 LOT-2025-001 999999\n"
    ++ codes "BOLT                 L1                1\n")
unfolding digits
six_columns = refl

-- and where nothing was counted all of it is short
six_columns_short : sheet_after (ordered ∷ [])
    ≡ Ok (codes "ORDER ORD1\nWASHER-STEEL-M8-1000 (short)      999999\n"
    ++ codes "BOLT                 (short)           1\n")
unfolding digits
six_columns_short = refl
