-- Worked examples: receiving sheets, and sheets of CSV for counts and picks, byte for byte.
use Rattle.std.specs.Prelude.{◌≡◌, List, [], ◌∷◌, ◌++◌, Ok, Err, codes}
use Rattle.std.proofs.Common.{refl, arith}
use Rattle.std.specs.Fmt.{digits}
use Rattle.csv.proofs.OnLiterals.{csv_on_literals}
use Rattle.definitions.specs.declared.rules.Rules.{Rules}
use Rattle.definitions.specs.declared.rules.Rules.TheVariants.{One, Two}
use Rattle.definitions.specs.declared.sheet_kind.SheetKind.TheVariants.{Count as CountSheet, Pick as PickSheet}
use Rattle.definitions.specs.Moments.{Moment}
use Rattle.definitions.specs.Events.{Event}
use Rattle.definitions.specs.History.{events}
use Rattle.definitions.specs.declared.refusals.Refusal.TheVariants.{UnknownAdvice, AdviceClosed, UnknownOrder, OrderClosed}
use Rattle.definitions.specs.Register.{Command, own}
use Rattle.definitions.proofs.RowsTrade.{second_advice, until_count, until_order, until_pick, two_lots, both_counted}
use Rattle.definitions.proofs.Sample.{ACME, book, line, received, sends}
use Rattle.reports.specs.PairLines.{MayBeSheet, sheet_read}
use Rattle.reports.specs.Receiving.{receiving_sheet, receiving_list, receiving_csv}
use Rattle.reports.specs.PickSheets.{picking_csv}

-- Of an advice.

-- an item of 20 bytes and a lot of 12 leave no more than the space between them
two_pairs : receiving_sheet (codes "SH-2041") (line (codes "HAMMER-12") (codes "A311") 300 ∷ line (codes "SAW-9.BOW.LARGE-2026") (codes "B070.2026-03") 999999 ∷ [])
    ≡ codes "ADVICE SH-2041\n"
    ++ codes "HAMMER-12            A311            300  ________\n"
    ++ codes "SAW-9.BOW.LARGE-2026 B070.2026-03 999999  ________\n"
unfolding digits
two_pairs = refl

nothing_announced : receiving_sheet (codes "SH-2043") [] ≡ codes "ADVICE SH-2043\n"
nothing_announced = refl

-- Of a book.

abbrev events_after : Rules → List (Command × Moment) → List Event
events_after r cs = events (own (book r cs) ACME)

sheet_in_a_book : (r : Rules) → receiving_list (events_after r (sends second_advice ∷ [])) (codes "SHP2")
    ≡ Ok (codes "ADVICE SHP2\n"
    ++ codes "BOLT                 L1               10  ________\n"
    ++ codes "NUT                  L9                4  ________\n")
unfolding digits
sheet_in_a_book One = refl
sheet_in_a_book Two = refl

csv_in_a_book : (r : Rules) → receiving_csv (events_after r (sends second_advice ∷ [])) (codes "SHP2") ≡ Ok (codes "BOLT,L1,10\nNUT,L9,4\n")
unfolding digits
csv_in_a_book One = refl
csv_in_a_book Two = refl

-- an advice that nobody sent, and one that was counted
no_sheet : (r : Rules) → receiving_list (events_after r until_count) (codes "SHP9") ∷ receiving_list (events_after r until_count) (codes "SHP1") ∷ []
    ≡ Err UnknownAdvice ∷ Err AdviceClosed ∷ []
unfolding digits
no_sheet One = refl
no_sheet Two = refl

no_csv : (r : Rules) → receiving_csv (events_after r until_count) (codes "SHP9") ∷ receiving_csv (events_after r until_count) (codes "SHP1") ∷ []
    ≡ Err UnknownAdvice ∷ Err AdviceClosed ∷ []
unfolding digits
no_csv One = refl
no_csv Two = refl

-- of the 120 bolts that are ordered 90 are reserved; the 30 that are short stand in no line
reserved_in_a_book : (r : Rules) → picking_csv (events_after r until_order) (codes "ORD1") ≡ Ok (codes "BOLT,L1,90\n")
unfolding digits
reserved_in_a_book One = refl
reserved_in_a_book Two = refl

-- six bolts of two lots
abbrev six_of_two_lots : List (Command × Moment)
six_of_two_lots = sends two_lots ∷ both_counted ∷ sends (received (codes "000000002") (codes "0") (codes "OW") (codes "2")
    (codes "ST*940*0001~W05*N*ORD1~LX*1~W01*6*EA**SK*BOLT~W76*6~SE*6*0001~")) ∷ []

two_lots_reserved : (r : Rules) → picking_csv (events_after r six_of_two_lots) (codes "ORD1") ≡ Ok (codes "BOLT,L1,5\nBOLT,L2,1\n")
unfolding digits
two_lots_reserved One = refl
two_lots_reserved Two = refl

no_picking_csv : (r : Rules) → picking_csv (events_after r until_order) (codes "ORD2") ∷ picking_csv (events_after r until_pick) (codes "ORD1") ∷ []
    ≡ Err UnknownOrder ∷ Err OrderClosed ∷ []
unfolding digits
no_picking_csv One = refl
no_picking_csv Two = refl

-- Such texts read as these lines, by item and then lot, in whichever order they were written.

count_read : sheet_read Two CountSheet (codes "BOLT,L1,10\nNUT,L9,4\n") ≡ Ok (line (codes "BOLT") (codes "L1") 10 ∷ line (codes "NUT") (codes "L9") 4 ∷ [])
unfolding csv_on_literals
count_read = refl

pick_read : sheet_read Two PickSheet (codes "NUT,L9,4\nBOLT,L1,90\n") ≡ Ok (line (codes "BOLT") (codes "L1") 90 ∷ line (codes "NUT") (codes "L9") 4 ∷ [])
unfolding csv_on_literals
pick_read = refl

-- lines that a sheet may have, so that what is promised of them holds of these
may_be_counted : MayBeSheet Two CountSheet (line (codes "BOLT") (codes "L1") 10 ∷ line (codes "NUT") (codes "L9") 0 ∷ [])
may_be_counted = record { few = omega arith; good = refl; once = refl }

may_be_picked : MayBeSheet Two PickSheet (line (codes "NUT") (codes "L9") 4 ∷ line (codes "BOLT") (codes "L1") 90 ∷ [])
may_be_picked = record { few = omega arith; good = refl; once = refl }
