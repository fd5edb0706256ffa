-- Worked examples of reports: stock, outbox and picking sheets, byte for byte.
use Rattle.std.specs.Prelude.{◌≡◌, ℕ, List, [], ◌∷◌, ◌++◌, map, length, Some, None, Ok, Err, codes, Result}
use Rattle.std.proofs.Common.{refl}
use Rattle.std.specs.Fmt.{digits}
use Rattle.definitions.specs.declared.rules.Rules.{Rules}
use Rattle.definitions.specs.declared.rules.Rules.TheVariants.{One, Two}
use Rattle.definitions.specs.Moments.{Moment}
use Rattle.definitions.specs.Register.{Command, own}
use Rattle.definitions.specs.Refusals.{Refusal, UnknownOrder, OrderClosed}
use Rattle.definitions.specs.History.{events}
use Rattle.definitions.specs.Rows.{StockRow, stock_rows, outbox_rows, stock_of}
use Rattle.definitions.specs.Reports.{stock_report, stock_csv, outbox_list, pick_list}
use Rattle.definitions.proofs.Sample.{WHSE1, ACME, received, first_answer, sends, book}
use Rattle.definitions.proofs.RowsTrade.{count_text, order_text, pick_text, until_count, until_order, until_pick, until_acknowledgment, two_lots, both_counted}

abbrev pub stock_after : Rules → List (Command × Moment) → List StockRow
stock_after r cs = stock_rows (own (book r cs) ACME)

report : (r : Rules) → stock_report Two (stock_after r until_count)
    ≡ codes "item                 lot          expiry          expected         on hand        reserved         shipped\n"
    ++ codes "BOLT                 L1                                  0              90               0               0\n"
unfolding digits
report One = refl
report Two = refl

report_length : (r : Rules) → length (stock_report Two (stock_after r until_count)) ≡ 214
unfolding digits
report_length One = refl
report_length Two = refl

export : (r : Rules) → stock_csv Two (stock_after r until_count) ≡ codes "item,lot,expiry,expected,on_hand,reserved,shipped\nBOLT,L1,,0,90,0,0\n"
unfolding digits
export One = refl
export Two = refl

-- and of a program of version 1
first_report : stock_report One (stock_after One until_count)
    ≡ codes "item                 lot                 expected         on hand        reserved         shipped\n"
    ++ codes "BOLT                 L1                         0              90               0               0\n"
unfolding digits
first_report = refl

first_report_length : length (stock_report One (stock_after One until_count)) ≡ 196
unfolding digits
first_report_length = refl

first_export : stock_csv One (stock_after One until_count) ≡ codes "item,lot,expected,on_hand,reserved,shipped\nBOLT,L1,0,90,0,0\n"
unfolding digits
first_export = refl

outbox : (r : Rules) → outbox_list (outbox_rows WHSE1 (own (book r until_acknowledgment) ACME)) ≡ codes "     1 ANS -\n     2 944 open\n     3 ANS -\n     4 945 accepted\n"
unfolding digits
outbox One = refl
outbox Two = refl

contents : (r : Rules) → map (λ r. r.content) (outbox_rows WHSE1 (own (book r until_acknowledgment) ACME)) ≡ first_answer ∷ count_text ∷ order_text ∷ pick_text ∷ []
unfolding digits
contents One = refl
contents Two = refl

abbrev pick_list_after : Rules → List (Command × Moment) → List ℕ → Result (List ℕ) Refusal
pick_list_after r cs number = pick_list (events (own (book r cs) ACME)) number

picking_sheet : (r : Rules) → pick_list_after r until_order (codes "ORD1")
    ≡ Ok (codes "ORDER ORD1\nBOLT                 L1               90\nBOLT                 (short)          30\n")
unfolding digits
picking_sheet One = refl
picking_sheet Two = refl

no_picking_sheet : (r : Rules) → pick_list_after r until_order (codes "ORD2") ∷ pick_list_after r until_pick (codes "ORD1") ∷ [] ≡ Err UnknownOrder ∷ Err OrderClosed ∷ []
unfolding digits
no_picking_sheet One = refl
no_picking_sheet Two = refl

-- an order with an address
abbrev to_the_shop : List (Command × Moment)
to_the_shop = sends two_lots ∷ both_counted ∷ sends (received (codes "000000002") (codes "0") (codes "OW") (codes "2")
    (codes "ST*940*0001~W05*N*ORD1~N1*ST*Jo Shop~N3*5 Quay Road~N4*Ulm**89073~LX*1~W01*6*EA**SK*BOLT~W76*6~SE*9*0001~")) ∷ []

addressed_sheet : (r : Rules) → pick_list_after r to_the_shop (codes "ORD1")
    ≡ Ok (codes "ORDER ORD1\nTO Jo Shop\n   5 Quay Road\n   Ulm 89073\nBOLT                 L1                5\nBOLT                 L2                1\n")
unfolding digits
addressed_sheet One = refl
addressed_sheet Two = refl

-- a stranger
strangers : (r : Rules) → stock_of (book r []) (record { qualifier = codes "ZZ"; id = codes "NONE" }) ≡ None
unfolding digits
strangers r = refl

newcomer : (r : Rules) → stock_of (book r []) ACME ≡ Some []
unfolding digits
newcomer r = refl
