-- Worked examples of dates that are given later, and of lots that differ in their dates and their
-- counts.
use Rattle.std.specs.Prelude.{◌≡◌, ℕ, true, false, List, [], ◌∷◌, ◌++◌, map, Some, None, codes, decimal}
use Rattle.std.specs.List.{range_with_len}
use Rattle.std.proofs.Common.{refl}
use Rattle.std.specs.Fmt.{digits}
use Rattle.definitions.specs.declared.rules.Rules.TheVariants.{One, Two}
use Rattle.definitions.specs.Moments.{Moment}
use Rattle.definitions.specs.Register.{Act, Count, Pick, Command, canonical, never_fall}
use Rattle.definitions.specs.Readings.{act_of}
use Rattle.definitions.specs.Reply.{Accepted}
use Rattle.definitions.specs.Tables.{Number, rules_in}
use Rattle.definitions.proofs.Sample.{isa_in, gs_in, iea, received, sends, line, does, balances, book, reply_after, told_AR}
use Rattle.definitions.proofs.RowsTrade.{reserved_for}
use Rattle.definitions.proofs.RowsExpiry.{dated, all_counted, six}

-- an order of so many, and its interchange under a control number of one digit
abbrev order_set : List ℕ → ℕ → List ℕ
order_set number quantity = codes "ST*940*0001~W05*N*" ++ number ++ codes "~LX*1~W01*" ++ decimal quantity ++ codes "*EA**SK*BOLT~W76*" ++ decimal quantity ++ codes "~SE*6*0001~"

abbrev order_of : List ℕ → List ℕ → ℕ → Command × Moment
order_of control number quantity = sends (received (codes "00000000" ++ control) (codes "0") (codes "OW") control (order_set number quantity))

-- an advice of one line, of a lot with this date
abbrev advice_of_one : List ℕ → List ℕ → List ℕ → List ℕ → List ℕ
advice_of_one st shipment lot date = codes "ST*943*" ++ st ++ codes "~W06*F*PO77*20250303*" ++ shipment ++ codes "~W04*3*EA**SK*BOLT~N9*LT*" ++ lot ++ codes "**" ++ date
    ++ codes "~W03*3~SE*6*" ++ st ++ codes "~"

-- two sets of one interchange give a pair two dates: the second is rejected
second_date : reply_after Two [] (sends (isa_in (codes "000000001") (codes "0") ++ gs_in (codes "AR") (codes "1")
    ++ advice_of_one (codes "0001") (codes "SHP1") (codes "L1") (codes "20250630") ++ advice_of_one (codes "0002") (codes "SHP2") (codes "L1") (codes "20250701")
    ++ codes "GE*2*1~" ++ iea (codes "1") (codes "000000001")))
    ≡ Accepted (told_AR (codes "AK2*943*0001~AK5*A~AK2*943*0002~AK3*N9*4**8~AK4*4**7~AK5*R*5~AK9*P*2*2*1~") (codes "10"))
unfolding digits
second_date = refl

-- a group dates a lot that was counted, and an order in the next group of the same interchange
-- takes it first
abbrev dates_and_orders : Command × Moment
dates_and_orders = sends (isa_in (codes "000000002") (codes "0")
    ++ gs_in (codes "AR") (codes "2") ++ advice_of_one (codes "0001") (codes "SHP2") (codes "L1") (codes "20250101") ++ codes "GE*1*2~"
    ++ gs_in (codes "OW") (codes "3") ++ order_set (codes "ORD1") 6 ++ codes "GE*1*3~"
    ++ iea (codes "2") (codes "000000002"))

dated_at_once : reserved_for Two (dated ∷ all_counted ∷ dates_and_orders ∷ []) (codes "ORD1")
    ≡ line (codes "BOLT") (codes "L1") 5 ∷ line (codes "BOLT") (codes "L3") 1 ∷ line (codes "BOLT") (codes "L2") 0 ∷ []
unfolding digits
dated_at_once = refl

-- a lot that only its count named has no date: it comes with the undated, by its count
abbrev found_too : Command × Moment
found_too = does (codes "T1") (Count (codes "SHP1")
    (line (codes "BOLT") (codes "L0") 2 ∷ line (codes "BOLT") (codes "L1") 5 ∷ line (codes "BOLT") (codes "L2") 7 ∷ line (codes "BOLT") (codes "L3") 4 ∷ []))

found_last : reserved_for Two (dated ∷ found_too ∷ order_of (codes "2") (codes "ORD1") 14 ∷ []) (codes "ORD1")
    ≡ line (codes "BOLT") (codes "L3") 4 ∷ line (codes "BOLT") (codes "L2") 7 ∷ line (codes "BOLT") (codes "L0") 2 ∷ line (codes "BOLT") (codes "L1") 1 ∷ []
unfolding digits
found_last = refl

-- lots of one date by their counts, not by their names
abbrev same_date : List (Command × Moment)
same_date = dated ∷ all_counted
    ∷ sends (received (codes "000000002") (codes "0") (codes "AR") (codes "2") (advice_of_one (codes "0001") (codes "SHP2") (codes "L0") (codes "20250630")))
    ∷ does (codes "T2") (Count (codes "SHP2") (line (codes "BOLT") (codes "L0") 3 ∷ []))
    ∷ order_of (codes "3") (codes "ORD1") 12 ∷ []

first_counted_of_a_date : reserved_for Two same_date (codes "ORD1")
    ≡ line (codes "BOLT") (codes "L3") 4 ∷ line (codes "BOLT") (codes "L2") 7 ∷ line (codes "BOLT") (codes "L0") 1 ∷ line (codes "BOLT") (codes "L1") 0 ∷ []
unfolding digits
first_counted_of_a_date = refl

-- A lot that is dated after an order: the order keeps its shares and is picked by them.
abbrev dated_after : List (Command × Moment)
dated_after = dated ∷ all_counted ∷ six
    ∷ sends (received (codes "000000003") (codes "0") (codes "AR") (codes "3") (advice_of_one (codes "0001") (codes "SHP2") (codes "L1") (codes "20250101"))) ∷ []

shares_kept : reserved_for Two (dated_after ++ order_of (codes "4") (codes "ORD2") 5 ∷ []) (codes "ORD1") ++ reserved_for Two (dated_after ++ order_of (codes "4") (codes "ORD2") 5 ∷ []) (codes "ORD2")
    ≡ line (codes "BOLT") (codes "L3") 4 ∷ line (codes "BOLT") (codes "L2") 2 ∷ line (codes "BOLT") (codes "L1") 0 ∷ []
    ++ line (codes "BOLT") (codes "L1") 5 ∷ line (codes "BOLT") (codes "L3") 0 ∷ line (codes "BOLT") (codes "L2") 0 ∷ []
unfolding digits
shares_kept = refl

picked_as_reserved : map (λ lot. balances Two (dated_after ++ does (codes "T2") (Pick (codes "ORD1") (line (codes "BOLT") (codes "L2") 2 ∷ line (codes "BOLT") (codes "L3") 4 ∷ [])) ∷ []) (codes "BOLT") lot)
    (codes "L1" ∷ codes "L2" ∷ codes "L3" ∷ [])
    ≡ (3 ∷ 5 ∷ 0 ∷ 0 ∷ []) ∷ (0 ∷ 5 ∷ 0 ∷ 2 ∷ []) ∷ (0 ∷ 0 ∷ 0 ∷ 4 ∷ []) ∷ []
unfolding digits
picked_as_reserved = refl

-- What an entry under rules 1 can't have: an act whose sheet has a hundred lines, or a larger
-- quantity.

abbrev hundred : Act
hundred = Count (codes "SHP1") (map (λ k. line (codes "BOLT") (codes "L" ++ decimal k) 1) (range_with_len 100 100))

abbrev large : Act
large = Count (codes "SHP1") (line (codes "BOLT") (codes "L1") 100000 ∷ [])

read_by_their_rules : act_of One (canonical hundred) ∷ act_of Two (canonical hundred) ∷ act_of One (canonical large) ∷ act_of Two (canonical large) ∷ []
    ≡ None ∷ Some hundred ∷ None ∷ Some large ∷ []
unfolding digits
read_by_their_rules = refl

-- nor does a register have rules that fall, or other rules
rules_read : map rules_in ((Number 1 ∷ Number 1 ∷ []) ∷ (Number 2 ∷ Number 2 ∷ []) ∷ (Number 3 ∷ Number 0 ∷ []) ∷ (Number 4 ∷ Number 7 ∷ []) ∷ [])
    ≡ Some One ∷ Some Two ∷ None ∷ None ∷ []
rules_read = refl

rules_fall : never_fall One (book One (dated ∷ []) ++ book Two (six ∷ [])) ∷ never_fall One (book Two (dated ∷ []) ++ book One (six ∷ [])) ∷ [] ≡ true ∷ false ∷ []
unfolding digits
rules_fall = refl
