-- Worked examples of expiries: dated lots, the order in which they are allotted, dates that gainsay
-- others.
use Rattle.std.specs.Prelude.{◌≡◌, ℕ, List, [], ◌∷◌, ◌++◌, map, Some, None, codes, Option}
use Rattle.std.proofs.Common.{refl}
use Rattle.std.specs.Fmt.{digits}
use Rattle.definitions.specs.declared.rules.Rules.TheVariants.{One, Two}
use Rattle.definitions.specs.Moments.{Moment}
use Rattle.definitions.specs.Register.{Count, Command, own}
use Rattle.definitions.specs.Events.{expiry}
use Rattle.definitions.specs.History.{events}
use Rattle.definitions.specs.Reply.{Reply, Accepted}
use Rattle.definitions.specs.Reports.{stock_report, stock_csv}
use Rattle.definitions.specs.Tables.{Number, Text, entry_rules_table, lot_expiry_table}
use Rattle.definitions.proofs.Sample.{ACME, received, sent, sends, line, does, book, reply_after, told_AR, answer_AR}
use Rattle.definitions.proofs.RowsTrade.{reserved_for}
use Rattle.definitions.proofs.RowsReports.{stock_after}

-- three lots of an item, with this N9 of the second
abbrev three_lots : List ℕ → List ℕ
three_lots n9 = codes "ST*943*0001~W06*F*PO77*20250303*SHP1~W04*5*EA**SK*BOLT~N9*LT*L1~W04*7*EA**SK*BOLT~" ++ n9
    ++ codes "W04*4*EA**SK*BOLT~N9*LT*L3**20250401~W03*16~SE*10*0001~"

abbrev pub dated : Command × Moment
dated = sends (received (codes "000000001") (codes "0") (codes "AR") (codes "1") (three_lots (codes "N9*LT*L2**20250630~")))

abbrev pub all_counted : Command × Moment
all_counted = does (codes "T1") (Count (codes "SHP1")
    (line (codes "BOLT") (codes "L1") 5 ∷ line (codes "BOLT") (codes "L2") 7 ∷ line (codes "BOLT") (codes "L3") 4 ∷ []))

abbrev six_of : List ℕ → Command × Moment
six_of lot = sends (received (codes "000000002") (codes "0") (codes "OW") (codes "2")
    (codes "ST*940*0001~W05*N*ORD1~LX*1~W01*6*EA**SK*BOLT~" ++ lot))

abbrev pub six : Command × Moment
six = six_of (codes "W76*6~SE*6*0001~")

abbrev until_six : List (Command × Moment)
until_six = dated ∷ all_counted ∷ six ∷ []

-- the first expired are given first: of the undated lot nothing is
first_expired_first : reserved_for Two until_six (codes "ORD1")
    ≡ line (codes "BOLT") (codes "L3") 4 ∷ line (codes "BOLT") (codes "L2") 2 ∷ line (codes "BOLT") (codes "L1") 0 ∷ []
unfolding digits
first_expired_first = refl

exported : stock_csv Two (stock_after Two until_six)
    ≡ codes "item,lot,expiry,expected,on_hand,reserved,shipped\nBOLT,L1,,0,5,0,0\nBOLT,L2,20250630,0,7,2,0\nBOLT,L3,20250401,0,4,4,0\n"
unfolding digits
exported = refl

reported : stock_report Two (stock_after Two until_six)
    ≡ codes "item                 lot          expiry          expected         on hand        reserved         shipped\n"
    ++ codes "BOLT                 L1                                  0               5               0               0\n"
    ++ codes "BOLT                 L2           20250630               0               7               2               0\n"
    ++ codes "BOLT                 L3           20250401               0               4               4               0\n"
unfolding digits
reported = refl

-- a pinned line has its lot alone
pinned : reserved_for Two (dated ∷ all_counted ∷ six_of (codes "N9*LT*L1~W76*6~SE*7*0001~") ∷ []) (codes "ORD1") ≡ line (codes "BOLT") (codes "L1") 5 ∷ []
unfolding digits
pinned = refl

-- the tables have the rules of each entry, and the pairs with a date
tabled : entry_rules_table (book Two until_six) ∷ lot_expiry_table (book Two until_six) ∷ []
    ≡ ((Number 1 ∷ Number 2 ∷ []) ∷ (Number 2 ∷ Number 2 ∷ []) ∷ (Number 3 ∷ Number 2 ∷ []) ∷ (Number 4 ∷ Number 2 ∷ []) ∷ [])
    ∷ ((Text (codes "ZZ-ACME") ∷ Text (codes "BOLT") ∷ Text (codes "L2") ∷ Text (codes "20250630") ∷ [])
    ∷ (Text (codes "ZZ-ACME") ∷ Text (codes "BOLT") ∷ Text (codes "L3") ∷ Text (codes "20250401") ∷ []) ∷ [])
    ∷ []
unfolding digits
tabled = refl

-- dates that are none
bad_dates : map (λ n9. answer_AR Two (three_lots n9)) (codes "N9*LT*L2**20250230~" ∷ codes "N9*LT*L2**2025~" ∷ codes "N9*LT*L2**20250630*X~" ∷ codes "N9*LT*L2**~" ∷ [])
    ≡ Accepted (told_AR (codes "AK2*943*0001~AK3*N9*6**8~AK4*4**8~AK5*R*5~AK9*R*1*1*0~") (codes "8"))
    ∷ Accepted (told_AR (codes "AK2*943*0001~AK3*N9*6**8~AK4*4**4~AK5*R*5~AK9*R*1*1*0~") (codes "8"))
    ∷ Accepted (told_AR (codes "AK2*943*0001~AK3*N9*6**8~AK4*5**3~AK5*R*5~AK9*R*1*1*0~") (codes "8"))
    ∷ Accepted (told_AR (codes "AK2*943*0001~AK5*A~AK9*A*1*1*1~") (codes "6"))
    ∷ []
unfolding digits
bad_dates = refl

-- under rules 1 there is no such element
no_date : answer_AR One (three_lots (codes "N9*LT*L2**20250630~"))
    ≡ Accepted (told_AR (codes "AK2*943*0001~AK3*N9*6**8~AK4*4**3~AK5*R*5~AK9*R*1*1*0~") (codes "8"))
unfolding digits
no_date = refl

-- nor in a 940
no_date_in_order : reply_after Two (dated ∷ all_counted ∷ []) (six_of (codes "N9*LT*L2**20250630~W76*6~SE*7*0001~"))
    ≡ Accepted (sent (codes "FA") (codes "000000003") (codes "3") (codes "ST*997*0001~AK1*OW*2~AK2*940*0001~AK3*N9*5**8~AK4*4**3~AK5*R*5~AK9*R*1*1*0~SE*8*0001~"))
unfolding digits
no_date_in_order = refl

-- Dates of a pair that has one.

-- a second advice with these lines and this end
abbrev again : List ℕ → Command × Moment
again lines = sends (received (codes "000000002") (codes "0") (codes "AR") (codes "2")
    (codes "ST*943*0001~W06*F*PO77*20250303*SHP2~" ++ lines))

abbrev second_told : List ℕ → Reply
second_told told = Accepted (sent (codes "FA") (codes "000000003") (codes "3") (codes "ST*997*0001~AK1*AR*2~AK2*943*0001~" ++ told))

dates_again : map (reply_after Two (dated ∷ all_counted ∷ []))
    (again (codes "W04*1*EA**SK*BOLT~N9*LT*L2**20250701~W03*1~SE*6*0001~")
    ∷ again (codes "W04*1*EA**SK*BOLT~N9*LT*L2**20250630~W03*1~SE*6*0001~")
    ∷ again (codes "W04*1*EA**SK*BOLT~N9*LT*L2~W03*1~SE*6*0001~")
    ∷ again (codes "W04*1*EA**SK*BOLT~N9*LT*L2**20250630~W04*1*EA**SK*BOLT~N9*LT*L2**20250701~W03*2~SE*8*0001~")
    ∷ again (codes "W04*1*EA**SK*NUT~N9*LT*L2~W04*1*EA**SK*BOLT~N9*LT*L2**20250701~W04*1*EA**SK*NUT~N9*LT*L2~W03*9~SE*10*0001~")
    ∷ again (codes "W04*1*EA**SK*NUT~N9*LT*L2~W04*1*EA**SK*NUT~N9*LT*L2~W04*1*EA**SK*BOLT~N9*LT*L2**20250701~W03*9~SE*10*0001~")
    ∷ [])
    ≡ second_told (codes "AK3*N9*4**8~AK4*4**7~AK5*R*5~AK9*R*1*1*0~SE*8*0001~")
    ∷ second_told (codes "AK5*A~AK9*A*1*1*1~SE*6*0001~")
    ∷ second_told (codes "AK5*A~AK9*A*1*1*1~SE*6*0001~")
    ∷ second_told (codes "AK3*N9*6**8~AK4*2**7~AK5*R*5~AK9*R*1*1*0~SE*8*0001~")
    ∷ second_told (codes "AK3*N9*6**8~AK4*4**7~AK5*R*5~AK9*R*1*1*0~SE*8*0001~")
    ∷ second_told (codes "AK3*N9*6**8~AK4*2**7~AK5*R*5~AK9*R*1*1*0~SE*8*0001~")
    ∷ []
unfolding digits
dates_again = refl

abbrev expiry_after : List (Command × Moment) → List ℕ → Option (List ℕ)
expiry_after cs lot = expiry (events (own (book Two cs) ACME)) (codes "BOLT") lot

-- the first date that was given stays, and a lot that had none gets one
first_date_stays : map (expiry_after (dated ∷ all_counted ∷ again (codes "W04*1*EA**SK*BOLT~N9*LT*L1**20250101~W04*1*EA**SK*BOLT~N9*LT*L2~W03*2~SE*8*0001~") ∷ []))
    (codes "L1" ∷ codes "L2" ∷ codes "L3" ∷ codes "L4" ∷ []) ≡ Some (codes "20250101") ∷ Some (codes "20250630") ∷ Some (codes "20250401") ∷ None ∷ []
unfolding digits
first_date_stays = refl

later_date_refused : expiry_after (dated ∷ all_counted ∷ again (codes "W04*1*EA**SK*BOLT~N9*LT*L2**20250701~W03*1~SE*6*0001~") ∷ []) (codes "L2") ≡ Some (codes "20250630")
unfolding digits
later_date_refused = refl

-- Two lots of one date from one count: the lots' bytes decide.

abbrev same_date : List (Command × Moment)
same_date = sends (received (codes "000000001") (codes "0") (codes "AR") (codes "1")
    (codes "ST*943*0001~W06*F*PO77*20250303*SHP1~W04*5*EA**SK*BOLT~N9*LT*L2**20250630~"
    ++ codes "W04*7*EA**SK*BOLT~N9*LT*L10**20250630~W03*12~SE*8*0001~"))
    ∷ does (codes "T1") (Count (codes "SHP1") (line (codes "BOLT") (codes "L10") 7 ∷ line (codes "BOLT") (codes "L2") 5 ∷ []))
    ∷ sends (received (codes "000000002") (codes "0") (codes "OW") (codes "2")
    (codes "ST*940*0001~W05*N*ORD1~LX*1~W01*8*EA**SK*BOLT~W76*8~SE*6*0001~"))
    ∷ []

lot_bytes_decide : reserved_for Two same_date (codes "ORD1") ≡ line (codes "BOLT") (codes "L10") 7 ∷ line (codes "BOLT") (codes "L2") 1 ∷ []
unfolding digits
lot_bytes_decide = refl
