-- Worked examples of trade: counts, orders, picks, recounts, acknowledgments received.
use Rattle.std.specs.Prelude.{◌≡◌, ℕ, true, List, [], ◌∷◌, ◌++◌, map, length, if◌then◌else◌, ◌==◌, codes, flat_map, option_to_list}
use Rattle.std.proofs.Common.{refl}
use Rattle.std.specs.Fmt.{digits}
use Rattle.definitions.specs.declared.rules.Rules.{Rules}
use Rattle.definitions.specs.declared.rules.Rules.TheVariants.{One, Two}
use Rattle.definitions.specs.Moments.{Moment}
use Rattle.definitions.specs.Means.{Line}
use Rattle.definitions.specs.Register.{Count, Pick, Recount, Command, Interchange, own, next_number}
use Rattle.definitions.specs.Events.{order_under}
use Rattle.definitions.specs.Allotment.{allot}
use Rattle.definitions.specs.Refusals.{Duplicate, NotReserved, UnknownLot, BelowReserved, NoDifference}
use Rattle.definitions.specs.History.{events}
use Rattle.definitions.specs.Texts.{ak901}
use Rattle.definitions.specs.Reply.{Reply, Accepted, Stored, Refused}
use Rattle.definitions.specs.Accepted.{is_accepted, IsLegal}
use Rattle.definitions.specs.Rows.{outbox_rows}
use Rattle.definitions.proofs.Sample.{WHSE1, ACME, later, isa_in, gs_in, iea, sent, received, refusal_of, first_advice, first_answer, enrols, sends, line, does, book, replies, reply_after, balances}

-- A document's interchange.
abbrev pub sent_document : List ℕ → List ℕ → List ℕ → List ℕ → List ℕ
sent_document function control n set = sent function control n set

-- The main book: the advice, its count, an order, its pick, an acknowledgment.

abbrev pub first_receipt : Command × Moment
first_receipt = does (codes "T1") (Count (codes "SHP1") (line (codes "BOLT") (codes "L1") 90 ∷ []))

abbrev pub first_order : List ℕ
first_order = received (codes "000000002") (codes "0") (codes "OW") (codes "2") (codes "ST*940*0001~W05*N*ORD1~LX*1~W01*120*EA**SK*BOLT~W76*120~SE*6*0001~")

abbrev pub first_pick : Command × Moment
first_pick = does (codes "T2") (Pick (codes "ORD1") (line (codes "BOLT") (codes "L1") 90 ∷ []))

abbrev pub acknowledged : List ℕ → List ℕ → List ℕ → List ℕ → List ℕ
acknowledged control n ak1 ak901 = received control (codes "0") (codes "FA") n
    (codes "ST*997*0001~AK1*" ++ ak1 ++ codes "~AK2*945*0001~AK5*A~AK9*" ++ ak901 ++ codes "*1*1*1~SE*6*0001~")

abbrev pub last_acknowledgment : List ℕ
last_acknowledgment = acknowledged (codes "000000003") (codes "3") (codes "SW*4") (codes "A")

abbrev pub count_text : List ℕ
count_text = sent (codes "RE") (codes "000000002") (codes "2")
    (codes "ST*944*0001~W17*F*20250304*2*PO77*SHP1~W07*90*EA**SK*BOLT~N9*LT*L1~W14*90*100~SE*6*0001~")

abbrev pub order_text : List ℕ
order_text = sent (codes "FA") (codes "000000003") (codes "3")
    (codes "ST*997*0001~AK1*OW*2~AK2*940*0001~AK5*A~AK9*A*1*1*1~SE*6*0001~")

abbrev pub pick_text : List ℕ
pick_text = sent (codes "SW") (codes "000000004") (codes "4")
    (codes "ST*945*0001~W06*F*ORD1*20250304*4~LX*1~W12*CP*120*90*30*EA**SK*BOLT~N9*LT*L1*90~W03*90~SE*7*0001~")

-- up to the count, the order, the pick, the acknowledgment
abbrev pub until_count : List (Command × Moment)
until_count = sends first_advice ∷ first_receipt ∷ []

abbrev pub until_order : List (Command × Moment)
until_order = until_count ++ sends first_order ∷ []

abbrev pub until_pick : List (Command × Moment)
until_pick = until_order ++ first_pick ∷ []

abbrev pub until_acknowledgment : List (Command × Moment)
until_acknowledgment = until_pick ++ sends last_acknowledgment ∷ []

input_lengths : length first_order ∷ length last_acknowledgment ∷ [] ≡ 237 ∷ 233 ∷ []
input_lengths = refl

count_accepted : (r : Rules) → reply_after r (sends first_advice ∷ []) first_receipt ≡ Accepted count_text
unfolding digits
count_accepted One = refl
count_accepted Two = refl

count_moves : (r : Rules) → balances r until_count (codes "BOLT") (codes "L1") ≡ 0 ∷ 90 ∷ 0 ∷ 0 ∷ []
unfolding digits
count_moves One = refl
count_moves Two = refl

order_accepted : (r : Rules) → reply_after r until_count (sends first_order) ≡ Accepted order_text
unfolding digits
order_accepted One = refl
order_accepted Two = refl

order_reserves : (r : Rules) → balances r until_order (codes "BOLT") (codes "L1") ≡ 0 ∷ 90 ∷ 90 ∷ 0 ∷ []
unfolding digits
order_reserves One = refl
order_reserves Two = refl

pick_accepted : (r : Rules) → reply_after r until_order first_pick ≡ Accepted pick_text
unfolding digits
pick_accepted One = refl
pick_accepted Two = refl

pick_moves : (r : Rules) → balances r until_pick (codes "BOLT") (codes "L1") ≡ 0 ∷ 0 ∷ 0 ∷ 90 ∷ []
unfolding digits
pick_moves One = refl
pick_moves Two = refl

acknowledgment_accepted : (r : Rules) → reply_after r until_pick (sends last_acknowledgment) ≡ Accepted []
unfolding digits
acknowledgment_accepted One = refl
acknowledgment_accepted Two = refl

number_after_acknowledgment : (r : Rules) → next_number (own (book r until_acknowledgment) ACME) ≡ 6
unfolding digits
number_after_acknowledgment One = refl
number_after_acknowledgment Two = refl

-- the whole book at once, with the resend and the changed resend
main_book : (r : Rules) → replies r (sends first_advice ∷ (Interchange first_advice, later)
    ∷ sends (received (codes "000000001") (codes "1") (codes "AR") (codes "1") (codes "ST*943*0001~W06*F*PO77*20250303*SHP1~W04*101*EA**SK*BOLT~N9*LT*L1~W03*101~SE*6*0001~"))
    ∷ first_receipt ∷ sends first_order ∷ first_pick ∷ sends last_acknowledgment ∷ [])
    ≡ Accepted first_answer ∷ Stored first_answer ∷ Refused Duplicate (refusal_of (codes "000000001") (codes "025"))
    ∷ Accepted count_text ∷ Accepted order_text ∷ Accepted pick_text ∷ Accepted [] ∷ []
unfolding digits
main_book One = refl
main_book Two = refl

-- its register is legal
main_book_legal : (r : Rules) → IsLegal r WHSE1 (book r until_acknowledgment)
unfolding digits
main_book_legal One = record { first = []; commands = enrols ∷ until_acknowledgment; of_a_partner = refl; first_given = refl; given = refl; left = refl }
main_book_legal Two = record { first = []; commands = enrols ∷ until_acknowledgment; of_a_partner = refl; first_given = refl; given = refl; left = refl }

-- A count that differs from its advice.

abbrev pub second_advice : List ℕ
second_advice = received (codes "000000001") (codes "0") (codes "AR") (codes "1")
    (codes "ST*943*0001~W06*F*PO78*20250303*SHP2~W04*10*EA**SK*BOLT~N9*LT*L1~W04*4*EA**SK*NUT~N9*LT*L9~W03*14~SE*8*0001~")

abbrev pub second_count : Command × Moment
second_count = does (codes "T1") (Count (codes "SHP2") (line (codes "BOLT") (codes "L1") 10 ∷ line (codes "BOLT") (codes "L2") 3 ∷ []))

count_differs : (r : Rules) → reply_after r (sends second_advice ∷ []) second_count ≡ Accepted (sent (codes "RE") (codes "000000002") (codes "2")
    (codes "ST*944*0001~W17*F*20250304*2*PO78*SHP2~W07*10*EA**SK*BOLT~N9*LT*L1~W07*3*EA**SK*BOLT~N9*LT*L2~W07*0*EA**SK*NUT~N9*LT*L9~W14*13*14~SE*10*0001~"))
unfolding digits
count_differs One = refl
count_differs Two = refl

recount_of_uncounted : (r : Rules) → reply_after r (sends second_advice ∷ second_count ∷ []) (does (codes "T2") (Recount (line (codes "NUT") (codes "L9") 1 ∷ []))) ≡ Refused UnknownLot []
unfolding digits
recount_of_uncounted One = refl
recount_of_uncounted Two = refl

-- Allotment.

shares_given : allot (5 ∷ 7 ∷ []) 6 ∷ allot (5 ∷ 7 ∷ []) 13 ∷ allot (5 ∷ 7 ∷ []) 0 ∷ allot [] 4 ∷ [] ≡ (5 ∷ 1 ∷ []) ∷ (5 ∷ 7 ∷ []) ∷ (0 ∷ 0 ∷ []) ∷ [] ∷ []
shares_given = refl

abbrev pub two_orders : List ℕ
two_orders = isa_in (codes "000000002") (codes "0") ++ gs_in (codes "OW") (codes "2")
    ++ codes "ST*940*0001~W05*N*ORD1~LX*1~W01*60*EA**SK*BOLT~W76*60~SE*6*0001~"
    ++ codes "ST*940*0002~W05*N*ORD2~LX*1~W01*60*EA**SK*BOLT~W76*60~SE*6*0002~"
    ++ codes "GE*2*2~" ++ iea (codes "1") (codes "000000002")

two_orders_accepted : (r : Rules) → reply_after r until_count (sends two_orders) ≡ Accepted (sent (codes "FA") (codes "000000003") (codes "3")
    (codes "ST*997*0001~AK1*OW*2~AK2*940*0001~AK5*A~AK2*940*0002~AK5*A~AK9*A*2*2*2~SE*8*0001~"))
unfolding digits
two_orders_accepted One = refl
two_orders_accepted Two = refl

-- what an order has reserved
abbrev pub reserved_for : Rules → List (Command × Moment) → List ℕ → List Line
reserved_for r cs number = flat_map (λ r. r.shares) (option_to_list (order_under number (events (own (book r cs) ACME))))

second_order_gets_the_rest : (r : Rules) → reserved_for r (until_count ++ sends two_orders ∷ []) (codes "ORD1") ++ reserved_for r (until_count ++ sends two_orders ∷ []) (codes "ORD2")
    ≡ line (codes "BOLT") (codes "L1") 60 ∷ line (codes "BOLT") (codes "L1") 30 ∷ []
unfolding digits
second_order_gets_the_rest One = refl
second_order_gets_the_rest Two = refl

-- two lots from one count, and an order of six
abbrev pub two_lots : List ℕ
two_lots = received (codes "000000001") (codes "0") (codes "AR") (codes "1")
    (codes "ST*943*0001~W06*F*PO77*20250303*SHP1~W04*5*EA**SK*BOLT~N9*LT*L1~W04*7*EA**SK*BOLT~N9*LT*L2~W03*12~SE*8*0001~")

abbrev pub both_counted : Command × Moment
both_counted = does (codes "T1") (Count (codes "SHP1") (line (codes "BOLT") (codes "L1") 5 ∷ line (codes "BOLT") (codes "L2") 7 ∷ []))

abbrev order_of_six : List ℕ → Command × Moment
order_of_six pin = sends (received (codes "000000002") (codes "0") (codes "OW") (codes "2")
    (codes "ST*940*0001~W05*N*ORD1~LX*1~W01*6*EA**SK*BOLT~" ++ pin ++ codes "W76*6~SE*" ++ (if length pin == 0 then codes "6" else codes "7") ++ codes "*0001~"))

abbrev six_ordered : List (Command × Moment)
six_ordered = sends two_lots ∷ both_counted ∷ order_of_six [] ∷ []

first_lot_first : (r : Rules) → reserved_for r six_ordered (codes "ORD1") ≡ line (codes "BOLT") (codes "L1") 5 ∷ line (codes "BOLT") (codes "L2") 1 ∷ []
unfolding digits
first_lot_first One = refl
first_lot_first Two = refl

pinned_lot_alone : (r : Rules) → balances r (sends two_lots ∷ both_counted ∷ order_of_six (codes "N9*LT*L2~") ∷ []) (codes "BOLT") (codes "L1")
    ++ balances r (sends two_lots ∷ both_counted ∷ order_of_six (codes "N9*LT*L2~") ∷ []) (codes "BOLT") (codes "L2")
    ≡ 0 ∷ 5 ∷ 0 ∷ 0 ∷ 0 ∷ 7 ∷ 6 ∷ 0 ∷ []
unfolding digits
pinned_lot_alone One = refl
pinned_lot_alone Two = refl

-- Picks of the order of six.

abbrev pick_of_six : Rules → List Line → Reply
pick_of_six r sheet = reply_after r six_ordered (does (codes "T2") (Pick (codes "ORD1") sheet))

abbrev shipped_945 : List ℕ → Reply
shipped_945 told = Accepted (sent (codes "SW") (codes "000000004") (codes "4") (codes "ST*945*0001~W06*F*ORD1*20250304*4~LX*1~W12*" ++ told))

picks_of_six : (r : Rules) → map (pick_of_six r)
    ((line (codes "BOLT") (codes "L1") 5 ∷ line (codes "BOLT") (codes "L2") 1 ∷ [])
    ∷ (line (codes "BOLT") (codes "L1") 5 ∷ [])
    ∷ []
    ∷ (line (codes "BOLT") (codes "L2") 2 ∷ [])
    ∷ [])
    ≡ shipped_945 (codes "CC*6*6*0*EA**SK*BOLT~N9*LT*L1*5~N9*LT*L2*1~W03*6~SE*8*0001~")
    ∷ shipped_945 (codes "CP*6*5*1*EA**SK*BOLT~N9*LT*L1*5~W03*5~SE*7*0001~")
    ∷ shipped_945 (codes "CP*6*0*6*EA**SK*BOLT~W03*0~SE*6*0001~")
    ∷ Refused NotReserved []
    ∷ []
unfolding digits
picks_of_six One = refl
picks_of_six Two = refl

rest_released : (r : Rules) → balances r (six_ordered ++ does (codes "T2") (Pick (codes "ORD1") (line (codes "BOLT") (codes "L1") 5 ∷ [])) ∷ []) (codes "BOLT") (codes "L2") ≡ 0 ∷ 7 ∷ 0 ∷ 0 ∷ []
unfolding digits
rest_released One = refl
rest_released Two = refl

refused_pick_moves_nothing : (r : Rules) → reserved_for r (six_ordered ++ does (codes "T2") (Pick (codes "ORD1") (line (codes "BOLT") (codes "L2") 2 ∷ [])) ∷ []) (codes "ORD1")
    ≡ line (codes "BOLT") (codes "L1") 5 ∷ line (codes "BOLT") (codes "L2") 1 ∷ []
unfolding digits
refused_pick_moves_nothing One = refl
refused_pick_moves_nothing Two = refl

-- Recounts.

abbrev ten_on_hand : List (Command × Moment)
ten_on_hand = sends (received (codes "000000001") (codes "0") (codes "AR") (codes "1")
    (codes "ST*943*0001~W06*F*PO77*20250303*SHP1~W04*10*EA**SK*BOLT~N9*LT*L1~W03*10~SE*6*0001~"))
    ∷ does (codes "T1") (Count (codes "SHP1") (line (codes "BOLT") (codes "L1") 10 ∷ [])) ∷ []

abbrev ordered : List ℕ → Command × Moment
ordered quantity = sends (received (codes "000000002") (codes "0") (codes "OW") (codes "2")
    (codes "ST*940*0001~W05*N*ORD1~LX*1~W01*" ++ quantity ++ codes "*EA**SK*BOLT~W76*" ++ quantity ++ codes "~SE*6*0001~"))

abbrev recount_to : ℕ → Command × Moment
recount_to quantity = does (codes "T2") (Recount (line (codes "BOLT") (codes "L1") quantity ∷ []))

recounts : (r : Rules) → reply_after r (ten_on_hand ++ ordered (codes "8") ∷ []) (recount_to 7)
    ∷ reply_after r (ten_on_hand ++ ordered (codes "7") ∷ []) (recount_to 7)
    ∷ reply_after r (ten_on_hand ++ ordered (codes "7") ∷ []) (recount_to 10) ∷ []
    ≡ Refused BelowReserved []
    ∷ Accepted (sent (codes "AW") (codes "000000004") (codes "4") (codes "ST*947*0001~W15*20250304*4~W19*AA*-3*EA**SK*BOLT~N9*LT*L1~SE*5*0001~"))
    ∷ Refused NoDifference [] ∷ []
unfolding digits
recounts One = refl
recounts Two = refl

-- Trade faults of orders.

order_number_again : (r : Rules) → reply_after r until_order (sends (received (codes "000000003") (codes "0") (codes "OW") (codes "3") (codes "ST*940*0001~W05*N*ORD1~LX*1~W01*5*EA**SK*BOLT~W76*5~SE*6*0001~")))
    ≡ Accepted (sent (codes "FA") (codes "000000004") (codes "4") (codes "ST*997*0001~AK1*OW*3~AK2*940*0001~AK3*W05*2**8~AK4*2**7~AK5*R*5~AK9*R*1*1*0~SE*8*0001~"))
unfolding digits
order_number_again One = refl
order_number_again Two = refl

order_number_again_reserves_nothing : (r : Rules) → balances r (until_order ++ sends (received (codes "000000003") (codes "0") (codes "OW") (codes "3") (codes "ST*940*0001~W05*N*ORD1~LX*1~W01*5*EA**SK*BOLT~W76*5~SE*6*0001~")) ∷ []) (codes "BOLT") (codes "L1")
    ≡ 0 ∷ 90 ∷ 90 ∷ 0 ∷ []
unfolding digits
order_number_again_reserves_nothing One = refl
order_number_again_reserves_nothing Two = refl

pinned_to_uncounted : (r : Rules) → let c = sends (received (codes "000000002") (codes "0") (codes "OW") (codes "2") (codes "ST*940*0001~W05*N*ORD1~LX*1~W01*10*EA**SK*BOLT~N9*LT*L1~W76*10~SE*7*0001~")) in
    is_accepted (reply_after r (sends first_advice ∷ []) c) ≡ true
unfolding digits
pinned_to_uncounted r = refl

pinned_to_uncounted_balances : (r : Rules) → balances r (sends first_advice ∷ sends (received (codes "000000002") (codes "0") (codes "OW") (codes "2") (codes "ST*940*0001~W05*N*ORD1~LX*1~W01*10*EA**SK*BOLT~N9*LT*L1~W76*10~SE*7*0001~")) ∷ []) (codes "BOLT") (codes "L1")
    ≡ 100 ∷ 0 ∷ 0 ∷ 0 ∷ []
unfolding digits
pinned_to_uncounted_balances One = refl
pinned_to_uncounted_balances Two = refl

order_faults : (r : Rules) → map (λ set. reply_after r until_count (sends (received (codes "000000002") (codes "0") (codes "OW") (codes "2") set)))
    (codes "ST*940*0001~W05*N*ORD1~LX*1~W01*120*EA**SK*BOLT~W76*121~SE*6*0001~"
    ∷ codes "ST*940*0001~W05*N*ORD1~LX*1~W01*1*EA**SK*BOLT~LX*2~W01*2*EA**SK*BOLT~W76*4~SE*8*0001~"
    ∷ [])
    ≡ Accepted (sent (codes "FA") (codes "000000003") (codes "3") (codes "ST*997*0001~AK1*OW*2~AK2*940*0001~AK3*W76*5**8~AK4*1**7~AK5*R*5~AK9*R*1*1*0~SE*8*0001~"))
    ∷ Accepted (sent (codes "FA") (codes "000000003") (codes "3") (codes "ST*997*0001~AK1*OW*2~AK2*940*0001~AK3*W01*6**8~AK4*5**7~AK5*R*5~AK9*R*1*1*0~SE*8*0001~"))
    ∷ []
unfolding digits
order_faults One = refl
order_faults Two = refl

-- Acknowledgments received.

abbrev states : Rules → List (Command × Moment) → List (List ℕ)
states r cs = map (λ r. r.state) (outbox_rows WHSE1 (own (book r cs) ACME))

abbrev refuses_4 : Command × Moment
refuses_4 = sends (acknowledged (codes "000000004") (codes "4") (codes "SW*0004") (codes "R"))

refused_document : (r : Rules) → states r (until_pick ++ refuses_4 ∷ []) ≡ codes "-" ∷ codes "open" ∷ codes "-" ∷ codes "refused" ∷ []
unfolding digits
refused_document One = refl
refused_document Two = refl

first_997_decides : (r : Rules) → states r (until_pick ++ refuses_4 ∷ sends last_acknowledgment ∷ []) ≡ codes "-" ∷ codes "open" ∷ codes "-" ∷ codes "refused" ∷ []
unfolding digits
first_997_decides One = refl
first_997_decides Two = refl

other_function : (r : Rules) → states r (until_pick ++ sends (acknowledged (codes "000000004") (codes "4") (codes "RE*4") (codes "A")) ∷ []) ≡ codes "-" ∷ codes "open" ∷ codes "-" ∷ codes "open" ∷ []
unfolding digits
other_function One = refl
other_function Two = refl

bad_acknowledgment : (r : Rules) → let c = sends (acknowledged (codes "000000003") (codes "3") (codes "SW*4") (codes "X")) in
    reply_after r until_pick c ≡ Accepted []
unfolding digits
bad_acknowledgment One = refl
bad_acknowledgment Two = refl

bad_acknowledgment_states : (r : Rules) → states r (until_pick ++ sends (acknowledged (codes "000000003") (codes "3") (codes "SW*4") (codes "X")) ∷ []) ≡ codes "-" ∷ codes "open" ∷ codes "-" ∷ codes "open" ∷ []
unfolding digits
bad_acknowledgment_states One = refl
bad_acknowledgment_states Two = refl
