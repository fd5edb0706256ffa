-- Worked examples of books of version 1 that are carried over: their entries keep rules 1.
use Rattle.std.specs.Prelude.{◌≡◌, ℕ, true, false, List, [], ◌∷◌, ◌++◌, map, find, unwrap_or, option_map, option_to_list, Some, codes, bytes_eq, decimal, flat_map}
use Rattle.std.specs.List.{range_with_len}
use Rattle.std.proofs.Common.{refl}
use Rattle.std.specs.Fmt.{digits}
use Rattle.definitions.specs.declared.rules.Rules.TheVariants.{One, Two}
use Rattle.definitions.specs.Rules.{rules_number}
use Rattle.definitions.specs.Moments.{Moment}
use Rattle.definitions.specs.Means.{Line}
use Rattle.definitions.specs.Register.{Command, Entry, Interchange, own}
use Rattle.definitions.specs.Events.{order_under, is_advice_open, expiry}
use Rattle.definitions.specs.History.{events}
use Rattle.definitions.specs.Reply.{Reply, Accepted, Stored}
use Rattle.definitions.specs.Accepted.{reply_to, accepted_on, IsLegal}
use Rattle.definitions.specs.Rows.{stock_rows}
use Rattle.definitions.specs.Tables.{TableRow, AllTables, tables, entry_rules_table, lot_expiry_table, Number}
use Rattle.definitions.specs.Schema.{Contents}
use Rattle.definitions.specs.Carried.{carried}
use Rattle.definitions.proofs.Sample.{WHSE1, ACME, later, received, sent, first_advice, first_answer, enrols, sends, line, book, told_AR}
use Rattle.definitions.proofs.RowsTrade.{first_pick, pick_text, until_count, until_order, until_acknowledgment, both_counted}
use Rattle.definitions.proofs.RowsSchema.{same_tables}

-- commands under rules 2 on a book of commands under rules 1
abbrev carried_book : List (Command × Moment) → List (Command × Moment) → List Entry
carried_book first cs = accepted_on Two WHSE1 (book One first) cs

abbrev reply_carried : List (Command × Moment) → List (Command × Moment) → Command × Moment → Reply
reply_carried first cs c = reply_to Two WHSE1 (carried_book first cs) c.0 c.1

-- resent and picked after the change
resent_and_picked : reply_carried until_order [] (Interchange first_advice, later) ∷ reply_carried until_order [] first_pick ∷ [] ≡ Stored first_answer ∷ Accepted pick_text ∷ []
unfolding digits
resent_and_picked = refl

rules_of_each : map (λ e. rules_number e.rules) (carried_book until_order (first_pick ∷ [])) ≡ 1 ∷ 1 ∷ 1 ∷ 1 ∷ 2 ∷ []
unfolding digits
rules_of_each = refl

carried_legal : IsLegal Two WHSE1 (carried_book until_order (first_pick ∷ []))
unfolding digits
carried_legal = record { first = enrols ∷ until_order; commands = first_pick ∷ []; of_a_partner = refl; first_given = refl; given = refl; left = refl }

-- A date in an interchange of version 1: its set was refused, and it stays so.

abbrev dated_set : List ℕ → List ℕ
dated_set shipment = codes "ST*943*0001~W06*F*PO77*20250303*" ++ shipment ++ codes "~W04*100*EA**SK*BOLT~N9*LT*L1**20250630~W03*100~SE*6*0001~"

abbrev dated_advice : Command × Moment
dated_advice = sends (received (codes "000000001") (codes "0") (codes "AR") (codes "1") (dated_set (codes "SHP1")))

abbrev dated_again : Command × Moment
dated_again = sends (received (codes "000000002") (codes "0") (codes "AR") (codes "1") (dated_set (codes "SHP1")))

abbrev refused_date : List ℕ
refused_date = told_AR (codes "AK2*943*0001~AK3*N9*4**8~AK4*4**3~AK5*R*5~AK9*R*1*1*0~") (codes "8")

stays_refused : reply_carried (dated_advice ∷ []) [] dated_advice ≡ Stored refused_date
unfolding digits
stays_refused = refl

not_open : is_advice_open (codes "SHP1") (events (own (carried_book (dated_advice ∷ []) []) ACME)) ≡ false
unfolding digits
not_open = refl

announced_again : reply_carried (dated_advice ∷ []) [] dated_again
    ≡ Accepted (sent (codes "FA") (codes "000000002") (codes "2") (codes "ST*997*0001~AK1*AR*1~AK2*943*0001~AK5*A~AK9*A*1*1*1~SE*6*0001~"))
unfolding digits
announced_again = refl

dated_then : expiry (events (own (carried_book (dated_advice ∷ []) (dated_again ∷ [])) ACME)) (codes "BOLT") (codes "L1") ≡ Some (codes "20250630")
unfolding digits
dated_then = refl

-- An order of 100 lines, which version 1 refused.

abbrev hundred_lines : Command × Moment
hundred_lines = sends (received (codes "000000002") (codes "0") (codes "OW") (codes "2")
    (codes "ST*940*0001~W05*N*ORD1~" ++ flat_map (λ k. codes "LX*1~W01*1*EA**SK*BOLT" ++ decimal k ++ codes "~") (range_with_len 1 100)
    ++ codes "W76*100~SE*204*0001~"))

abbrev refused_lines : List ℕ
refused_lines = sent (codes "FA") (codes "000000003") (codes "3")
    (codes "ST*997*0001~AK1*OW*2~AK2*940*0001~AK3*LX*201**2~AK5*R*5~AK9*R*1*1*0~SE*7*0001~")

lines_stay_refused : reply_carried (until_count ++ hundred_lines ∷ []) [] hundred_lines ≡ Stored refused_lines
unfolding digits
lines_stay_refused = refl

reserves_nothing : map (λ r. r.reserved) (stock_rows (own (carried_book (until_count ++ hundred_lines ∷ []) []) ACME)) ≡ 0 ∷ []
unfolding digits
reserves_nothing = refl

-- the same under rules 2 passes
lines_pass : reply_to Two WHSE1 (book Two until_count) hundred_lines.0 hundred_lines.1
    ≡ Accepted (sent (codes "FA") (codes "000000003") (codes "3") (codes "ST*997*0001~AK1*OW*2~AK2*940*0001~AK5*A~AK9*A*1*1*1~SE*6*0001~"))
unfolding digits
lines_pass = refl

-- Shares of an order of version 1 stay: they were allotted by the count alone.

abbrev lots_and_order : List (Command × Moment)
lots_and_order = sends (received (codes "000000001") (codes "0") (codes "AR") (codes "1")
    (codes "ST*943*0001~W06*F*PO77*20250303*SHP1~W04*5*EA**SK*BOLT~N9*LT*L1~W04*7*EA**SK*BOLT~N9*LT*L2~W03*12~SE*8*0001~"))
    ∷ both_counted ∷ sends (order_of (codes "000000002") (codes "ORD1") (codes "2")) ∷ []
  where
    order_of : List ℕ → List ℕ → List ℕ → List ℕ
    order_of control number quantity = received control (codes "0") (codes "OW") (codes "2")
        (codes "ST*940*0001~W05*N*" ++ number ++ codes "~LX*1~W01*" ++ quantity ++ codes "*EA**SK*BOLT~W76*" ++ quantity ++ codes "~SE*6*0001~")

-- then the second lot gets a date, and another order takes it first
abbrev date_and_order : List (Command × Moment)
date_and_order = sends (received (codes "000000003") (codes "0") (codes "AR") (codes "3")
    (codes "ST*943*0001~W06*F*PO77*20250303*SHP2~W04*1*EA**SK*BOLT~N9*LT*L2**20250630~W03*1~SE*6*0001~"))
    ∷ sends (received (codes "000000004") (codes "0") (codes "OW") (codes "4") (codes "ST*940*0001~W05*N*ORD2~LX*1~W01*8*EA**SK*BOLT~W76*8~SE*6*0001~"))
    ∷ []

abbrev shares_for : List ℕ → List Line
shares_for number = flat_map (λ r. r.shares) (option_to_list (order_under number (events (own (carried_book lots_and_order date_and_order) ACME))))

shares_stay : shares_for (codes "ORD1") ∷ shares_for (codes "ORD2") ∷ []
    ≡ (line (codes "BOLT") (codes "L1") 2 ∷ line (codes "BOLT") (codes "L2") 0 ∷ []) ∷ (line (codes "BOLT") (codes "L2") 7 ∷ line (codes "BOLT") (codes "L1") 1 ∷ []) ∷ []
unfolding digits
shares_stay = refl

-- Tables.

-- tables as the rows that each name has
abbrev contents : AllTables → Contents
contents ts name = unwrap_or (option_map (λ t. t.1) (find (λ t. bytes_eq t.0 name) ts)) []

-- what is carried over of a register's tables, by the names of version 2
abbrev carried_tables : List Entry → AllTables
carried_tables L = map (λ (t : List ℕ × List TableRow). (t.0, carried (contents (tables One WHSE1 L)) t.0)) (tables Two WHSE1 [])

tables_carried : same_tables (carried_tables (book One until_order)) (tables Two WHSE1 (book One until_order))
    ∷ same_tables (carried_tables (book One until_acknowledgment)) (tables Two WHSE1 (book One until_acknowledgment))
    ∷ same_tables (carried_tables (book One (dated_advice ∷ []))) (tables Two WHSE1 (book One (dated_advice ∷ []))) ∷ []
    ≡ true ∷ true ∷ true ∷ []
unfolding digits
tables_carried = refl

rules_and_dates : entry_rules_table (carried_book until_count []) ∷ lot_expiry_table (carried_book until_count []) ∷ []
    ≡ ((Number 1 ∷ Number 1 ∷ []) ∷ (Number 2 ∷ Number 1 ∷ []) ∷ (Number 3 ∷ Number 1 ∷ []) ∷ []) ∷ [] ∷ []
unfolding digits
rules_and_dates = refl
