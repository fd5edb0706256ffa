-- The texts of the worked examples: the warehouse ZZ WHSE1, the depositor ZZ ACME, the moment
-- 2025-03-04 09:15.
use Rattle.std.specs.Prelude.{ℕ, List, [], ◌∷◌, ◌++◌, Some, None, codes, Option}
use Rattle.definitions.specs.declared.rules.Rules.{Rules}
use Rattle.definitions.specs.Moments.{Moment}
use Rattle.definitions.specs.Header.{Who}
use Rattle.definitions.specs.Means.{Line}
use Rattle.definitions.specs.Register.{Act, Command, Interchange, Enrol, Clerk, Entry, own}
use Rattle.definitions.specs.Movements.{Expected, OnHand, Reservation, Shipped, balance}
use Rattle.definitions.specs.Refusals.{Refusal}
use Rattle.definitions.specs.History.{events}
use Rattle.definitions.specs.Reply.{Reply, Refused}
use Rattle.definitions.specs.Accepted.{reply_to, accepted_on, replies_on}

abbrev pub WHSE1 : Who
WHSE1 = record { qualifier = codes "ZZ"; id = codes "WHSE1" }

abbrev pub ACME : Who
ACME = record { qualifier = codes "ZZ"; id = codes "ACME" }

abbrev pub morning : Moment
morning = record { year = 2025; month = 3; day = 4; hour = 9; minute = 15 }

abbrev pub later : Moment
later = record { year = 2025; month = 3; day = 5; hour = 10; minute = 0 }

-- ISA as received, under a control number, with ISA14
abbrev pub isa_in : List ℕ → List ℕ → List ℕ
isa_in control request = codes "ISA*00*          *00*          *ZZ*ACME           *ZZ*WHSE1          *250304*0915*U*00401*"
    ++ control ++ codes "*" ++ request ++ codes "*P*>~"

-- ISA as sent
abbrev pub isa_out : List ℕ → List ℕ
isa_out control = codes "ISA*00*          *00*          *ZZ*WHSE1          *ZZ*ACME           *250304*0915*U*00401*"
    ++ control ++ codes "*0*P*>~"

abbrev pub gs_in : List ℕ → List ℕ → List ℕ
gs_in function control = codes "GS*" ++ function ++ codes "*ACME*WHSE1*20250304*0915*" ++ control ++ codes "*X*004010~"

abbrev pub gs_out : List ℕ → List ℕ → List ℕ
gs_out function control = codes "GS*" ++ function ++ codes "*WHSE1*ACME*20250304*0915*" ++ control ++ codes "*X*004010~"

abbrev pub iea : List ℕ → List ℕ → List ℕ
iea groups control = codes "IEA*" ++ groups ++ codes "*" ++ control ++ codes "~"

-- an interchange of ours of one group with one set: everything between GS and GE is given
abbrev pub sent : List ℕ → List ℕ → List ℕ → List ℕ → List ℕ
sent function control n body = isa_out control ++ gs_out function n ++ body ++ codes "GE*1*" ++ n ++ codes "~" ++ iea (codes "1") control

-- a received interchange of one group
abbrev pub received : List ℕ → List ℕ → List ℕ → List ℕ → List ℕ → List ℕ
received control request function n body =
    isa_in control request ++ gs_in function n ++ body ++ codes "GE*1*" ++ n ++ codes "~" ++ iea (codes "1") control

-- our refusal of an interchange
abbrev pub refusal_of : List ℕ → List ℕ → List ℕ
refusal_of control note = isa_out (codes "000000000") ++ codes "TA1*" ++ control ++ codes "*250304*0915*R*" ++ note ++ codes "~" ++ iea (codes "0") (codes "000000000")

-- the first advice, and its interchange
abbrev pub first_set : List ℕ
first_set = codes "ST*943*0001~W06*F*PO77*20250303*SHP1~W04*100*EA**SK*BOLT~N9*LT*L1~W03*100~SE*6*0001~"

abbrev pub first_advice : List ℕ
first_advice = received (codes "000000001") (codes "1") (codes "AR") (codes "1") first_set

abbrev pub first_answer : List ℕ
first_answer = isa_out (codes "000000001") ++ codes "TA1*000000001*250304*0915*A*000~" ++ gs_out (codes "FA") (codes "1")
    ++ codes "ST*997*0001~AK1*AR*1~AK2*943*0001~AK5*A~AK9*A*1*1*1~SE*6*0001~GE*1*1~" ++ iea (codes "1") (codes "000000001")

-- the commands
abbrev pub enrols : Command × Moment
enrols = (Enrol ACME, morning)

abbrev pub sends : List ℕ → Command × Moment
sends text = (Interchange text, morning)

abbrev pub line : List ℕ → List ℕ → ℕ → Line
line item lot quantity = record { item = item; lot = lot; quantity = quantity }

abbrev pub does : List ℕ → Act → Command × Moment
does ticket act = (Clerk ACME ticket act, morning)

-- the book after these commands after the enrolment, and the last of their replies
abbrev pub book : Rules → List (Command × Moment) → List Entry
book r cs = accepted_on r WHSE1 [] (enrols ∷ cs)

abbrev pub replies : Rules → List (Command × Moment) → List Reply
replies r cs = replies_on r WHSE1 (book r []) cs

abbrev pub reply_after : Rules → List (Command × Moment) → Command × Moment → Reply
reply_after r cs c = reply_to r WHSE1 (book r cs) c.0 c.1

-- expected, on hand, reserved and shipped of a pair
abbrev pub balances : Rules → List (Command × Moment) → List ℕ → List ℕ → List ℕ
balances r cs item lot = let es = events (own (book r cs) ACME) in
    balance es Expected item lot ∷ balance es OnHand item lot ∷ balance es Reservation item lot ∷ balance es Shipped item lot ∷ []

-- a small answer to an AR group without ISA14: the 997's segments between AK1 and SE, with SE's
-- count
abbrev pub told_AR : List ℕ → List ℕ → List ℕ
told_AR told count = sent (codes "FA") (codes "000000001") (codes "1")
    (codes "ST*997*0001~AK1*AR*1~" ++ told ++ codes "SE*" ++ count ++ codes "*0001~")

-- the answer to a set alone in its AR group, in a fresh book
abbrev pub answer_AR : Rules → List ℕ → Reply
answer_AR r body = reply_after r [] (sends (received (codes "000000001") (codes "0") (codes "AR") (codes "1") body))

-- the refusal, without its answer
abbrev pub refusal_alone : Reply → Option Refusal
refusal_alone (Refused r text) = Some r
refusal_alone r = None
