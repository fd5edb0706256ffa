-- Worked examples of the last number of a depositor. Its entries are numbered up to 999,999: the
-- one that gets the last number is answered, and what comes after it is refused 34.
use Rattle.std.specs.Prelude.{◌≡◌, ℕ, List, [], ◌∷◌, ◌++◌, map, length, count_by, Some, None, Ok, codes, Option}
use Rattle.std.proofs.Common.{refl, ap, ◌∙◌, arith}
use Rattle.std.proofs.Math.Dec.{eqb-suc-zero}
use Rattle.std.specs.Fmt.{digits}
use Rattle.definitions.specs.Rules.{Today}
use Rattle.definitions.specs.declared.refusals.Refusal.TheVariants.{UnknownAdvice, AlreadyEnrolled, NumbersUsedUp}
use Rattle.definitions.specs.Refusals.{told_refusal}
use Rattle.definitions.specs.Moments.{Moment}
use Rattle.definitions.specs.Header.{Who}
use Rattle.definitions.specs.Register.{Act, Count, Pick, Recount, Command, Interchange, Enrol, Clerk, Entry, is_numbered, next_number, ticket_mark, known, own}
use Rattle.definitions.specs.Events.{Event}
use Rattle.definitions.specs.Halt.{halt}
use Rattle.definitions.specs.Clerk.{performed}
use Rattle.definitions.specs.History.{events}
use Rattle.definitions.specs.Reply.{Reply, Accepted, Stored, Refused, out, accepted, accepted_act, by_ticket, reply, reply_to_halt, interchange_entry, clerk_entry}
use Rattle.definitions.specs.Decision.{Recalled, reply_by}
use Rattle.definitions.proofs.Sample.{WHSE1, ACME, morning, isa_out, gs_out, iea, sent, first_advice, first_answer, sends, line, book}
use Rattle.definitions.proofs.RowsTrade.{until_order}

-- the refusal that tells of it
number_34 : told_refusal NumbersUsedUp ≡ codes "34 NumbersUsedUp"
unfolding digits
number_34 = refl

-- The reply at so many numbered entries, by what the depositor's entries come to.

-- after these commands, as if all its entries were so many
abbrev after : ℕ → List (Command × Moment) → Option Recalled → Command → Reply
after n cs k c = reply_by Today WHSE1
    (Some (record { numbered = n; events = events (own (book Today cs) ACME) })) k c morning

abbrev new : ℕ → List (Command × Moment) → Command → Reply
new n cs c = after n cs None c

-- an advice that comes as the last entry: its number is that of the answer and of its group
last_answer : new 999998 [] (Interchange first_advice)
    ≡ Accepted (isa_out (codes "000999999") ++ codes "TA1*000000001*250304*0915*A*000~"
    ++ gs_out (codes "FA") (codes "999999")
    ++ codes "ST*997*0001~AK1*AR*1~AK2*943*0001~AK5*A~AK9*A*1*1*1~SE*6*0001~GE*1*999999~"
    ++ iea (codes "1") (codes "000999999"))
unfolding digits
last_answer = refl

-- the same advice when no number is left
no_further_answer : new 999999 [] (Interchange first_advice) ≡ Refused NumbersUsedUp []
unfolding digits
no_further_answer = refl

-- a clerk's act under a new ticket
abbrev does : Act → Command
does act = Clerk ACME (codes "T9") act

-- a count as the last entry sends its receipt under that number
last_count : new 999998 (sends first_advice ∷ [])
    (does (Count (codes "SHP1") (line (codes "BOLT") (codes "L1") 90 ∷ [])))
    ≡ Accepted (sent (codes "RE") (codes "000999999") (codes "999999")
    (codes "ST*944*0001~W17*F*20250304*999999*PO77*SHP1~"
    ++ codes "W07*90*EA**SK*BOLT~N9*LT*L1~W14*90*100~SE*6*0001~"))
unfolding digits
last_count = refl

-- the same count when no number is left
no_further_count : new 999999 (sends first_advice ∷ [])
    (does (Count (codes "SHP1") (line (codes "BOLT") (codes "L1") 90 ∷ [])))
    ≡ Refused NumbersUsedUp []
unfolding digits
no_further_count = refl

-- and so with the pick of an order, and with a recount
no_further_act : map (λ act. new 999999 until_order (does act))
    (Pick (codes "ORD1") (line (codes "BOLT") (codes "L1") 90 ∷ [])
    ∷ Recount (line (codes "BOLT") (codes "L1") 91 ∷ [])
    ∷ [])
    ≡ Refused NumbersUsedUp [] ∷ Refused NumbersUsedUp [] ∷ []
unfolding digits
no_further_act = refl

-- what is refused anyway has its own refusal, and a resend gets its stored answer as before
others_as_before : new 999999 []
    (does (Count (codes "SHP1") (line (codes "BOLT") (codes "L1") 90 ∷ [])))
    ∷ new 999999 [] (Enrol ACME)
    ∷ after 999999 (sends first_advice ∷ [])
    (Some (record { entry = interchange_entry Today first_advice morning; outgoing = first_answer }))
    (Interchange first_advice)
    ∷ []
    ≡ Refused UnknownAdvice [] ∷ Refused AlreadyEnrolled [] ∷ Stored first_answer ∷ []
unfolding digits
others_as_before = refl

-- Of any register: the depositor's own entries M, whatever they are.

-- with 999,999 of them numbered there is no number for one more
none_left : (W : Who) (M : List Entry) (e : Entry) → count_by is_numbered M ≡ 999999
    → accepted W M e ≡ Refused NumbersUsedUp []
none_left W M e full = rw full refl

-- with 999,998 there is one
one_left : (W : Who) (M : List Entry) (e : Entry) → count_by is_numbered M ≡ 999998
    → accepted W M e ≡ Accepted (out W M e)
one_left W M e all_but_one = rw all_but_one refl

-- an interchange that nothing else halts, without a number for it
interchange_refused : (W : Who) (M : List Entry) (text : List ℕ) (t : Moment)
    → halt W M text ≡ None → count_by is_numbered M ≡ 999999
    → reply Today W M (Interchange text) t ≡ Refused NumbersUsedUp []
interchange_refused W M text t unhalted full =
    ap (reply_to_halt Today W M text t) unhalted
    ∙ none_left W M (interchange_entry Today text t) full

-- and with the last
interchange_accepted : (W : Who) (M : List Entry) (text : List ℕ) (t : Moment)
    → halt W M text ≡ None → count_by is_numbered M ≡ 999998
    → reply Today W M (Interchange text) t
    ≡ Accepted (out W M (interchange_entry Today text t))
interchange_accepted W M text t unhalted all_but_one =
    ap (reply_to_halt Today W M text t) unhalted
    ∙ one_left W M (interchange_entry Today text t) all_but_one

-- a clerk's act under a new ticket that nothing else refuses, without a number for it
act_refused : (W w : Who) (M : List Entry) (ticket : List ℕ) (act : Act) (t : Moment) (e : Event)
    → known (ticket_mark ticket) M ≡ None → performed (events M) (next_number M) act ≡ Ok e
    → count_by is_numbered M ≡ 999999
    → reply Today W M (Clerk w ticket act) t ≡ Refused NumbersUsedUp []
act_refused W w [] ticket act t e fresh done full = absurd (omega (arith, full))
act_refused W w (f ∷ M) ticket act t e fresh done full =
    rw (eqb-suc-zero (length M)) (ap (by_ticket Today W (f ∷ M) w ticket act t) fresh
    ∙ ap (accepted_act W (f ∷ M) (clerk_entry Today w ticket act t)) done
    ∙ none_left W (f ∷ M) (clerk_entry Today w ticket act t) full)

-- and with the last
act_accepted : (W w : Who) (M : List Entry) (ticket : List ℕ) (act : Act) (t : Moment) (e : Event)
    → known (ticket_mark ticket) M ≡ None → performed (events M) (next_number M) act ≡ Ok e
    → count_by is_numbered M ≡ 999998
    → reply Today W M (Clerk w ticket act) t ≡ Accepted (out W M (clerk_entry Today w ticket act t))
act_accepted W w [] ticket act t e fresh done all_but_one = absurd (omega (arith, all_but_one))
act_accepted W w (f ∷ M) ticket act t e fresh done all_but_one =
    rw (eqb-suc-zero (length M)) (ap (by_ticket Today W (f ∷ M) w ticket act t) fresh
    ∙ ap (accepted_act W (f ∷ M) (clerk_entry Today w ticket act t)) done
    ∙ one_left W (f ∷ M) (clerk_entry Today w ticket act t) all_but_one)
