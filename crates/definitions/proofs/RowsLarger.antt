-- Worked examples at the limits of rules 2: lines of a set, quantities, what a report has room for.
use Rattle.std.specs.Prelude.{◌≡◌, ℕ, ◌+◌, ◌*◌, ◌^◌, ◌<◌, List, [], ◌∷◌, ◌++◌, map, Some, None, Ok, codes, decimal, flat_map}
use Rattle.std.specs.List.{range_with_len}
use Rattle.std.proofs.Common.{refl, arith}
use Rattle.std.specs.Fmt.{digits}
use Rattle.definitions.specs.Rules.{Today}
use Rattle.definitions.specs.Moments.{Moment}
use Rattle.definitions.specs.Register.{Command, Count, Recount, own}
use Rattle.definitions.specs.Decision.{accepted_by}
use Rattle.definitions.specs.History.{events}
use Rattle.definitions.specs.Refusals.{NumbersUsedUp}
use Rattle.definitions.specs.Reports.{pick_list}
use Rattle.definitions.specs.Movements.{most_expected}
use Rattle.definitions.specs.Reply.{Reply, Accepted, clerk_entry}
use Rattle.definitions.proofs.Sample.{WHSE1, ACME, morning, told_AR, answer_AR, line, does, sends, received, book, balances, refusal_alone}

-- a 943 of n lines of 999999, lots distinct, with this W03 and SE01: of 101 lines its sum has nine
-- digits
abbrev lines_943 : ℕ → List ℕ
lines_943 n = flat_map (λ k. codes "W04*999999*EA**SK*BOLT~N9*LT*L" ++ decimal k ++ codes "~") (range_with_len 1 n)

abbrev long_set : ℕ → List ℕ → List ℕ
long_set n total = codes "ST*943*0001~W06*F*PO77*20250303*SHP1~" ++ lines_943 n ++ codes "W03*" ++ total ++ codes "~SE*" ++ decimal (2 * n + 4) ++ codes "*0001~"

long_sum : answer_AR Today (long_set 101 (codes "100999899")) ≡ Accepted (told_AR (codes "AK2*943*0001~AK5*A~AK9*A*1*1*1~") (codes "6"))
unfolding digits
long_sum = refl

wrong_long_sum : answer_AR Today (long_set 101 (codes "100999898"))
    ≡ Accepted (told_AR (codes "AK2*943*0001~AK3*W03*205**8~AK4*1**7~AK5*R*5~AK9*R*1*1*0~") (codes "8"))
unfolding digits
wrong_long_sum = refl

-- a count above the limit of rules 1
large_count : balances Today (sends (received (codes "000000001") (codes "0") (codes "AR") (codes "1") (long_set 1 (codes "999999")))
    ∷ does (codes "T1") (Count (codes "SHP1") (line (codes "BOLT") (codes "L1") 100000 ∷ [])) ∷ []) (codes "BOLT") (codes "L1") ≡ 0 ∷ 100000 ∷ 0 ∷ 0 ∷ []
unfolding digits
large_count = refl

-- the largest line of an order, as the picking sheet has it
abbrev largest_order : List (Command × Moment)
largest_order = sends (received (codes "000000001") (codes "0") (codes "AR") (codes "1") (long_set 1 (codes "999999")))
    ∷ does (codes "T1") (Count (codes "SHP1") (line (codes "BOLT") (codes "L1") 999999 ∷ []))
    ∷ sends (received (codes "000000002") (codes "0") (codes "OW") (codes "2")
    (codes "ST*940*0001~W05*N*ORD1~LX*1~W01*999999*EA**SK*BOLT~LX*2~W01*999999*EA**SK*NUT~W76*1999998~SE*8*0001~"))
    ∷ []

largest_picked : pick_list (events (own (book Today largest_order) ACME)) (codes "ORD1")
    ≡ Ok (codes "ORDER ORD1\nBOLT                 L1           999999\nNUT                  (short)      999999\n")
unfolding digits
largest_picked = refl

-- the last number of a depositor is given, and no further one
abbrev reply_after_numbers : ℕ → Reply
reply_after_numbers n = accepted_by WHSE1 (record { numbered = n; events = [] }) (clerk_entry Today ACME (codes "T1") (Recount []) morning)

last_number : map (λ n. refusal_alone (reply_after_numbers n)) (999998 ∷ 999999 ∷ []) ≡ None ∷ Some NumbersUsedUp ∷ []
last_number = refl

-- what may be expected of a pair fits the places and a word
expected_fits : (most_expected < 10 ^ 15) × (most_expected < 2 ^ 64) × (most_expected ≡ 999998000001000)
expected_fits = (omega arith, omega arith, refl)
