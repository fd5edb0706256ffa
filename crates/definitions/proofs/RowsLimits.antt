-- Worked examples at the limits of rules 1: lines of a set.
use Rattle.std.specs.Prelude.{◌≡◌, ℕ, ◌+◌, ◌*◌, List, ◌++◌, codes, decimal, flat_map}
use Rattle.std.specs.List.{range_with_len}
use Rattle.std.proofs.Common.{refl}
use Rattle.std.specs.Fmt.{digits}
use Rattle.definitions.specs.declared.rules.Rules.TheVariants.{One}
use Rattle.definitions.specs.Reply.{Accepted}
use Rattle.definitions.proofs.AllotmentLaws.{total}
use Rattle.definitions.proofs.Sample.{told_AR, answer_AR}

-- a 943 of n lines of 99999, lots distinct, with this W03 and SE01
abbrev lines_943 : ℕ → List ℕ
lines_943 n = flat_map (λ k. codes "W04*99999*EA**SK*BOLT~N9*LT*L" ++ decimal k ++ codes "~") (range_with_len 1 n)

abbrev long_set : ℕ → List ℕ → List ℕ
long_set n total = codes "ST*943*0001~W06*F*PO77*20250303*SHP1~" ++ lines_943 n ++ codes "W03*" ++ total ++ codes "~SE*" ++ decimal (2 * n + 4) ++ codes "*0001~"

full_set : answer_AR One (long_set 99 (codes "9899901")) ≡ Accepted (told_AR (codes "AK2*943*0001~AK5*A~AK9*A*1*1*1~") (codes "6"))
unfolding digits
full_set = refl

wrong_total : answer_AR One (long_set 99 (codes "9899900"))
    ≡ Accepted (told_AR (codes "AK2*943*0001~AK3*W03*201**8~AK4*1**7~AK5*R*5~AK9*R*1*1*0~") (codes "8"))
unfolding digits
wrong_total = refl

line_too_many : answer_AR One (long_set 100 (codes "9999900"))
    ≡ Accepted (told_AR (codes "AK2*943*0001~AK3*W04*201**2~AK5*R*5~AK9*R*1*1*0~") (codes "7"))
unfolding digits
line_too_many = refl
