-- Worked examples at the limits: groups and sets.
use Rattle.std.specs.Prelude.{◌≡◌, ℕ, List, [], ◌++◌, codes, decimal, flat_map}
use Rattle.std.specs.List.{range_with_len}
use Rattle.std.proofs.Common.{refl}
use Rattle.std.specs.Fmt.{digits}
use Rattle.definitions.specs.declared.rules.Rules.{Rules}
use Rattle.definitions.specs.declared.rules.Rules.TheVariants.{One, Two}
use Rattle.definitions.specs.Bytes.{zero_filled}
use Rattle.definitions.specs.Refusals.{Note}
use Rattle.definitions.specs.Reply.{Accepted, Refused}
use Rattle.definitions.proofs.Sample.{isa_in, isa_out, gs_in, gs_out, iea, refusal_of, sends, reply_after}

abbrev bare_set : List ℕ → List ℕ
bare_set control = codes "ST*943*" ++ control ++ codes "~SE*2*" ++ control ++ codes "~"

-- n groups, each with one set that stops after ST
abbrev groups : ℕ → List ℕ
groups n = isa_in (codes "000000001") (codes "0")
    ++ flat_map (λ k. gs_in (codes "AR") (decimal k) ++ bare_set (codes "0001") ++ codes "GE*1*" ++ decimal k ++ codes "~") (range_with_len 1 n)
    ++ iea (decimal n) (codes "000000001")

-- the answer to them
abbrev answer_groups : ℕ → List ℕ
answer_groups n = isa_out (codes "000000001") ++ gs_out (codes "FA") (codes "1")
    ++ flat_map (λ k. codes "ST*997*" ++ zero_filled 4 k ++ codes "~AK1*AR*" ++ decimal k
    ++ codes "~AK2*943*0001~AK3*W06*2**3~AK5*R*5~AK9*R*1*1*0~SE*7*" ++ zero_filled 4 k ++ codes "~") (range_with_len 1 n)
    ++ codes "GE*" ++ decimal n ++ codes "*1~" ++ iea (codes "1") (codes "000000001")

groups_100 : reply_after One [] (sends (groups 100)) ≡ Accepted (answer_groups 100)
unfolding digits
groups_100 = refl

-- as many under rules 2 would take as long again
groups_20 : reply_after Two [] (sends (groups 20)) ≡ Accepted (answer_groups 20)
unfolding digits
groups_20 = refl

groups_101 : (r : Rules) → reply_after r [] (sends (groups 101)) ≡ Refused (Note 24) (refusal_of (codes "000000001") (codes "024"))
unfolding digits
groups_101 r = refl
