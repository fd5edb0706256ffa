-- Worked examples at the limits: one group of many sets.
use Rattle.std.specs.Prelude.{◌≡◌, ℕ, ◌+◌, ◌*◌, List, [], ◌++◌, None, codes, decimal, flat_map}
use Rattle.std.specs.List.{range_with_len}
use Rattle.std.proofs.Common.{refl}
use Rattle.std.specs.Fmt.{digits}
use Rattle.definitions.specs.declared.rules.Rules.{Rules}
use Rattle.definitions.specs.declared.rules.Rules.TheVariants.{One, Two}
use Rattle.definitions.specs.Bytes.{zero_filled}
use Rattle.definitions.specs.Register.{own}
use Rattle.definitions.specs.Refusals.{Note}
use Rattle.definitions.specs.Halt.{halt}
use Rattle.definitions.specs.Reply.{Accepted, Refused}
use Rattle.definitions.proofs.Sample.{WHSE1, ACME, isa_in, gs_in, iea, refusal_of, sends, book, reply_after, told_AR}

abbrev sets_in_one : ℕ → List ℕ
sets_in_one n = isa_in (codes "000000001") (codes "0") ++ gs_in (codes "AR") (codes "1")
    ++ flat_map (λ k. codes "ST*943*" ++ zero_filled 4 k ++ codes "~SE*2*" ++ zero_filled 4 k ++ codes "~") (range_with_len 1 n)
    ++ codes "GE*" ++ decimal n ++ codes "*1~" ++ iea (codes "1") (codes "000000001")

abbrev answer_sets : ℕ → List ℕ
answer_sets n = told_AR
    (flat_map (λ k. codes "AK2*943*" ++ zero_filled 4 k ++ codes "~AK3*W06*2**3~AK5*R*5~") (range_with_len 1 n)
    ++ codes "AK9*R*" ++ decimal n ++ codes "*" ++ decimal n ++ codes "*0~")
    (decimal (3 * n + 4))

sets_200 : reply_after One [] (sends (sets_in_one 200)) ≡ Accepted (answer_sets 200)
unfolding digits
sets_200 = refl

-- as many under rules 2 would take as long again
sets_100 : reply_after Two [] (sends (sets_in_one 100)) ≡ Accepted (answer_sets 100)
unfolding digits
sets_100 = refl

-- 1,000 sets pass every condition: with their whole answer, the check of one lemma would take too
-- many steps
sets_1000 : (r : Rules) → halt WHSE1 (own (book r []) ACME) (sets_in_one 1000) ≡ None
unfolding digits
sets_1000 r = refl

sets_1001 : (r : Rules) → reply_after r [] (sends (sets_in_one 1001)) ≡ Refused (Note 24) (refusal_of (codes "000000001") (codes "024"))
unfolding digits
sets_1001 r = refl
