-- Worked examples of judging: group faults, set faults, segments in error, and trade faults of a
-- 943.
use Rattle.std.specs.Prelude.{◌≡◌, ℕ, true, false, List, [], ◌∷◌, ◌++◌, map, is_some, codes}
use Rattle.std.proofs.Common.{refl}
use Rattle.std.specs.Fmt.{digits}
use Rattle.definitions.specs.declared.rules.Rules.{Rules}
use Rattle.definitions.specs.declared.rules.Rules.TheVariants.{One, Two}
use Rattle.definitions.specs.Words.{Words, words_943, words_940, words_997, words_after_all}
use Rattle.definitions.specs.Faults.{wanted_id}
use Rattle.definitions.specs.Register.{own}
use Rattle.definitions.specs.Events.{advice_under, is_advice_open}
use Rattle.definitions.specs.History.{events}
use Rattle.definitions.specs.Reply.{Reply, Accepted}
use Rattle.definitions.proofs.Sample.{ACME, isa_in, gs_in, iea, sent, first_set, sends, book, reply_after, told_AR, answer_AR}

-- two sets, the first with a wrong SE01: only the second acts
abbrev two_advices : List ℕ
two_advices = isa_in (codes "000000001") (codes "0") ++ gs_in (codes "AR") (codes "1")
    ++ codes "ST*943*0001~W06*F*PO77*20250303*SHP1~W04*100*EA**SK*BOLT~N9*LT*L1~W03*100~SE*7*0001~"
    ++ codes "ST*943*0002~W06*F*PO77*20250303*SHP2~W04*100*EA**SK*BOLT~N9*LT*L1~W03*100~SE*6*0002~"
    ++ codes "GE*2*1~" ++ iea (codes "1") (codes "000000001")

one_of_two_passes : (r : Rules) → reply_after r [] (sends two_advices) ≡ Accepted (told_AR (codes "AK2*943*0001~AK5*R*4~AK2*943*0002~AK5*A~AK9*P*2*2*1~") (codes "8"))
unfolding digits
one_of_two_passes One = refl
one_of_two_passes Two = refl

only_the_second_is_open : (r : Rules) → let es = events (own (book r (sends two_advices ∷ [])) ACME) in
    is_some (advice_under (codes "SHP1") es) ∷ is_some (advice_under (codes "SHP2") es) ∷ is_advice_open (codes "SHP2") es ∷ [] ≡ false ∷ true ∷ true ∷ []
unfolding digits
only_the_second_is_open One = refl
only_the_second_is_open Two = refl

-- the answer to one AR group with this GS, these sets and this GE
abbrev answer_group : Rules → List ℕ → List ℕ → List ℕ → Reply
answer_group r gs sets ge = reply_after r [] (sends (isa_in (codes "000000001") (codes "0") ++ gs ++ sets ++ ge ++ iea (codes "1") (codes "000000001")))

-- the 997 in full, between ST and SE
abbrev told_997 : List ℕ → List ℕ → List ℕ
told_997 told count = sent (codes "FA") (codes "000000001") (codes "1") (codes "ST*997*0001~" ++ told ++ codes "SE*" ++ count ++ codes "*0001~")

group_faults : (r : Rules) → map (λ (p : List ℕ × List ℕ). answer_group r p.0 first_set p.1)
    ((gs_in (codes "XX") (codes "1"), codes "GE*1*1~")
    ∷ (gs_in (codes "AR") (codes "1"), codes "GE*1*2~")
    ∷ (gs_in (codes "AR") (codes "1"), codes "GE*2*1~")
    ∷ (gs_in (codes "AR") (codes "1"), [])
    ∷ (codes "GS*AR*ACME*WHSE1*20250304*0915*1*X*004020~", [])
    ∷ [])
    ≡ Accepted (told_997 (codes "AK1*XX*1~AK9*R*1*1*0*1~") (codes "4"))
    ∷ Accepted (told_997 (codes "AK1*AR*1~AK9*R*1*1*0*4~") (codes "4"))
    ∷ Accepted (told_997 (codes "AK1*AR*1~AK9*R*2*1*0*5~") (codes "4"))
    ∷ Accepted (told_997 (codes "AK1*AR*1~AK9*R*1*1*0*3~") (codes "4"))
    ∷ Accepted (told_997 (codes "AK1*AR*1~AK9*R*1*1*0*2~") (codes "4"))
    ∷ []
unfolding digits
group_faults r = refl

set_faults : (r : Rules) → map (answer_AR r)
    (codes "ST*940*0001~W06*F*PO77*20250303*SHP1~W04*100*EA**SK*BOLT~N9*LT*L1~W03*100~SE*6*0001~"
    ∷ codes "ST*940*0001~W06*F*PO77*20250303*SHP1~W04*100*EA**SK*BOLT~N9*LT*L1~W03*100~"
    ∷ codes "ST*943*0001~W06*F*PO77*20250303*SHP1~W04*100*EA**SK*BOLT~N9*LT*L1~W03*100~SE*6*0002~"
    ∷ [])
    ≡ Accepted (told_AR (codes "AK2*940*0001~AK5*R*1~AK9*R*1*1*0~") (codes "6"))
    ∷ Accepted (told_AR (codes "AK2*940*0001~AK5*R*2~AK9*R*1*1*0~") (codes "6"))
    ∷ Accepted (told_AR (codes "AK2*943*0001~AK5*R*3~AK9*R*1*1*0~") (codes "6"))
    ∷ []
unfolding digits
set_faults r = refl

repeated_ST02 : (r : Rules) → answer_group r (gs_in (codes "AR") (codes "1"))
    (first_set ++ codes "ST*943*0001~W06*F*PO77*20250303*SHP2~W04*100*EA**SK*BOLT~N9*LT*L1~W03*100~SE*6*0001~") (codes "GE*2*1~")
    ≡ Accepted (told_AR (codes "AK2*943*0001~AK5*A~AK2*943*0001~AK5*R*7~AK9*P*2*2*1~") (codes "8"))
unfolding digits
repeated_ST02 One = refl
repeated_ST02 Two = refl

-- a set that is rejected for a segment: its 997 with these AK3 and AK4
abbrev in_error : List ℕ → List ℕ → Reply
in_error told count = Accepted (told_AR (codes "AK2*943*0001~" ++ told ++ codes "AK5*R*5~AK9*R*1*1*0~") count)

-- the first advice with this W04
abbrev with_W04 : Rules → List ℕ → Reply
with_W04 r w04 = answer_AR r (codes "ST*943*0001~W06*F*PO77*20250303*SHP1~" ++ w04 ++ codes "N9*LT*L1~W03*100~SE*6*0001~")

goods_faults : (r : Rules) → map (with_W04 r)
    (codes "W04*100*EA**SK*BOLT*~"
    ∷ codes "W04*100*ea**SK*BOLT~"
    ∷ codes "W04*100*EAX**SK*BOLT~"
    ∷ codes "W04**EA**SK*BOLT~"
    ∷ codes "W04*1000000*EA**SK*BOLT~"
    ∷ codes "W04*1.5*EA**SK*BOLT~"
    ∷ codes "W04*0*EA**SK*BOLT~"
    ∷ [])
    ≡ in_error (codes "AK3*W04*3**8~AK4*6**3~") (codes "8")
    ∷ in_error (codes "AK3*W04*3**8~AK4*2**7~") (codes "8")
    ∷ in_error (codes "AK3*W04*3**8~AK4*2**5~") (codes "8")
    ∷ in_error (codes "AK3*W04*3**8~AK4*1**1~") (codes "8")
    ∷ in_error (codes "AK3*W04*3**8~AK4*1**5~") (codes "8")
    ∷ in_error (codes "AK3*W04*3**8~AK4*1**6~") (codes "8")
    ∷ in_error (codes "AK3*W04*3**8~AK4*1**7~") (codes "8")
    ∷ []
unfolding digits
goods_faults One = refl
goods_faults Two = refl

-- a quantity of six digits is too long under rules 1, and under rules 2 the sum is wrong
six_digits : with_W04 One (codes "W04*100000*EA**SK*BOLT~") ∷ with_W04 Two (codes "W04*100000*EA**SK*BOLT~") ∷ []
    ≡ in_error (codes "AK3*W04*3**8~AK4*1**5~") (codes "8") ∷ in_error (codes "AK3*W03*5**8~AK4*1**7~") (codes "8") ∷ []
unfolding digits
six_digits = refl

no_such_day : (r : Rules) → answer_AR r (codes "ST*943*0001~W06*F*PO77*20250230*SHP1~W04*100*EA**SK*BOLT~N9*LT*L1~W03*100~SE*6*0001~")
    ≡ in_error (codes "AK3*W06*2**8~AK4*3**8~") (codes "8")
unfolding digits
no_such_day One = refl
no_such_day Two = refl

repeated_pair : (r : Rules) → answer_AR r (codes "ST*943*0001~W06*F*PO77*20250303*SHP1~W04*100*EA**SK*BOLT~N9*LT*L1~W04*100*EA**SK*BOLT~N9*LT*L1~W03*200~SE*8*0001~")
    ≡ in_error (codes "AK3*N9*6**8~AK4*2**7~") (codes "8")
unfolding digits
repeated_pair One = refl
repeated_pair Two = refl

out_of_place : (r : Rules) → map (answer_AR r)
    (codes "ST*943*0001~W06*F*PO77*20250303*SHP1~W04*100*EA**SK*BOLT~N9*LT*L1~SE*5*0001~"
    ∷ codes "ST*943*0001~W06*F*PO77*20250303*SHP1~ZZZ~W04*100*EA**SK*BOLT~N9*LT*L1~W03*100~SE*7*0001~"
    ∷ codes "ST*943*0001~W06*F*PO77*20250303*SHP1~W05*N*X~W04*100*EA**SK*BOLT~N9*LT*L1~W03*100~SE*7*0001~"
    ∷ [])
    ≡ in_error (codes "AK3*W03*5**3~") (codes "7")
    ∷ in_error (codes "AK3*ZZZ*3**1~") (codes "7")
    ∷ in_error (codes "AK3*W05*3**6~") (codes "7")
    ∷ []
unfolding digits
out_of_place One = refl
out_of_place Two = refl

-- What is wanted where SE stands too early, of each set.

abbrev wanted : Words → List (List ℕ) → List ℕ
wanted w ids = wanted_id (words_after_all w (codes "ST" ∷ ids))

wanted_943 : (r : Rules) → map (wanted (words_943 r))
    ([] ∷ (codes "W06" ∷ []) ∷ (codes "W06" ∷ codes "G62" ∷ []) ∷ (codes "W06" ∷ codes "W04" ∷ []) ∷ (codes "W06" ∷ codes "W04" ∷ codes "N9" ∷ []) ∷ [])
    ≡ codes "W06" ∷ codes "W04" ∷ codes "W04" ∷ codes "N9" ∷ codes "W03" ∷ []
wanted_943 One = refl
wanted_943 Two = refl

wanted_940 : (r : Rules) → map (wanted (words_940 r))
    ([] ∷ (codes "W05" ∷ []) ∷ (codes "W05" ∷ codes "N1" ∷ codes "N4" ∷ []) ∷ (codes "W05" ∷ codes "LX" ∷ [])
    ∷ (codes "W05" ∷ codes "LX" ∷ codes "W01" ∷ []) ∷ (codes "W05" ∷ codes "LX" ∷ codes "W01" ∷ codes "N9" ∷ []) ∷ [])
    ≡ codes "W05" ∷ codes "LX" ∷ codes "LX" ∷ codes "W01" ∷ codes "W76" ∷ codes "W76" ∷ []
wanted_940 One = refl
wanted_940 Two = refl

wanted_997 : map (wanted words_997)
    ([] ∷ (codes "AK1" ∷ []) ∷ (codes "AK1" ∷ codes "AK2" ∷ codes "AK5" ∷ []) ∷ (codes "AK1" ∷ codes "AK2" ∷ [])
    ∷ (codes "AK1" ∷ codes "AK2" ∷ codes "AK3" ∷ []) ∷ (codes "AK1" ∷ codes "AK2" ∷ codes "AK3" ∷ codes "AK4" ∷ [])
    ∷ (codes "AK1" ∷ codes "AK9" ∷ []) ∷ [])
    ≡ codes "AK1" ∷ codes "AK9" ∷ codes "AK9" ∷ codes "AK5" ∷ codes "AK5" ∷ codes "AK5" ∷ codes "SE" ∷ []
wanted_997 = refl
