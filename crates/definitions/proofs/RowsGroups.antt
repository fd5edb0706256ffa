-- Worked examples of the faults of groups and of sets' envelopes: their order, and what is told.
use Rattle.std.specs.Prelude.{◌≡◌, ℕ, List, [], ◌∷◌, ◌++◌, map, codes}
use Rattle.std.proofs.Common.{refl}
use Rattle.std.specs.Fmt.{digits}
use Rattle.definitions.specs.declared.rules.Rules.{Rules}
use Rattle.definitions.specs.declared.rules.Rules.TheVariants.{One, Two}
use Rattle.definitions.specs.Reply.{Reply, Accepted}
use Rattle.definitions.proofs.Sample.{isa_in, isa_out, gs_in, gs_out, iea, sent, first_set, sends, reply_after, told_AR}
use Rattle.definitions.proofs.RowsNotes.{control, ISA, IEA}

-- the answer to one group: GS without its id, the first advice's set, GE without its id
abbrev of_group : Rules → (List ℕ × List ℕ) → Reply
of_group r p = reply_after r []
    (sends (ISA ++ codes "GS*" ++ p.0 ++ codes "~" ++ first_set ++ codes "GE*" ++ p.1 ++ codes "~" ++ IEA))

-- a 997 with these segments between ST and SE
abbrev told : List ℕ → List ℕ → Reply
told segments count = Accepted (sent (codes "FA") control (codes "1")
    (codes "ST*997*0001~" ++ segments ++ codes "SE*" ++ count ++ codes "*0001~"))

-- what is wrong with the group is mended in turn
groups_in_order : (r : Rules) → map (of_group r)
    ((codes "XX*ACME*WHSE1*20250304*0915*1*T*004020", codes "2*2")
    ∷ (codes "AR*ACME*WHSE1*20250304*0915*1*T*004020", codes "2*2")
    ∷ (codes "AR*ACME*WHSE1*20250304*0915*1*T*004010", codes "2*2")
    ∷ (codes "AR*ACME*WHSE1*20250304*0915*1*X*004020", codes "2*2")
    ∷ (codes "AR*ACME*WHSE1*20250304*0915*1*X*004010", codes "2*2")
    ∷ (codes "AR*ACME*WHSE1*20250304*0915*1*X*004010", codes "2*1")
    ∷ (codes "AR*ACME*WHSE1*20250304*0915*1*X*004010", codes "1*1")
    ∷ [])
    ≡ told (codes "AK1*XX*1~AK9*R*2*1*0*1~") (codes "4")
    ∷ told (codes "AK1*AR*1~AK9*R*2*1*0*2~") (codes "4")
    ∷ told (codes "AK1*AR*1~AK9*R*2*1*0*2~") (codes "4")
    ∷ told (codes "AK1*AR*1~AK9*R*2*1*0*2~") (codes "4")
    ∷ told (codes "AK1*AR*1~AK9*R*2*1*0*4~") (codes "4")
    ∷ told (codes "AK1*AR*1~AK9*R*2*1*0*5~") (codes "4")
    ∷ told (codes "AK1*AR*1~AK2*943*0001~AK5*A~AK9*A*1*1*1~") (codes "6")
    ∷ []
unfolding digits
groups_in_order One = refl
groups_in_order Two = refl

-- zeros in front: of a control number they count, of a number they don't; groups of ours aren't
-- read
zeros_and_others : (r : Rules) → map (of_group r)
    ((codes "AR*ACME*WHSE1*20250304*0915*4*X*004010", codes "1*04")
    ∷ (codes "AR*ACME*WHSE1*20250304*0915*007*X*004010", codes "1*007")
    ∷ (codes "AR*ACME*WHSE1*20250304*0915*1*X*004010", codes "01*1")
    ∷ (codes "AR*ACME*WHSE1*20250304*0915*1*X*004010", codes "00*1")
    ∷ (codes "RE*ACME*WHSE1*20250304*0915*1*X*004010", codes "1*1")
    ∷ (codes "SW*ACME*WHSE1*20250304*0915*1*X*004010", codes "1*1")
    ∷ (codes "OW*ACME*WHSE1*20250304*0915*1*X*004010", codes "1*1")
    ∷ [])
    ≡ told (codes "AK1*AR*4~AK9*R*1*1*0*4~") (codes "4")
    ∷ told (codes "AK1*AR*007~AK2*943*0001~AK5*A~AK9*A*1*1*1~") (codes "6")
    ∷ told (codes "AK1*AR*1~AK2*943*0001~AK5*A~AK9*A*1*1*1~") (codes "6")
    ∷ told (codes "AK1*AR*1~AK9*R*0*1*0*5~") (codes "4")
    ∷ told (codes "AK1*RE*1~AK9*R*1*1*0*1~") (codes "4")
    ∷ told (codes "AK1*SW*1~AK9*R*1*1*0*1~") (codes "4")
    ∷ told (codes "AK1*OW*1~AK2*943*0001~AK5*R*1~AK9*R*1*1*0~") (codes "6")
    ∷ []
unfolding digits
zeros_and_others One = refl
zeros_and_others Two = refl

-- a group FA is told nothing, with a fault or without; of others the sets ST02 0001, 0002 are told

abbrev FA_group : List ℕ → List ℕ
FA_group ge = gs_in (codes "FA") (codes "9")
    ++ codes "ST*997*0001~AK1*SW*4~AK9*A*1*1*1~SE*4*0001~GE*" ++ ge ++ codes "~"

acknowledgments_silent : (r : Rules) → map (λ text. reply_after r [] (sends text))
    ((ISA ++ FA_group (codes "1*9") ++ IEA)
    ∷ (ISA ++ FA_group (codes "2*8") ++ IEA)
    ∷ (isa_in control (codes "1") ++ FA_group (codes "1*9") ++ IEA)
    ∷ [])
    ≡ Accepted [] ∷ Accepted []
    ∷ Accepted (isa_out control ++ codes "TA1*000000001*250304*0915*A*000~" ++ iea (codes "0") control)
    ∷ []
unfolding digits
acknowledgments_silent r = refl

abbrev AR_group : List ℕ → List ℕ → List ℕ
AR_group n shipment = gs_in (codes "AR") n ++ codes "ST*943*0001~W06*F*PO77*20250303*" ++ shipment
    ++ codes "~W04*100*EA**SK*BOLT~N9*LT*L1~W03*100~SE*6*0001~GE*1*" ++ n ++ codes "~"

abbrev told_of : List ℕ → List ℕ → List ℕ
told_of n st = codes "ST*997*" ++ st ++ codes "~AK1*AR*" ++ n
    ++ codes "~AK2*943*0001~AK5*A~AK9*A*1*1*1~SE*6*" ++ st ++ codes "~"

answered_counted : (r : Rules) → reply_after r [] (sends (ISA
    ++ FA_group (codes "1*9") ++ AR_group (codes "5") (codes "SHP1")
    ++ FA_group (codes "1*9") ++ AR_group (codes "3") (codes "SHP2")
    ++ iea (codes "00004") control))
    ≡ Accepted (isa_out control ++ gs_out (codes "FA") (codes "1")
    ++ told_of (codes "5") (codes "0001") ++ told_of (codes "3") (codes "0002")
    ++ codes "GE*2*1~" ++ IEA)
unfolding digits
answered_counted One = refl
answered_counted Two = refl

-- Sets: the first is good, then another under some ST, with what stands after it, mended in turn.

abbrev second_set : List ℕ → List ℕ → List ℕ
second_set st se = codes "ST*" ++ st ++ codes "~W06*F*PO77*20250303*SHP2~W04*100*EA**SK*BOLT~N9*LT*L1~W03*100~" ++ se

abbrev of_second : Rules → (List ℕ × List ℕ) → Reply
of_second r p = reply_after r []
    (sends (ISA ++ gs_in (codes "AR") (codes "1") ++ first_set ++ second_set p.0 p.1 ++ codes "GE*2*1~" ++ IEA))

abbrev told_second : List ℕ → List ℕ → List ℕ → Reply
told_second st ak5 ak9 = told (codes "AK1*AR*1~AK2*943*0001~AK5*A~AK2*" ++ st
    ++ codes "~AK5*" ++ ak5 ++ codes "~AK9*" ++ ak9 ++ codes "~") (codes "8")

sets_in_order : (r : Rules) → map (of_second r)
    ((codes "940*0001", [])
    ∷ (codes "940*0001", codes "SE*9*0009~")
    ∷ (codes "943*0001", codes "SE*9*0009~")
    ∷ (codes "943*0002", codes "SE*9*0009~")
    ∷ (codes "943*0002", codes "SE*9*0002~")
    ∷ (codes "943*0002", codes "SE*6*0002~")
    ∷ (codes "943*00001", codes "SE*06*00001~")
    ∷ (codes "943*00001", codes "SE*6*0001~")
    ∷ [])
    ≡ told_second (codes "940*0001") (codes "R*2") (codes "P*2*2*1")
    ∷ told_second (codes "940*0001") (codes "R*1") (codes "P*2*2*1")
    ∷ told_second (codes "943*0001") (codes "R*7") (codes "P*2*2*1")
    ∷ told_second (codes "943*0002") (codes "R*3") (codes "P*2*2*1")
    ∷ told_second (codes "943*0002") (codes "R*4") (codes "P*2*2*1")
    ∷ told_second (codes "943*0002") (codes "A") (codes "A*2*2*2")
    ∷ told_second (codes "943*00001") (codes "A") (codes "A*2*2*2")
    ∷ told_second (codes "943*00001") (codes "R*3") (codes "P*2*2*1")
    ∷ []
unfolding digits
sets_in_order One = refl
sets_in_order Two = refl

-- a control number is used up by a set with a fault too; a fault of the envelope is told alone
after_faulty : (r : Rules) → reply_after r [] (sends (ISA ++ gs_in (codes "AR") (codes "1")
    ++ codes "ST*943*0001~W06~SE*9*0001~" ++ first_set ++ codes "GE*2*1~" ++ IEA))
    ≡ Accepted (told_AR
    (codes "AK2*943*0001~AK5*R*4~AK2*943*0001~AK5*R*7~AK9*R*2*2*0~") (codes "8"))
unfolding digits
after_faulty r = refl
