-- Worked examples of the envelope: notes, unreadable texts, duplicates, delimiters.
use Rattle.std.specs.Prelude.{◌≡◌, ℕ, ◌+◌, List, [], ◌∷◌, ◌++◌, map, length, take, drop, replicate, if◌then◌else◌, ◌==◌, Some, None, codes, flat_map}
use Rattle.std.proofs.Common.{refl}
use Rattle.std.specs.Fmt.{digits}
use Rattle.definitions.specs.declared.rules.Rules.{Rules}
use Rattle.definitions.specs.declared.rules.Rules.TheVariants.{One, Two}
use Rattle.definitions.specs.Structure.{set_of, IsSet}
use Rattle.definitions.specs.Register.{next_number}
use Rattle.definitions.specs.Refusals.{Unreadable, Note, Duplicate}
use Rattle.definitions.specs.Reply.{Reply, Accepted, Refused}
use Rattle.definitions.proofs.Sample.{isa_in, isa_out, gs_in, gs_out, iea, received, refusal_of, first_set, first_advice, first_answer, sends, book, reply_after, refusal_alone}

-- the control number's correction: a wrong IEA02 isn't recorded
abbrev crossed : List ℕ
crossed = isa_in (codes "000000007") (codes "1") ++ gs_in (codes "AR") (codes "1") ++ first_set ++ codes "GE*1*1~" ++ iea (codes "1") (codes "000000009")

abbrev mended : List ℕ
mended = received (codes "000000007") (codes "1") (codes "AR") (codes "1") first_set

changed_resend_refused : (r : Rules) → reply_after r (sends first_advice ∷ []) (sends (received (codes "000000001") (codes "1") (codes "AR") (codes "1")
    (codes "ST*943*0001~W06*F*PO77*20250303*SHP1~W04*101*EA**SK*BOLT~N9*LT*L1~W03*101~SE*6*0001~")))
    ≡ Refused Duplicate (refusal_of (codes "000000001") (codes "025"))
unfolding digits
changed_resend_refused r = refl

crossed_control_numbers : (r : Rules) → reply_after r [] (sends crossed) ≡ Refused (Note 1) (refusal_of (codes "000000007") (codes "001"))
unfolding digits
crossed_control_numbers r = refl

corrected_and_accepted : (r : Rules) → reply_after r (sends crossed ∷ []) (sends mended) ≡ Accepted (isa_out (codes "000000001")
    ++ codes "TA1*000000007*250304*0915*A*000~" ++ gs_out (codes "FA") (codes "1")
    ++ codes "ST*997*0001~AK1*AR*1~AK2*943*0001~AK5*A~AK9*A*1*1*1~SE*6*0001~GE*1*1~" ++ iea (codes "1") (codes "000000001"))
unfolding digits
corrected_and_accepted One = refl
corrected_and_accepted Two = refl

-- other delimiters: every `*` made `|` and every `~` made LF
abbrev piped : List ℕ → List ℕ
piped text = map (λ b. if b == 42 then 124 else (if b == 126 then 10 else b)) text

-- CR LF after each `~`
abbrev with_lines : List ℕ → List ℕ
with_lines text = flat_map (λ b. if b == 126 then 126 ∷ 13 ∷ 10 ∷ [] else b ∷ []) text

other_delimiters : (r : Rules) → reply_after r [] (sends (piped first_advice)) ≡ Accepted (piped first_answer)
unfolding digits
other_delimiters One = refl
other_delimiters Two = refl

other_delimiters_length : length (piped first_answer) ≡ 265
other_delimiters_length = refl

line_ends : (r : Rules) → reply_after r [] (sends (with_lines first_advice)) ≡ Accepted first_answer
unfolding digits
line_ends One = refl
line_ends Two = refl

other_delimiters_again : (r : Rules) → reply_after r (sends first_advice ∷ []) (sends (piped first_advice)) ≡ Refused Duplicate (piped (refusal_of (codes "000000001") (codes "025")))
unfolding digits
other_delimiters_again r = refl

line_ends_again : (r : Rules) → reply_after r (sends first_advice ∷ []) (sends (with_lines first_advice)) ≡ Refused Duplicate (refusal_of (codes "000000001") (codes "025"))
unfolding digits
line_ends_again r = refl

-- cut off
abbrev note_1 : ℕ → List ℕ → Reply
note_1 code note = Refused (Note code) (refusal_of (codes "000000001") note)

no_bytes : (r : Rules) → reply_after r [] (sends []) ≡ Refused Unreadable []
unfolding digits
no_bytes r = refl

under_an_ISA : (r : Rules) → reply_after r [] (sends (take 105 first_advice)) ≡ Refused Unreadable []
unfolding digits
under_an_ISA r = refl

cut_off : (r : Rules) → map (λ k. reply_after r [] (sends (take k first_advice))) (106 ∷ 239 ∷ 254 ∷ []) ≡ replicate 3 (note_1 23 (codes "023"))
unfolding digits
cut_off r = refl

-- another sender, another receiver
abbrev from_ACM2 : List ℕ
from_ACM2 = take 38 first_advice ++ codes "2" ++ drop 39 first_advice

abbrev to_WHSE2 : List ℕ
to_WHSE2 = take 58 first_advice ++ codes "2" ++ drop 59 first_advice

unknown_sender : (r : Rules) → reply_after r [] (sends from_ACM2) ≡ Refused (Note 6)
    (codes "ISA*00*          *00*          *ZZ*WHSE1          *ZZ*ACM2           *250304*0915*U*00401*000000000*0*P*>~TA1*000000001*250304*0915*R*006~IEA*0*000000000~")
unfolding digits
unknown_sender r = refl

unknown_receiver : (r : Rules) → reply_after r [] (sends to_WHSE2) ≡ note_1 9 (codes "009")
unfolding digits
unknown_receiver r = refl

-- an interchange without a group
no_group : (r : Rules) → reply_after r [] (sends (isa_in (codes "000000001") (codes "1") ++ iea (codes "0") (codes "000000001")))
    ≡ Accepted (isa_out (codes "000000001") ++ codes "TA1*000000001*250304*0915*A*000~" ++ iea (codes "0") (codes "000000001"))
unfolding digits
no_group r = refl

no_group_silent : (r : Rules) → reply_after r [] (sends (isa_in (codes "000000001") (codes "0") ++ iea (codes "0") (codes "000000001"))) ≡ Accepted []
unfolding digits
no_group_silent r = refl

-- its number is taken all the same
no_group_number : (r : Rules) → next_number (book r (sends (isa_in (codes "000000001") (codes "0") ++ iea (codes "0") (codes "000000001")) ∷ [])) ≡ 2
unfolding digits
no_group_number r = refl

known_before_receiver : (r : Rules) → reply_after r (sends first_advice ∷ []) (sends to_WHSE2) ≡ Refused Duplicate (refusal_of (codes "000000001") (codes "025"))
unfolding digits
known_before_receiver r = refl

-- the first advice with other fields of ISA
abbrev isa_with : List ℕ → List ℕ → List ℕ
isa_with date version = codes "ISA*00*          *00*          *ZZ*ACME           *ZZ*WHSE1          *" ++ date ++ codes "*0915*U*" ++ version ++ codes "*000000001*1*P*>~"

abbrev bad_date : List ℕ
bad_date = isa_with (codes "251301") (codes "00402") ++ drop 106 first_advice

date_before_version : (r : Rules) → reply_after r [] (sends bad_date) ≡ Refused (Note 14)
    (isa_out (codes "000000000") ++ codes "TA1*000000001*251301*0915*R*014~" ++ iea (codes "0") (codes "000000000"))
unfolding digits
date_before_version r = refl

-- the first advice with another end
abbrev ended_with : List ℕ → List ℕ
ended_with end = take 239 first_advice ++ end

its_end : ended_with (iea (codes "1") (codes "000000001")) ≡ first_advice
its_end = refl

ends : (r : Rules) → map (λ end. reply_after r [] (sends (ended_with end)))
    (codes "IEA*2*000000009~"
    ∷ codes "IEA*2*000000001~"
    ∷ codes "IEA*1*000000001~X"
    ∷ codes "IEA*1*000000001~IEA*1*000000001~"
    ∷ [])
    ≡ note_1 1 (codes "001") ∷ note_1 21 (codes "021") ∷ note_1 23 (codes "023") ∷ note_1 22 (codes "022") ∷ []
unfolding digits
ends r = refl

group_without_set : (r : Rules) → reply_after r [] (sends (isa_in (codes "000000001") (codes "1") ++ gs_in (codes "AR") (codes "1") ++ codes "GE*0*1~" ++ iea (codes "1") (codes "000000001")))
    ≡ note_1 24 (codes "024")
unfolding digits
group_without_set r = refl

-- single bytes of the first advice changed
abbrev changed : ℕ → List ℕ → List ℕ
changed offset byte = take offset first_advice ++ byte ++ drop (offset + 1) first_advice

single_changes : (r : Rules) → map (λ (p : ℕ × List ℕ). refusal_alone (reply_after r [] (sends (changed p.0 p.1))))
    ((3, codes "-") ∷ (104, codes "*") ∷ (105, codes ">")
    ∷ (4, codes "1") ∷ (32, codes "Y") ∷ (51, codes "Y") ∷ (70, codes "A") ∷ (77, codes "3") ∷ (82, codes "V")
    ∷ (88, codes "2") ∷ (98, codes "2") ∷ (100, codes "2") ∷ (102, codes "T") ∷ [])
    ≡ Some Unreadable ∷ Some Unreadable ∷ Some Unreadable
    ∷ Some (Note 10) ∷ Some (Note 6) ∷ Some (Note 9) ∷ Some (Note 14) ∷ Some (Note 15) ∷ Some (Note 2)
    ∷ Some (Note 3) ∷ Some (Note 1) ∷ Some (Note 19) ∷ Some (Note 20) ∷ []
unfolding digits
single_changes r = refl

-- a set that SE closes, and one that it doesn't
closed_set : IsSet (set_of (codes "ST" ∷ [], (codes "W06" ∷ []) ∷ (codes "SE" ∷ []) ∷ (codes "N1" ∷ []) ∷ []))
closed_set = (codes "ST" ∷ [], (codes "W06" ∷ []) ∷ [], Some (codes "SE" ∷ []), refl, refl, refl, (refl, tt), refl)

open_set : IsSet (set_of (codes "ST" ∷ [], (codes "W06" ∷ []) ∷ []))
open_set = (codes "ST" ∷ [], (codes "W06" ∷ []) ∷ [], None, refl, refl, refl, (refl, tt), refl)
