-- Worked examples of where segments of an interchange may stand, of the order of its conditions,
-- and of what can't be read.
use Rattle.std.specs.Prelude.{◌≡◌, ℕ, ◌+◌, List, [], ◌∷◌, ◌++◌, map, length, take, drop, replicate, Some, None, codes, fold, Option}
use Rattle.std.specs.List.{range_with_len}
use Rattle.std.proofs.Common.{refl}
use Rattle.std.specs.Fmt.{digits}
use Rattle.definitions.specs.declared.rules.Rules.{Rules}
use Rattle.definitions.specs.Header.{separator_offsets}
use Rattle.definitions.specs.Refusals.{Refusal, Unreadable, Duplicate}
use Rattle.definitions.specs.Reply.{Accepted}
use Rattle.definitions.proofs.Sample.{isa_out, gs_out, iea, first_advice, sends, reply_after}
use Rattle.definitions.proofs.RowsNotes.{control, ISA, GS, set, GE, IEA, refusal_after, note, after_ISA}

abbrev SE : List ℕ
SE = codes "SE*2*0001~"

abbrev N1 : List ℕ
N1 = codes "N1*ST~"

abbrev TA1 : List ℕ
TA1 = codes "TA1*000000001*250304*0915*A*000~"

-- a second ISA, and a TA1, wherever they stand
abbrev at_each_place : List ℕ → List (List ℕ)
at_each_place s =
    (s ++ GS ++ set ++ GE)
    ∷ (GS ++ s ++ set ++ GE)
    ∷ (GS ++ codes "ST*943*0001~" ++ s ++ codes "SE*3*0001~" ++ GE)
    ∷ (GS ++ set ++ s ++ GE)
    ∷ (GS ++ set ++ GE ++ s)
    ∷ []

never_inside : (r : Rules) → map (λ inside. after_ISA r (inside ++ IEA))
    (at_each_place ISA ++ at_each_place TA1
    ++ at_each_place (codes "ISA~") ++ at_each_place (codes "TA1~"))
    ≡ replicate 20 (note 24)
unfolding digits
never_inside r = refl

-- what stands outside its place: between ISA and GS, GS and ST, SE and ST or GE, GE and GS or IEA
outside : (r : Rules) → map (λ inside. after_ISA r (inside ++ IEA))
    ((N1 ++ GS ++ set ++ GE)
    ∷ (GS ++ N1 ++ set ++ GE)
    ∷ (GS ++ set ++ N1 ++ GE)
    ∷ (GS ++ set ++ N1 ++ set ++ GE)
    ∷ (GS ++ set ++ GE ++ N1)
    ∷ (set ++ GS ++ set ++ GE)
    ∷ (GS ++ set ++ GE ++ set)
    ∷ (SE ++ GS ++ set ++ GE)
    ∷ (GS ++ SE ++ GE)
    ∷ (GS ++ SE ++ set ++ GE)
    ∷ (GS ++ set ++ SE ++ GE)
    ∷ (GS ++ set ++ GE ++ SE)
    ∷ (GE ++ GS ++ set ++ GE)
    ∷ (GS ++ set ++ GE ++ GE)
    ∷ (GS ++ set ++ SE)
    ∷ (GS ++ GE)
    ∷ (GS ++ [])
    ∷ [])
    ≡ replicate 17 (note 24)
unfolding digits
outside r = refl

-- the same between two groups
between_groups : (r : Rules) → map
    (λ inside. after_ISA r (GS ++ set ++ GE ++ inside ++ GS ++ set ++ GE ++ iea (codes "2") control))
    (N1 ∷ set ∷ SE ∷ GE ∷ [])
    ≡ replicate 4 (note 24)
unfolding digits
between_groups r = refl

-- a group in which a group begins has no set
abbrev two_heads : List ℕ
two_heads = GS ++ GS ++ set ++ GE ++ iea (codes "2") control

group_in_group : (r : Rules) → after_ISA r two_heads ≡ note 24
unfolding digits
group_in_group r = refl

-- sets without SE and groups without GE are accepted, and so is an interchange of nothing else
unclosed : (r : Rules) → map (after_ISA r)
    ((GS ++ codes "ST*943*0001~" ++ GE ++ IEA)
    ∷ (GS ++ set ++ IEA)
    ∷ (GS ++ codes "ST*943*0001~" ++ IEA)
    ∷ (GS ++ codes "ST*943*0001~" ++ N1 ++ codes "ST*943*0002~" ++ IEA)
    ∷ (GS ++ codes "ST*943*0001~" ++ GS ++ set ++ iea (codes "2") control)
    ∷ [])
    ≡ replicate 5 None
unfolding digits
unclosed r = refl

-- what the depositor is told of two sets without SE in a group with GE, and of groups without GE
told_unclosed : (r : Rules) → map (λ rest. reply_after r [] (sends (ISA ++ rest)))
    ((GS ++ codes "ST*943*0001~ST*943*0002~GE*2*1~" ++ IEA)
    ∷ (GS ++ codes "ST*943*0001~" ++ codes "GS*OW*ACME*WHSE1*20250304*0915*02*X*004010~"
    ++ set ++ iea (codes "2") control)
    ∷ [])
    ≡ Accepted (isa_out control ++ gs_out (codes "FA") (codes "1")
    ++ codes "ST*997*0001~AK1*AR*1~AK2*943*0001~AK5*R*2~AK2*943*0002~AK5*R*2~AK9*R*2*2*0~SE*8*0001~"
    ++ codes "GE*1*1~" ++ IEA)
    ∷ Accepted (isa_out control ++ gs_out (codes "FA") (codes "1")
    ++ codes "ST*997*0001~AK1*AR*1~AK9*R*1*1*0*3~SE*4*0001~"
    ++ codes "ST*997*0002~AK1*OW*02~AK9*R*1*1*0*3~SE*4*0002~"
    ++ codes "GE*2*1~" ++ IEA)
    ∷ []
unfolding digits
told_unclosed r = refl

-- The order of the conditions.

abbrev changed : List ℕ → (ℕ × List ℕ) → List ℕ
changed text change = take change.0 text ++ change.1 ++ drop (change.0 + length change.1) text

-- what is wrong with each field of ISA, in the order in which they are looked at
abbrev wrongs : List (ℕ × List ℕ)
wrongs =
    (90, codes "A")
    ∷ (38, codes "2")
    ∷ (58, codes "2")
    ∷ (4, codes "01")
    ∷ (16, codes "X")
    ∷ (18, codes "10")
    ∷ (21, codes "X")
    ∷ (70, codes "250230")
    ∷ (77, codes "2360")
    ∷ (82, codes "V")
    ∷ (84, codes "00402")
    ∷ (100, codes "2")
    ∷ (102, codes "T")
    ∷ []

-- the ends: each has what is wrong with those after it too
abbrev ends : List (List ℕ)
ends =
    codes "GS~GE*1*1~IEA*2*000000009~IEA~X"
    ∷ codes "GS~GE*1*1~IEA*2*000000009~IEA~"
    ∷ codes "GS~GE*1*1~IEA*2*000000009~"
    ∷ codes "GS~GE*1*1~IEA*2*000000001~"
    ∷ codes "GS~GE*1*1~IEA*1*000000001~"
    ∷ (GS ++ set ++ GE ++ IEA)
    ∷ []

-- ISA with all but the first n of its wrongs
abbrev wrong_after : ℕ → List ℕ
wrong_after n = fold changed ISA (drop n wrongs)

abbrev mended_in_turn : List (List ℕ)
mended_in_turn =
    map (λ n. wrong_after n ++ codes "GS~GE*1*1~IEA*2*000000009~IEA~X") (range_with_len 0 13)
    ++ map (λ end. ISA ++ end) ends

in_order : (r : Rules) → map (refusal_after r []) mended_in_turn
    ≡ Some Unreadable ∷ note 6 ∷ note 9 ∷ note 10 ∷ note 11 ∷ note 12
    ∷ note 13 ∷ note 14 ∷ note 15 ∷ note 2 ∷ note 3
    ∷ note 19 ∷ note 20 ∷ note 23 ∷ note 22 ∷ note 1 ∷ note 21 ∷ note 24 ∷ None ∷ []
unfolding digits
in_order r = refl

-- once the control number is known, nothing after it is looked at
in_order_known : (r : Rules) → map (refusal_after r (sends first_advice ∷ [])) mended_in_turn
    ≡ Some Unreadable ∷ note 6 ∷ replicate 17 (Some Duplicate)
unfolding digits
in_order_known r = refl

-- Fields of ISA at their limits.

abbrev ISA_with : Rules → (ℕ × List ℕ) → Option Refusal
ISA_with r change = refusal_after r [] (changed ISA change ++ GS ++ set ++ GE ++ IEA)

good_fields : (r : Rules) → map (ISA_with r)
    ((70, codes "000229") ∷ (70, codes "000101") ∷ (70, codes "991231") ∷ (77, codes "0000")
    ∷ (77, codes "2359") ∷ (100, codes "1") ∷ [])
    ≡ replicate 6 None
unfolding digits
good_fields r = refl

bad_fields : (r : Rules) → map (ISA_with r)
    ((70, codes "010229") ∷ (70, codes "250431") ∷ (70, codes "250100") ∷ (70, codes "250001")
    ∷ (70, codes "2503 4")
    ∷ (77, codes "2400") ∷ (77, codes "0060") ∷ (77, codes "09 5") ∷ (77, codes "-915")
    ∷ (100, codes " ") ∷ (102, codes "p") ∷ (82, codes " ") ∷ (84, codes "00401 ") ∷ [])
    ≡ replicate 5 (note 14) ++ replicate 4 (note 15)
    ++ note 19 ∷ note 20 ∷ note 2 ∷ Some Unreadable ∷ []
unfolding digits
bad_fields r = refl

-- What can't be read: a byte of ISA that isn't data, other delimiters, a separator missing.

unreadable_fields : (r : Rules) → map (ISA_with r)
    ((7, codes ">") ∷ (40, codes "~") ∷ (102, codes ">") ∷ (35, codes "\r") ∷ (54, codes "\n")
    ∷ (35, 31 ∷ []) ∷ (35, 127 ∷ []) ∷ (35, 195 ∷ 132 ∷ [])
    ∷ (0, codes "isa") ∷ (0, codes " IS") ∷ (90, codes " ") ∷ (98, codes "-")
    ∷ (104, codes "A") ∷ (104, codes "5") ∷ (104, codes "-") ∷ (104, codes ".") ∷ (104, codes " ")
    ∷ (104, codes "\n") ∷ (104, codes "~") ∷ (105, codes "*") ∷ (105, codes "\r") ∷ (105, 27 ∷ [])
    ∷ (105, 32 ∷ []) ∷ [])
    ≡ replicate 23 (Some Unreadable)
unfolding digits
unreadable_fields r = refl

no_separator : (r : Rules) → map (λ k. ISA_with r (k, codes " ")) separator_offsets ≡ replicate 16 (Some Unreadable)
unfolding digits
no_separator r = refl

-- after ISA: CR and LF stand only after a terminator, and other control bytes nowhere
abbrev with_bytes : Rules → List ℕ → Option Refusal
with_bytes r bytes = after_ISA r
    (GS ++ codes "ST*943*0001~N1*A" ++ bytes ++ codes "B~SE*3*0001~" ++ GE ++ IEA)

bytes_in_element : (r : Rules) → map (with_bytes r)
    (codes "\r" ∷ codes "\n" ∷ codes "\r\n" ∷ codes "\t"
    ∷ (0 ∷ []) ∷ (31 ∷ []) ∷ (127 ∷ []) ∷ (128 ∷ []) ∷ (255 ∷ []) ∷ [])
    ≡ replicate 9 (Some Unreadable)
unfolding digits
bytes_in_element r = refl

good_bytes : (r : Rules) → map (with_bytes r)
    (codes " " ∷ codes "}" ∷ codes ">" ∷ codes "*" ∷ codes "~\r\n\nN1*" ∷ codes "~\n\r\rN1*" ∷ [])
    ≡ replicate 6 None
unfolding digits
good_bytes r = refl
