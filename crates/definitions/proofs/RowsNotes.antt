-- Worked examples of the conditions on an interchange: what is told of each, and in which order.
use Rattle.std.specs.Prelude.{◌≡◌, ℕ, List, [], ◌∷◌, ◌++◌, map, replicate, Some, None, codes, Option}
use Rattle.std.proofs.Common.{refl}
use Rattle.std.specs.Fmt.{digits}
use Rattle.definitions.specs.declared.rules.Rules.{Rules}
use Rattle.definitions.specs.Moments.{Moment}
use Rattle.definitions.specs.Register.{Command}
use Rattle.definitions.specs.Refusals.{Refusal, Note}
use Rattle.definitions.proofs.Sample.{isa_in, iea, sends, reply_after, refusal_alone}

abbrev pub control : List ℕ
control = codes "000000001"

abbrev pub ISA : List ℕ
ISA = isa_in control (codes "0")

abbrev pub GS : List ℕ
GS = codes "GS*AR*ACME*WHSE1*20250304*0915*1*X*004010~"

abbrev pub set : List ℕ
set = codes "ST*943*0001~SE*2*0001~"

abbrev pub GE : List ℕ
GE = codes "GE*1*1~"

abbrev pub IEA : List ℕ
IEA = iea (codes "1") control

abbrev pub refusal_after : Rules → List (Command × Moment) → List ℕ → Option Refusal
refusal_after r cs text = refusal_alone (reply_after r cs (sends text))

abbrev refusal : Rules → List ℕ → Option Refusal
refusal r text = refusal_after r [] text

-- refused with this note
abbrev pub note : ℕ → Option Refusal
note code = Some (Note code)

-- ISA and this
abbrev pub after_ISA : Rules → List ℕ → Option Refusal
after_ISA r rest = refusal r (ISA ++ rest)

plain : (r : Rules) → after_ISA r (GS ++ set ++ GE ++ IEA) ≡ None
unfolding digits
plain r = refl

-- GS: each element, one missing, one too many.

abbrev with_GS : Rules → List ℕ → Option Refusal
with_GS r gs = after_ISA r (codes "GS*" ++ gs ++ codes "~" ++ set ++ GE ++ IEA)

malformed_GS : (r : Rules) → map (with_GS r)
    (codes "*ACME*WHSE1*20250304*0915*1*X*004010"
    ∷ codes "A*ACME*WHSE1*20250304*0915*1*X*004010"
    ∷ codes "ARX*ACME*WHSE1*20250304*0915*1*X*004010"
    ∷ codes "ar*ACME*WHSE1*20250304*0915*1*X*004010"
    ∷ codes "AR**WHSE1*20250304*0915*1*X*004010"
    ∷ codes "AR*A*WHSE1*20250304*0915*1*X*004010"
    ∷ codes "AR*ABCDEFGHIJKLMNOP*WHSE1*20250304*0915*1*X*004010"
    ∷ codes "AR*AC>ME*WHSE1*20250304*0915*1*X*004010"
    ∷ codes "AR*ACME**20250304*0915*1*X*004010"
    ∷ codes "AR*ACME*W*20250304*0915*1*X*004010"
    ∷ codes "AR*ACME*ABCDEFGHIJKLMNOP*20250304*0915*1*X*004010"
    ∷ codes "AR*ACME*WHSE1*250304*0915*1*X*004010"
    ∷ codes "AR*ACME*WHSE1*20250230*0915*1*X*004010"
    ∷ codes "AR*ACME*WHSE1*00000101*0915*1*X*004010"
    ∷ codes "AR*ACME*WHSE1*20250304**1*X*004010"
    ∷ codes "AR*ACME*WHSE1*20250304*091*1*X*004010"
    ∷ codes "AR*ACME*WHSE1*20250304*09153*1*X*004010"
    ∷ codes "AR*ACME*WHSE1*20250304*091530123*1*X*004010"
    ∷ codes "AR*ACME*WHSE1*20250304*2400*1*X*004010"
    ∷ codes "AR*ACME*WHSE1*20250304*0960*1*X*004010"
    ∷ codes "AR*ACME*WHSE1*20250304*0915**X*004010"
    ∷ codes "AR*ACME*WHSE1*20250304*0915*1234567890*X*004010"
    ∷ codes "AR*ACME*WHSE1*20250304*0915*A*X*004010"
    ∷ codes "AR*ACME*WHSE1*20250304*0915*1**004010"
    ∷ codes "AR*ACME*WHSE1*20250304*0915*1*XXX*004010"
    ∷ codes "AR*ACME*WHSE1*20250304*0915*1*X*"
    ∷ codes "AR*ACME*WHSE1*20250304*0915*1*X*0040100040100"
    ∷ codes "AR*ACME*WHSE1*20250304*0915*1*X"
    ∷ codes "AR*ACME*WHSE1*20250304*0915*1*X*004010*"
    ∷ [])
    ≡ replicate 29 (note 24)
unfolding digits
malformed_GS r = refl

-- what belongs to no group that is read, or to another version, is a fault of the group alone
well_formed_GS : (r : Rules) → map (with_GS r)
    (codes "XX*ACME*WHSE1*20250304*0915*1*X*004010"
    ∷ codes "AR*AC*AB*20250304*0915*1*X*004010"
    ∷ codes "AR*ABCDEFGHIJKLMNO*A B, (c)*20240229*0915*1*X*004010"
    ∷ codes "AR*ACME*WHSE1*20250304*091530*1*X*004010"
    ∷ codes "AR*ACME*WHSE1*20250304*0915301*1*X*004010"
    ∷ codes "AR*ACME*WHSE1*20250304*09159999*1*X*004010"
    ∷ codes "AR*ACME*WHSE1*20250304*2359*123456789*X*004010"
    ∷ codes "AR*ACME*WHSE1*20250304*0000*1*XX*004010"
    ∷ codes "AR*ACME*WHSE1*20250304*0915*1*X*0"
    ∷ codes "AR*ACME*WHSE1*20250304*0915*1*X*004010004010"
    ∷ [])
    ≡ replicate 10 None
unfolding digits
well_formed_GS r = refl

-- GE, ST, SE and IEA.

abbrev with_GE : Rules → List ℕ → Option Refusal
with_GE r ge = after_ISA r (GS ++ set ++ ge ++ codes "~" ++ IEA)

malformed_GE : (r : Rules) → map (with_GE r)
    (codes "GE" ∷ codes "GE*1" ∷ codes "GE**1" ∷ codes "GE*1*" ∷ codes "GE*0000001*1"
    ∷ codes "GE*A*1"
    ∷ codes "GE*-1*1" ∷ codes "GE*1*1234567890" ∷ codes "GE*1*A" ∷ codes "GE*1*1*"
    ∷ codes "GE*1*1*1" ∷ [])
    ≡ replicate 11 (note 24)
unfolding digits
malformed_GE r = refl

well_formed_GE : (r : Rules) → map (with_GE r)
    (codes "GE*000001*1" ∷ codes "GE*2*1" ∷ codes "GE*0*1" ∷ codes "GE*1*01"
    ∷ codes "GE*1*123456789" ∷ [])
    ≡ replicate 5 None
unfolding digits
well_formed_GE r = refl

abbrev with_ST : Rules → List ℕ → Option Refusal
with_ST r st = after_ISA r (GS ++ st ++ codes "~SE*2*0001~" ++ GE ++ IEA)

malformed_ST : (r : Rules) → map (with_ST r)
    (codes "ST" ∷ codes "ST*943" ∷ codes "ST**0001" ∷ codes "ST*943*" ∷ codes "ST*94*0001"
    ∷ codes "ST*9430*0001" ∷ codes "ST*94a*0001" ∷ codes "ST*943*001" ∷ codes "ST*943*0000000001"
    ∷ codes "ST*943*000a" ∷ codes "ST*943*00-1" ∷ codes "ST*943*0001*" ∷ [])
    ≡ replicate 12 (note 24)
unfolding digits
malformed_ST r = refl

well_formed_ST : (r : Rules) → map (with_ST r)
    (codes "ST*944*0001" ∷ codes "ST*XYZ*0001" ∷ codes "ST*943*000000001" ∷ codes "ST*943*A1B2" ∷ [])
    ≡ replicate 4 None
unfolding digits
well_formed_ST r = refl

abbrev with_SE : Rules → List ℕ → Option Refusal
with_SE r se = after_ISA r (GS ++ codes "ST*943*0001~" ++ se ++ codes "~" ++ GE ++ IEA)

malformed_SE : (r : Rules) → map (with_SE r)
    (codes "SE" ∷ codes "SE*2" ∷ codes "SE**0001" ∷ codes "SE*2*" ∷ codes "SE*00000000002*0001"
    ∷ codes "SE*A*0001" ∷ codes "SE*2*001" ∷ codes "SE*2*0000000001" ∷ codes "SE*2*000a"
    ∷ codes "SE*2*0001*" ∷ [])
    ≡ replicate 10 (note 24)
unfolding digits
malformed_SE r = refl

well_formed_SE : (r : Rules) → map (with_SE r)
    (codes "SE*0000000002*0001" ∷ codes "SE*0*0001" ∷ codes "SE*2*000000001" ∷ codes "SE*2*ABCD" ∷ [])
    ≡ replicate 4 None
unfolding digits
well_formed_SE r = refl

-- IEA as given, then what may stand after it
abbrev with_IEA : Rules → List ℕ → Option Refusal
with_IEA r trailer = after_ISA r (GS ++ set ++ GE ++ trailer ++ codes "~")

malformed_IEA : (r : Rules) → map (with_IEA r)
    (codes "IEA" ∷ codes "IEA*1" ∷ codes "IEA**000000001" ∷ codes "IEA*1*"
    ∷ codes "IEA*000001*000000001" ∷ codes "IEA*A*000000001" ∷ codes "IEA*1*00000001"
    ∷ codes "IEA*1*0000000001" ∷ codes "IEA*1*00000000A" ∷ codes "IEA*1*000000001*"
    ∷ codes "IEA*1*000000001~GE*1*1" ∷ codes "IEA*1*000000001~N1*ST"
    ∷ codes "IEA*1*000000001~" ∷ codes "IEA*1*000000001~IEA*1*000000001" ∷ [])
    ≡ replicate 14 (note 22)
unfolding digits
malformed_IEA r = refl

well_formed_IEA : (r : Rules) → map (with_IEA r)
    (codes "IEA*1*000000001" ∷ codes "IEA*01*000000001" ∷ codes "IEA*00001*000000001" ∷ [])
    ≡ replicate 3 None
unfolding digits
well_formed_IEA r = refl

no_IEA : (r : Rules) → map (after_ISA r) ([] ∷ GS ∷ (GS ++ set) ∷ (GS ++ set ++ GE) ∷ []) ≡ replicate 4 (note 23)
unfolding digits
no_IEA r = refl

-- Segment ids, in a set.

abbrev with_segment : Rules → List ℕ → Option Refusal
with_segment r s = after_ISA r (GS ++ codes "ST*943*0001~" ++ s ++ codes "~SE*3*0001~" ++ GE ++ IEA)

bad_ids : (r : Rules) → map (with_segment r)
    (codes "N*A" ∷ codes "N123*A" ∷ codes "W" ∷ codes "w06*F"
    ∷ codes "n1" ∷ codes "N-" ∷ codes "N 1" ∷ codes " N1"
    ∷ codes "N>1" ∷ [] ∷ codes "*A" ∷ [])
    ≡ replicate 11 (note 24)
unfolding digits
bad_ids r = refl

good_ids : (r : Rules) → map (with_segment r)
    (codes "N1" ∷ codes "ZZZ*A" ∷ codes "99" ∷ codes "A0Z*" ∷ codes "N1***" ∷ codes "N1* " ∷ [])
    ≡ replicate 6 None
unfolding digits
good_ids r = refl
