-- Worked example of the largest order: 999 lines of 999,999 each, with the W76 that is their sum.
-- Nothing is wrong with it.
use Rattle.std.specs.Prelude.{◌≡◌, ℕ, ◌+◌, ◌/◌, ◌%◌, true, List, [], ◌∷◌, ◌++◌, slice_get, Some, None, codes, decimal, flat_map}
use Rattle.std.specs.List.{range_with_len}
use Rattle.std.proofs.Common.{refl, ◌∙◌}
use Rattle.std.specs.Fmt.{digits}
use Rattle.definitions.specs.Rules.{Today}
use Rattle.definitions.specs.declared.set_kind.SetKind.TheVariants.{ShippingOrder}
use Rattle.definitions.specs.Cut.{Segment}
use Rattle.definitions.specs.Words.{words_940}
use Rattle.definitions.specs.Faults.{set_fault}
use Rattle.definitions.specs.Structure.{Set, envelope_fault}
use Rattle.definitions.specs.Means.{order_of}
use Rattle.definitions.specs.Events.{Enrolment, order_fault}
use Rattle.definitions.specs.Texts.{own_delims}
use Rattle.definitions.proofs.FaultsLaws.{set_fault-from}

abbrev pub st : Segment
st = codes "ST" ∷ codes "940" ∷ codes "0001" ∷ []

-- an item of three digits, the last in front: so most differ from each other in the first byte
abbrev item : ℕ → List ℕ
item k = (48 + k % 10) ∷ (48 + k / 10 % 10) ∷ (48 + k / 100) ∷ []

abbrev lines : ℕ → List Segment
lines n = flat_map (λ k. (codes "LX" ∷ decimal k ∷ [])
    ∷ (codes "W01" ∷ codes "999999" ∷ codes "EA" ∷ [] ∷ codes "SK" ∷ item k ∷ [])
    ∷ []) (range_with_len 1 n)

-- 999 lines of 999999 are 998999001; with ST, W05, W76 and SE there are 2002 segments
abbrev pub full : List Segment
full = st ∷ (codes "W05" ∷ codes "N" ∷ codes "ORD1" ∷ []) ∷ lines 999
    ++ (codes "W76" ∷ codes "998999001" ∷ [])
    ∷ (codes "SE" ∷ codes "2002" ∷ codes "0001" ∷ []) ∷ []

abbrev pub closed : List Segment → Set
closed segments = record { segments = segments; is_closed = true }

-- it begins with its ST
pub full_head : slice_get full 0 ≡ Some st
full_head = refl

-- its ST and its SE agree with each other, and with the group
pub full_envelope : envelope_fault (Some ShippingOrder) [] (closed full) ≡ None
full_envelope = refl

-- each segment is in its place, and each element right
pub full_segments : set_fault Today own_delims (words_940 Today) full ≡ None
unfolding digits
full_segments = set_fault-from Today own_delims (words_940 Today) full ∙ refl

-- no item stands in it twice, and its W76 is the sum
pub full_trade : order_fault (Enrolment ∷ []) (order_of full) ≡ None
unfolding digits
full_trade = refl
