-- Worked examples at the limits of rules 2: 999 lines of a set, and one more. The set is judged by
-- its segments in one pass.
use Rattle.std.specs.Prelude.{◌≡◌, ℕ, ◌+◌, ◌*◌, ◌/◌, ◌%◌, ◌<◌, ◌^◌, map, List, [], ◌∷◌, ◌++◌, codes, decimal, flat_map, Some, None}
use Rattle.std.specs.List.{range_with_len}
use Rattle.std.proofs.Common.{refl, ap, ◌∙◌, arith}
use Rattle.std.specs.Fmt.{digits}
use Rattle.definitions.specs.Rules.{Today}
use Rattle.definitions.specs.Limits.{most_lines, most_quantity}
use Rattle.definitions.specs.Lists.{first_present}
use Rattle.definitions.specs.Cut.{Segment}
use Rattle.definitions.specs.Words.{words_943, words_940}
use Rattle.definitions.specs.Faults.{set_fault}
use Rattle.definitions.specs.Means.{Advice, Order}
use Rattle.definitions.specs.Events.{advice_fault, trade_fault, repeated_pair, redated_pair, wrong_advice_total, sooner, expiry, order_fault}
use Rattle.definitions.specs.Texts.{own_delims}
use Rattle.definitions.proofs.FaultsLaws.{set_fault-from}

abbrev goods : List ℕ → Segment
goods id = id ∷ codes "999999" ∷ codes "EA" ∷ [] ∷ codes "SK" ∷ codes "BOLT" ∷ []

abbrev lines_943 : ℕ → List Segment
lines_943 n = flat_map (λ k. goods (codes "W04") ∷ (codes "N9" ∷ codes "LT" ∷ decimal k ∷ []) ∷ []) (range_with_len 1 n)

abbrev long_943 : ℕ → List ℕ → List Segment
long_943 n total = (codes "ST" ∷ codes "943" ∷ codes "0001" ∷ [])
    ∷ (codes "W06" ∷ codes "F" ∷ codes "PO77" ∷ codes "20250303" ∷ codes "SHP1" ∷ []) ∷ lines_943 n
    ++ (codes "W03" ∷ total ∷ []) ∷ (codes "SE" ∷ codes "2002" ∷ codes "0001" ∷ []) ∷ []

full_943 : set_fault Today own_delims (words_943 Today) (long_943 999 (codes "998999001")) ≡ None
unfolding digits
full_943 = set_fault-from Today own_delims (words_943 Today) (long_943 999 (codes "998999001")) ∙ refl

line_too_many : set_fault Today own_delims (words_943 Today) (long_943 1000 (codes "999999000"))
    ≡ Some (record { id = codes "W04"; position = 2001; code = 2; element = None })
unfolding digits
line_too_many = set_fault-from Today own_delims (words_943 Today) (long_943 1000 (codes "999999000")) ∙ refl

-- the advice that such a set is, with these lots
abbrev long_advice : ℕ → ℕ → Advice
long_advice n total = record {
  shipment = codes "SHP1";
  order = codes "PO77";
  lines = map (λ k. record {
    line = record { item = codes "BOLT"; lot = (48 + k % 10) ∷ (48 + k / 10 % 10) ∷ (48 + k / 100) ∷ []; quantity = 999999 };
    expiry = None;
    position = 2 * k + 1;
  }) (range_with_len 1 n);
  total = total;
  total_position = 2 * n + 3;
}

none_repeated : (total : ℕ) → repeated_pair (long_advice 999 total) ≡ None
none_repeated total = refl

where_none_repeated : (a : Advice) → repeated_pair a ≡ None → advice_fault [] a ≡ first_present (redated_pair (expiry []) a ∷ wrong_advice_total a ∷ [])
where_none_repeated a none = ap (λ o. first_present (sooner o (redated_pair (expiry []) a) ∷ wrong_advice_total a ∷ [])) none

-- whatever its total is: so its lines are compared once for both examples
lines_apart : (total : ℕ) → advice_fault [] (long_advice 999 total)
    ≡ first_present (redated_pair (expiry []) (long_advice 999 total) ∷ wrong_advice_total (long_advice 999 total) ∷ [])
lines_apart total = where_none_repeated (long_advice 999 total) (none_repeated total)

full_advice : advice_fault [] (long_advice 999 998999001) ≡ None
full_advice = lines_apart 998999001 ∙ refl

wrong_total : advice_fault [] (long_advice 999 998999000) ≡ Some (trade_fault (codes "W03") 2001 1)
wrong_total = lines_apart 998999000 ∙ refl

abbrev long_940 : ℕ → List Segment
long_940 n = (codes "ST" ∷ codes "940" ∷ codes "0001" ∷ [])
    ∷ (codes "W05" ∷ codes "N" ∷ codes "ORD1" ∷ [])
    ∷ flat_map (λ k. (codes "LX" ∷ decimal k ∷ []) ∷ goods (codes "W01") ∷ []) (range_with_len 1 n)

-- an order's thousandth line has the fault, and so the 999 before it have none
order_line_too_many : set_fault Today own_delims (words_940 Today) (long_940 1000)
    ≡ Some (record { id = codes "LX"; position = 2001; code = 2; element = None })
unfolding digits
order_line_too_many = set_fault-from Today own_delims (words_940 Today) (long_940 1000) ∙ refl

-- an order of 999 lines with its W76 passes
full_940 : set_fault Today own_delims (words_940 Today)
    (long_940 999 ++ (codes "W76" ∷ codes "998999001" ∷ []) ∷ (codes "SE" ∷ codes "2002" ∷ codes "0001" ∷ []) ∷ []) ≡ None
unfolding digits
full_940 = set_fault-from Today own_delims (words_940 Today)
    (long_940 999 ++ (codes "W76" ∷ codes "998999001" ∷ []) ∷ (codes "SE" ∷ codes "2002" ∷ codes "0001" ∷ []) ∷ []) ∙ refl

-- the order that such a set is, with these items
abbrev long_order : Order
long_order = record {
  number = codes "ORD1";
  address = None;
  lines = map (λ k. record {
    item = (48 + k % 10) ∷ (48 + k / 10 % 10) ∷ (48 + k / 100) ∷ [];
    pin = None;
    quantity = 999999;
    position = 2 * k + 2;
  }) (range_with_len 1 999);
  total = 998999001;
  total_position = 2001;
}

full_order : order_fault [] long_order ≡ None
full_order = refl

-- the sum of a set has nine digits, the quantity of a line six
sums_fit : (most_lines Today * most_quantity Today < 10 ^ 9) × (most_quantity Today < 10 ^ 6)
sums_fit = (omega arith, omega arith)
