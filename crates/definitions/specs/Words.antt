-- Words of segment ids: a small language of regular expressions.
use Rattle.std.specs.Prelude.{◌≡◌, ℕ, zero, suc, ◌-◌, ◌≤◌, Bool, true, false, ◌&&◌, ◌||◌, ◌⊎◌, List, [], ◌∷◌, ◌++◌, length, if◌then◌else◌, nat_lt, nat_le, ◌==◌, Some, None, codes, bytes_eq, fold, Option, option_map}
use Rattle.std.specs.List.{repeat}
use Rattle.definitions.specs.declared.rules.Rules.{Rules}
use Rattle.definitions.specs.declared.set_kind.SetKind.{SetKind}
use Rattle.definitions.specs.declared.set_kind.SetKind.TheVariants.{ShippingOrder, ShipmentAdvice, FunctionalAcknowledgment}
use Rattle.definitions.specs.Limits.{most_lines, most_parties, most_references, most_dates, most_told_sets, most_told_segments, most_told_elements}

pub data Words : Type 0 where
  Never : Words
  Empty : Words
  One : List ℕ → Words
  Then : Words → Words → Words
  Or : Words → Words → Words
  -- at least low and at most high in a row
  Times : ℕ → ℕ → Words → Words

-- As languages.

-- the ids are n parts in a row of which each has P
abbrev pub IsRow : (List (List ℕ) → Type 0) → ℕ → List (List ℕ) → Type 0
IsRow P zero ids = ids ≡ []
IsRow P (suc n) ids = (a b : List (List ℕ)) × (ids ≡ a ++ b) × P a × IsRow P n b

-- the ids are a word of these words
abbrev pub IsWord : Words → List (List ℕ) → Type 0
IsWord Never ids = ⊥
IsWord Empty ids = ids ≡ []
IsWord (One id) ids = ids ≡ id ∷ []
IsWord (Then v w) ids = (a b : List (List ℕ)) × (ids ≡ a ++ b) × IsWord v a × IsWord w b
IsWord (Or v w) ids = IsWord v ids ⊎ IsWord w ids
IsWord (Times low high w) ids = (n : ℕ) × (low ≤ n) × (n ≤ high) × IsRow (IsWord w) n ids

-- the ids begin a word
abbrev pub IsViable : Words → List (List ℕ) → Type 0
IsViable w ids = (more : List (List ℕ)) × IsWord w (ids ++ more)

-- these ids complete what stands before to a word, and no fewer do
abbrev pub IsShortestCompletion : Words → List (List ℕ) → List (List ℕ) → Type 0
IsShortestCompletion w ids more = IsWord w (ids ++ more)
    × ((other : List (List ℕ)) → IsWord w (ids ++ other) → length more ≤ length other)

-- The words of the sets that are read.

-- one after the other
abbrev pub in_turn : List Words → Words
in_turn [] = Empty
in_turn (w ∷ []) = w
in_turn (w ∷ v ∷ ws) = Then w (in_turn (v ∷ ws))

abbrev pub optional : Words → Words
optional w = Times 0 1 w

-- 943 Warehouse Stock Transfer Shipment Advice: ST W06 N1{0,5} N9{0,5} G62{0,2} (W04 N9){1,99} W03
-- SE, and 999 for 99 under rules 2
abbrev pub words_943 : Rules → Words
words_943 r = in_turn (
    One (codes "ST") ∷ One (codes "W06")
    ∷ Times 0 most_parties (One (codes "N1")) ∷ Times 0 most_references (One (codes "N9"))
    ∷ Times 0 most_dates (One (codes "G62"))
    ∷ Times 1 (most_lines r) (in_turn (One (codes "W04") ∷ One (codes "N9") ∷ []))
    ∷ One (codes "W03") ∷ One (codes "SE") ∷ [])

-- 940 Warehouse Shipping Order: ST W05 (N1 N3? N4?){0,5} N9{0,5} G62{0,2} (LX W01 N9?){1,99} W76
-- SE, and 999 for 99 under rules 2
abbrev pub words_940 : Rules → Words
words_940 r = in_turn (
    One (codes "ST") ∷ One (codes "W05")
    ∷ Times 0 most_parties (in_turn (One (codes "N1") ∷ optional (One (codes "N3"))
    ∷ optional (One (codes "N4")) ∷ []))
    ∷ Times 0 most_references (One (codes "N9")) ∷ Times 0 most_dates (One (codes "G62"))
    ∷ Times 1 (most_lines r) (in_turn (One (codes "LX") ∷ One (codes "W01")
    ∷ optional (One (codes "N9")) ∷ []))
    ∷ One (codes "W76") ∷ One (codes "SE") ∷ [])

-- 997 Functional Acknowledgment: ST AK1 (AK2 (AK3 AK4{0,99}){0,99} AK5){0,999} AK9 SE
abbrev pub words_997 : Words
words_997 = in_turn (
    One (codes "ST") ∷ One (codes "AK1")
    ∷ Times 0 most_told_sets (in_turn (
    One (codes "AK2")
    ∷ Times 0 most_told_segments (in_turn (One (codes "AK3")
    ∷ Times 0 most_told_elements (One (codes "AK4")) ∷ []))
    ∷ One (codes "AK5") ∷ []))
    ∷ One (codes "AK9") ∷ One (codes "SE") ∷ [])

-- the sets that are read
abbrev pub set_kinds : List SetKind
set_kinds = ShippingOrder ∷ ShipmentAdvice ∷ FunctionalAcknowledgment ∷ []

-- the functional identifier of its groups, GS01
abbrev pub kind_function : SetKind → List ℕ
kind_function ShippingOrder = codes "OW"
kind_function ShipmentAdvice = codes "AR"
kind_function FunctionalAcknowledgment = codes "FA"

-- its number, ST01
abbrev pub kind_number : SetKind → List ℕ
kind_number ShippingOrder = codes "940"
kind_number ShipmentAdvice = codes "943"
kind_number FunctionalAcknowledgment = codes "997"

abbrev pub kind_words : Rules → SetKind → Words
kind_words r ShippingOrder = words_940 r
kind_words r ShipmentAdvice = words_943 r
kind_words r FunctionalAcknowledgment = words_997

-- By computation.

-- whether nothing at all is a word
abbrev pub has_empty : Words → Bool
has_empty Never = false
has_empty Empty = true
has_empty (One id) = false
has_empty (Then v w) = has_empty v && has_empty w
has_empty (Or v w) = has_empty v || has_empty w
has_empty (Times low high w) = nat_le low high && (low == 0 || has_empty w)

-- whether there is a word
abbrev pub has_word : Words → Bool
has_word Never = false
has_word Empty = true
has_word (One id) = true
has_word (Then v w) = has_word v && has_word w
has_word (Or v w) = has_word v || has_word w
has_word (Times low high w) = nat_le low high && (low == 0 || has_word w)

-- v and then w, v or w, and w some times, without the parts that say nothing
abbrev pub then_words : Words → Words → Words
then_words Never w = Never
then_words Empty w = w
then_words v w = Then v w

abbrev pub or_words : Words → Words → Words
or_words Never w = w
or_words v Never = v
or_words v w = Or v w

abbrev pub times_words : ℕ → ℕ → Words → Words
times_words low zero w = if low == 0 then Empty else Never
times_words low (suc high) w = Times low (suc high) w

-- what may stand after the id
abbrev pub words_after : List ℕ → Words → Words
words_after id Never = Never
words_after id Empty = Never
words_after id (One x) = if bytes_eq id x then Empty else Never
words_after id (Then v w) = or_words (then_words (words_after id v) w) (if has_empty v
    then words_after id w else Never)
words_after id (Or v w) = or_words (words_after id v) (words_after id w)
words_after id (Times low high w) =
    if high == 0 then Never else then_words (words_after id w) (times_words (low - 1) (high - 1) w)

-- what may stand after the ids
abbrev pub words_after_all : Words → List (List ℕ) → Words
words_after_all w ids = fold (λ v id. words_after id v) w ids

-- the ids begin a word
abbrev pub is_viable : Words → List (List ℕ) → Bool
is_viable w ids = has_word (words_after_all w ids)

-- the shorter of two lists of ids, the first where they are as long
abbrev pub shorter : Option (List (List ℕ)) → Option (List (List ℕ)) → Option (List (List ℕ))
shorter None b = b
shorter (Some a) None = Some a
shorter (Some a) (Some b) = if nat_le (length a) (length b) then Some a else Some b

abbrev pub both : Option (List (List ℕ)) → Option (List (List ℕ)) → Option (List (List ℕ))
both (Some a) (Some b) = Some (a ++ b)
both (Some a) None = None
both None b = None

-- the shortest word
abbrev pub shortest : Words → Option (List (List ℕ))
shortest Never = None
shortest Empty = Some []
shortest (One id) = Some (id ∷ [])
shortest (Then v w) = both (shortest v) (shortest w)
shortest (Or v w) = shorter (shortest v) (shortest w)
shortest (Times low high w) =
    if nat_lt high low then None
    else (if low == 0 then Some [] else option_map (repeat low) (shortest w))

-- whether a word has the id in it
abbrev pub mentions : List ℕ → Words → Bool
mentions id Never = false
mentions id Empty = false
mentions id (One x) = bytes_eq id x
mentions id (Then v w) = mentions id v || mentions id w
mentions id (Or v w) = mentions id v || mentions id w
mentions id (Times low high w) = mentions id w
