-- Where segments may stand.
use Rattle.std.proofs.Common.{◌≡◌, ℕ, Bool, true, false, List, refl, ap, Some, None}
use Rattle.std.specs.Prelude.{if◌then◌else◌}
use Rattle.definitions.specs.declared.rules.Rules.{Rules}
use Rattle.definitions.specs.Bytes.{Delims}
use Rattle.definitions.specs.Cut.{Segment, id_of}
use Rattle.definitions.specs.Words.{Words, has_word, words_after}
use Rattle.definitions.specs.Faults.{fault_at, inner_fault, place_fault}
use Rattle.tables.specs.Languages.{found}

pub found_some : (w v : Words) → Some v ≡ found w → (has_word w ≡ true) × (w ≡ v)
found_some w v e = by_test (has_word w) refl e
  where
    by_test : (b : Bool) → has_word w ≡ b → Some v ≡ (if b then Some w else None) → (has_word w ≡ true) × (w ≡ v)
    by_test true t f = (t, cc)
    by_test false t f = absurd (cc)

pub found_none : (w : Words) → None ≡ found w → has_word w ≡ false
found_none w e = by_test (has_word w) refl e
  where
    by_test : (b : Bool) → has_word w ≡ b → None ≡ (if b then Some w else None) → has_word w ≡ false
    by_test true t f = absurd (cc)
    by_test false t f = t

-- a segment that may stand there has the fault of its elements
pub in_place : (r : Rules) (d : Delims) (words rest v : Words) (previous : List ℕ) (position : ℕ) (s : Segment) → Some v ≡ found (words_after (id_of s) rest)
    → fault_at r d words rest previous position s ≡ inner_fault r d previous position s
in_place r d words rest v previous position s e =
    ap (λ (b : Bool). if b then inner_fault r d previous position s else Some (place_fault r words rest position (id_of s))) ((found_some (words_after (id_of s) rest) v e).0)

-- one that may not is out of place
pub out_of_place : (r : Rules) (d : Delims) (words rest : Words) (previous : List ℕ) (position : ℕ) (s : Segment) → None ≡ found (words_after (id_of s) rest)
    → fault_at r d words rest previous position s ≡ Some (place_fault r words rest position (id_of s))
out_of_place r d words rest previous position s e =
    ap (λ (b : Bool). if b then inner_fault r d previous position s else Some (place_fault r words rest position (id_of s))) (found_none (words_after (id_of s) rest) e)
