-- What a functional acknowledgment says, as a tree with its printer.
use Rattle.std.specs.Prelude.{◌≡◌, ℕ, ◌⊎◌, List, [], ◌∷◌, ◌++◌, bytes_eq, codes}
use Rattle.std.specs.List.{AllByRecursion}
use Rattle.definitions.specs.Bytes.{value}
use Rattle.definitions.specs.Cut.{Segment, element, id_of}
use Rattle.definitions.specs.Means.{Acknowledgment}

-- ST, AK1, what is told of sets, AK9 and SE
pub record AckSet : Type 0 where
  pub st : Segment
  pub ak1 : Segment
  pub body : List Segment
  pub ak9 : Segment
  pub se : Segment

abbrev pub printed : AckSet → List Segment
printed t = t.st ∷ t.ak1 ∷ t.body ++ t.ak9 ∷ t.se ∷ []

abbrev pub IsToldOfSets : List ℕ → Type 0
IsToldOfSets id = (id ≡ codes "AK2")
    ⊎ ((id ≡ codes "AK3") ⊎ ((id ≡ codes "AK4") ⊎ (id ≡ codes "AK5")))

-- each segment has its id
pub record IsAckSet (t : AckSet) : Type 0 where
  pub st : id_of t.st ≡ codes "ST"
  pub ak1 : id_of t.ak1 ≡ codes "AK1"
  pub body : AllByRecursion (λ s. IsToldOfSets (id_of s)) t.body
  pub ak9 : id_of t.ak9 ≡ codes "AK9"
  pub se : id_of t.se ≡ codes "SE"

abbrev pub meaning : AckSet → Acknowledgment
meaning t = record {
  function = element t.ak1 1;
  document = value (element t.ak1 2);
  accepts = bytes_eq (element t.ak9 1) (codes "A");
}

-- the segments print a tree, and the acknowledgment is what that says
abbrev pub SaysAck : List Segment → Acknowledgment → Type 0
SaysAck ss a = (t : AckSet) × (ss ≡ printed t) × IsAckSet t × (a ≡ meaning t)
