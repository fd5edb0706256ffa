-- What a shipping order says, as a tree with its printer.
use Rattle.std.specs.Prelude.{◌≡◌, ℕ, ◌+◌, ◌⊎◌, List, [], ◌∷◌, ◌++◌, length, codes, find, flat_map, Option, IfSome, unwrap_or, option_map, option_to_list}
use Rattle.std.specs.List.{AllByRecursion}
use Rattle.definitions.specs.Bytes.{value}
use Rattle.definitions.specs.Cut.{Segment, element, id_of}
use Rattle.definitions.specs.Means.{Order, OrderLine, Address, is_ship_to, spaced}

-- X stands for a segment, or for its id

-- N1, and the N3 and N4 of its address where they are there
pub record Party (X : Type 0) : Type 0 where
  pub n1 : X
  pub n3 : Option X
  pub n4 : Option X

-- LX, W01, and N9 where the line is pinned to a lot
pub record OrderedGoods (X : Type 0) : Type 0 where
  pub lx : X
  pub w01 : X
  pub n9 : Option X

-- ST, W05, the parties, the header after them, the goods of each line, W76 and SE
pub record OrderSet (X : Type 0) : Type 0 where
  pub st : X
  pub w05 : X
  pub parties : List (Party X)
  pub header : List X
  pub goods : List (OrderedGoods X)
  pub w76 : X
  pub se : X

abbrev pub in_party : {X : Type 0} → Party X → List X
in_party p = p.n1 ∷ option_to_list p.n3 ++ option_to_list p.n4

abbrev pub in_goods : {X : Type 0} → OrderedGoods X → List X
in_goods g = g.lx ∷ g.w01 ∷ option_to_list g.n9

abbrev pub printed : {X : Type 0} → OrderSet X → List X
printed t = t.st ∷ t.w05 ∷ flat_map in_party t.parties
    ++ (t.header ++ (flat_map in_goods t.goods ++ t.w76 ∷ t.se ∷ []))

abbrev pub IsOrderHeader : List ℕ → Type 0
IsOrderHeader id = (id ≡ codes "N9") ⊎ (id ≡ codes "G62")

abbrev pub IsParty : {X : Type 0} → (X → List ℕ) → Party X → Type 0
IsParty id p = (id p.n1 ≡ codes "N1") × IfSome p.n3 (λ s. id s ≡ codes "N3")
    × IfSome p.n4 (λ s. id s ≡ codes "N4")

abbrev pub IsGoods : {X : Type 0} → (X → List ℕ) → OrderedGoods X → Type 0
IsGoods id g = (id g.lx ≡ codes "LX") × (id g.w01 ≡ codes "W01")
    × IfSome g.n9 (λ s. id s ≡ codes "N9")

-- each segment has its id
pub record IsOrderSet {X : Type 0} (id : X → List ℕ) (t : OrderSet X) : Type 0 where
  pub st : id t.st ≡ codes "ST"
  pub w05 : id t.w05 ≡ codes "W05"
  pub parties : AllByRecursion (IsParty id) t.parties
  pub header : AllByRecursion (λ s. IsOrderHeader (id s)) t.header
  pub goods : AllByRecursion (IsGoods id) t.goods
  pub w76 : id t.w76 ≡ codes "W76"
  pub se : id t.se ≡ codes "SE"

-- where a party is; an element of a segment that isn't there is empty
abbrev pub address_in : Party Segment → Address
address_in p =
    let n3 : Segment = unwrap_or p.n3 [] in
    let n4 : Segment = unwrap_or p.n4 [] in
    record {
      name = element p.n1 2;
      one = element n3 1;
      two = element n3 2;
      place = spaced (element n4 1 ∷ element n4 2 ∷ element n4 3 ∷ []);
    }

-- the lines, where the LX of the first has the position; a W01 stands after its LX
abbrev pub lines_at : ℕ → List (OrderedGoods Segment) → List OrderLine
lines_at n [] = []
lines_at n (g ∷ gs) =
    record {
      item = element g.w01 5;
      pin = option_map (λ s. element s 2) g.n9;
      quantity = value (element g.w01 1);
      position = n + 1;
    } ∷ lines_at (n + length (in_goods g)) gs

abbrev pub meaning : OrderSet Segment → Order
meaning t =
    let first : ℕ = length (flat_map in_party t.parties) + length t.header + 3 in
    record {
      number = element t.w05 2;
      address = option_map address_in (find (λ p. is_ship_to p.n1) t.parties);
      lines = lines_at first t.goods;
      total = value (element t.w76 1);
      total_position = first + length (flat_map in_goods t.goods);
    }

-- the segments print a tree, and the order is what that says
abbrev pub SaysOrder : List Segment → Order → Type 0
SaysOrder ss o = (t : OrderSet Segment) × (ss ≡ printed t) × IsOrderSet id_of t × (o ≡ meaning t)
