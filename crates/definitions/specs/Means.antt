-- What a set without fault says: an advice, an order or an acknowledgment.
use Rattle.std.specs.Prelude.{ℕ, ◌+◌, ◌-◌, Bool, ◌&&◌, ◌||◌, List, [], ◌∷◌, map, length, if◌then◌else◌, nat_lt, slice_get, Some, None, codes, bytes_eq, filter, position, take_while, find, Option, unwrap_or, option_map}
use Rattle.std.specs.List.{join_with_byte, after_first}
use Rattle.definitions.specs.Bytes.{value}
use Rattle.definitions.specs.Cut.{Segment, element, has_id, segment_with, places_of}

-- a quantity of a lot of an item
pub record Line : Type 0 where
  pub item : List ℕ
  pub lot : List ℕ
  pub quantity : ℕ

-- 943.

-- a line of an advice, and the position of its W04; its N9 stands after
pub record AdviceLine : Type 0 where
  pub line : Line
  -- the date CCYYMMDD on which the lot expires, if it is given
  pub expiry : Option (List ℕ)
  pub position : ℕ

pub record Advice : Type 0 where
  -- W06 element 4 and element 2
  pub shipment : List ℕ
  pub order : List ℕ
  pub lines : List AdviceLine
  -- W03 and its position
  pub total : ℕ
  pub total_position : ℕ

abbrev pub advised : Advice → List Line
advised a = map (λ l. l.line) a.lines

-- the segment at a position, from 1
abbrev pub segment_at : List Segment → ℕ → Segment
segment_at ss position = unwrap_or (slice_get ss (position - 1)) []

-- the first place of a segment with the id, and 0 where there is none
abbrev pub place_of : List ℕ → List Segment → ℕ
place_of id ss = unwrap_or (slice_get (places_of id ss) 0) 0

-- the date that an N9 gives its lot, if it gives one; under rules 1 none does
abbrev pub expiry_of : Segment → Option (List ℕ)
expiry_of s =
    if has_id (codes "N9") s && nat_lt 0 (length (element s 4)) then Some (element s 4) else None

-- W04: quantity and item; the N9 after it: the lot and its expiry
abbrev pub advice_line : List Segment → ℕ → AdviceLine
advice_line ss position = record {
  line = record {
    item = element (segment_at ss position) 5;
    lot = element (segment_at ss (position + 1)) 2;
    quantity = value (element (segment_at ss position) 1);
  };
  expiry = expiry_of (segment_at ss (position + 1));
  position = position;
}

abbrev pub advice_of : List Segment → Advice
advice_of ss = record {
  shipment = element (segment_with (codes "W06") ss) 4;
  order = element (segment_with (codes "W06") ss) 2;
  lines = map (advice_line ss) (places_of (codes "W04") ss);
  total = value (element (segment_with (codes "W03") ss) 1);
  total_position = place_of (codes "W03") ss;
}

-- 940.

-- a line of an order: the lot that it is pinned to, if one, and the position of its W01
pub record OrderLine : Type 0 where
  pub item : List ℕ
  pub pin : Option (List ℕ)
  pub quantity : ℕ
  pub position : ℕ

-- where an order goes: N102, N301, N302, and N401 to N403 on one line
pub record Address : Type 0 where
  pub name : List ℕ
  pub one : List ℕ
  pub two : List ℕ
  pub place : List ℕ

pub record Order : Type 0 where
  -- W05 element 2
  pub number : List ℕ
  pub address : Option Address
  pub lines : List OrderLine
  -- W76 and its position
  pub total : ℕ
  pub total_position : ℕ

abbrev pub pin_of : Segment → Option (List ℕ)
pin_of s = if has_id (codes "N9") s then Some (element s 2) else None

abbrev pub order_line : List Segment → ℕ → OrderLine
order_line ss position = record {
  item = element (segment_at ss position) 5;
  pin = pin_of (segment_at ss (position + 1));
  quantity = value (element (segment_at ss position) 1);
  position = position;
}

abbrev pub is_ship_to : Segment → Bool
is_ship_to s = has_id (codes "N1") s && bytes_eq (element s 1) (codes "ST")

-- the nonempty of the texts, with a space between each two
abbrev pub spaced : List (List ℕ) → List ℕ
spaced texts = join_with_byte 32 (filter (λ t. nat_lt 0 (length t)) texts)

-- the address of an N1, with the N3 and N4 that belong to it
abbrev pub address_of : Segment → List Segment → Address
address_of n1 belonging =
    let n3 = segment_with (codes "N3") belonging in
    let n4 = segment_with (codes "N4") belonging in
    record {
      name = element n1 2;
      one = element n3 1;
      two = element n3 2;
      place = spaced (element n4 1 ∷ element n4 2 ∷ element n4 3 ∷ []);
    }

-- the first N1 with code ST says it, with the N3 and N4 directly after it
abbrev pub ship_to : List Segment → Option Address
ship_to ss = option_map
    (λ n1. address_of n1 (take_while (λ s. has_id (codes "N3") s
    || has_id (codes "N4") s) (after_first is_ship_to ss)))
    (find is_ship_to ss)

abbrev pub order_of : List Segment → Order
order_of ss = record {
  number = element (segment_with (codes "W05") ss) 2;
  address = ship_to ss;
  lines = map (order_line ss) (places_of (codes "W01") ss);
  total = value (element (segment_with (codes "W76") ss) 1);
  total_position = place_of (codes "W76") ss;
}

-- 997.

-- AK101 and AK102 name a document of ours; AK901 A accepts it, P and R refuse it
pub record Acknowledgment : Type 0 where
  pub function : List ℕ
  pub document : ℕ
  pub accepts : Bool

abbrev pub acknowledgment_of : List Segment → Acknowledgment
acknowledgment_of ss = record {
  function = element (segment_with (codes "AK1") ss) 1;
  document = value (element (segment_with (codes "AK1") ss) 2);
  accepts = bytes_eq (element (segment_with (codes "AK9") ss) 1) (codes "A");
}
