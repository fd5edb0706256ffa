-- The bodies of documents, without ST and SE, from what they are written from.
use Rattle.std.specs.Prelude.{ℕ, ◌-◌, List, [], ◌∷◌, ◌++◌, map, if◌then◌else◌, ◌==◌, codes, bytes_eq, decimal, filter, flat_map}
use Rattle.std.specs.List.{enumerate_from}
use Rattle.definitions.specs.Cut.{Segment}
use Rattle.definitions.specs.Moments.{Moment, date8}
use Rattle.definitions.specs.Lists.{in_order}
use Rattle.definitions.specs.Means.{Line, Advice, advised, OrderLine, Order}
use Rattle.definitions.specs.Events.{pair_before, quantity_of}
use Rattle.definitions.specs.Texts.{goods, difference, total_of}

abbrev pub lot_of : List ℕ → Segment
lot_of lot = codes "N9" ∷ codes "LT" ∷ lot ∷ []

-- 944.

-- what was received: order and shipment of the advice, each pair with what was counted of it, and
-- the sums of what was counted and of what was advised
pub record Receipt : Type 0 where
  pub order : List ℕ
  pub shipment : List ℕ
  pub lines : List Line
  pub counted : ℕ
  pub advised : ℕ

abbrev pub received_line : Line → List Segment
received_line l = (codes "W07" ∷ decimal l.quantity ∷ goods l.item) ∷ lot_of l.lot ∷ []

abbrev pub receipt_body : Moment → ℕ → Receipt → List Segment
receipt_body t n r =
    (codes "W17" ∷ codes "F" ∷ date8 t ∷ decimal n ∷ r.order ∷ r.shipment ∷ [])
    ∷ flat_map received_line r.lines
    ++ (codes "W14" ∷ decimal r.counted ∷ decimal r.advised ∷ []) ∷ []

-- 945.

pub record PickedLot : Type 0 where
  pub lot : List ℕ
  pub quantity : ℕ

-- a line of an order with what was picked of its item
pub record ShippedLine : Type 0 where
  pub item : List ℕ
  pub ordered : ℕ
  pub shipped : ℕ
  pub lots : List PickedLot

-- what was shipped: the order's number, its lines, and the sum of what was picked
pub record Shipment : Type 0 where
  pub order : List ℕ
  pub lines : List ShippedLine
  pub shipped : ℕ

abbrev pub shipped_lot : PickedLot → Segment
shipped_lot k = codes "N9" ∷ codes "LT" ∷ k.lot ∷ decimal k.quantity ∷ []

abbrev pub shipped_line : ℕ → ShippedLine → List Segment
shipped_line place l =
    (codes "LX" ∷ decimal place ∷ [])
    ∷ (codes "W12" ∷ (if l.shipped == l.ordered then codes "CC" else codes "CP") ∷ decimal l.ordered
    ∷ decimal l.shipped
    ∷ decimal (l.ordered - l.shipped) ∷ goods l.item)
    ∷ map shipped_lot l.lots

abbrev pub shipment_body : Moment → ℕ → Shipment → List Segment
shipment_body t n s =
    (codes "W06" ∷ codes "F" ∷ s.order ∷ date8 t ∷ decimal n ∷ [])
    ∷ flat_map (λ p. shipped_line p.0 p.1) (enumerate_from 1 s.lines)
    ++ (codes "W03" ∷ decimal s.shipped ∷ []) ∷ []

-- 947.

-- a pair that was recounted: what was on hand before and what is now
pub record AdjustedLine : Type 0 where
  pub item : List ℕ
  pub lot : List ℕ
  pub before : ℕ
  pub after : ℕ

abbrev pub adjusted_line : AdjustedLine → List Segment
adjusted_line l = (codes "W19" ∷ codes "AA" ∷ difference l.after l.before ∷ goods l.item)
    ∷ lot_of l.lot ∷ []

-- only a line that differs is told
abbrev pub changed_line : AdjustedLine → List Segment
changed_line l = if l.after == l.before then [] else adjusted_line l

abbrev pub adjustment_body : Moment → ℕ → List AdjustedLine → List Segment
adjustment_body t n lines = (codes "W15" ∷ date8 t ∷ decimal n ∷ []) ∷ flat_map changed_line lines

-- From the events that documents are written of.

abbrev pub receipt_for : Advice → List Line → Receipt
receipt_for a sheet = record {
  order = a.order;
  shipment = a.shipment;
  lines = map (λ l. record {
    item = l.item;
    lot = l.lot;
    quantity = quantity_of sheet l.item l.lot;
  }) (in_order pair_before (advised a ++ sheet));
  counted = total_of sheet;
  advised = total_of (advised a);
}

abbrev pub lots_for : List Line → OrderLine → List Line
lots_for sheet l = in_order pair_before (filter (λ k. bytes_eq k.item l.item) sheet)

abbrev pub shipped_for : List Line → OrderLine → ShippedLine
shipped_for sheet l = record {
  item = l.item;
  ordered = l.quantity;
  shipped = total_of (lots_for sheet l);
  lots = map (λ k. record { lot = k.lot; quantity = k.quantity }) (lots_for sheet l);
}

abbrev pub shipment_for : Order → List Line → Shipment
shipment_for o sheet =
    record { order = o.number; lines = map (shipped_for sheet) o.lines; shipped = total_of sheet }

abbrev pub adjusted_for : List Line → Line → AdjustedLine
adjusted_for before l =
    record {
      item = l.item;
      lot = l.lot;
      before = quantity_of before l.item l.lot;
      after = l.quantity;
    }
