-- The bodies of sets can be cut again, where no separator and no terminator stands in what was
-- handed over.
use Rattle.std.proofs.Common.{◌≡◌, ℕ, ◌-◌, Bool, true, false, List, [], ◌∷◌, refl, Option, Some, None, option_map}
use Rattle.std.specs.Prelude.{codes, decimal, ◌==◌, if◌then◌else◌, IfSome, flat_map, option_to_list}
use Rattle.std.specs.List.{AllByRecursion, enumerate_from}
use Rattle.definitions.specs.Bytes.{Delims}
use Rattle.definitions.specs.Cut.{IsWritten}
use Rattle.definitions.specs.Header.{are_delimiters}
use Rattle.definitions.specs.Moments.{Moment, date8}
use Rattle.definitions.specs.Elements.{ElementFault}
use Rattle.definitions.specs.Faults.{SetFault}
use Rattle.definitions.specs.History.{Rejection}
use Rattle.definitions.specs.Means.{Line}
use Rattle.definitions.specs.Lists.{first_of}
use Rattle.definitions.specs.Texts.{own_delims, ToldSet, Told, accepted_sets, ak3_segments, ak4_segments, ak5_segments, told_segments, body_997, goods, difference}
use Rattle.sets_out.specs.Documents.{PickedLot, ShippedLine, AdjustedLine, Receipt, Shipment, lot_of, received_line, receipt_body, shipped_lot, shipped_line, shipment_body, adjusted_line, changed_line, adjustment_body}
use Rattle.sets_out.specs.Inside.{IsInside, IsSetInside, IsToldInside, IsOwn, IsLineOwn, IsReceiptOwn, IsShippedOwn, IsShipmentOwn, IsAdjustedOwn}
use Rattle.sets_out.proofs.Inside.{inside_date8, inside_difference}
use Rattle.sets_out.proofs.Written.{AreInside, AreWritten, done, with, fixed, number, named, all_both, all_flat, all_numbered, all_map}

-- 997

ak4_written : (d : Delims) → are_delimiters d ≡ true → (f : Option ElementFault) → AreWritten d (ak4_segments f)
ak4_written d g None = tt
ak4_written d g (Some f) = (named d g (codes "AK4") (refl, refl) (number d g f.place (with d [] refl (number d g f.code (done d)))), tt)

ak3_written : (d : Delims) → are_delimiters d ≡ true → (f : Option SetFault) → IfSome f (λ s. IsInside d s.id) → AreWritten d (ak3_segments f)
ak3_written d g None h = tt
ak3_written d g (Some f) h = (
  named d g (codes "AK3") (refl, refl) (with d f.id h (number d g f.position (with d [] refl (number d g f.code (done d))))),
  ak4_written d g f.element,
)

ak5_written : (d : Delims) → are_delimiters d ≡ true → (r : Option Rejection) → IfSome r (λ q. IfSome q.segment (λ s. IsInside d s.id)) → AreWritten d (ak5_segments r)
ak5_written d g None h = (named d g (codes "AK5") (refl, refl) (fixed d g (codes "A") refl (done d)), tt)
ak5_written d g (Some r) h = all_both (IsWritten d) (ak3_segments r.segment) _ (ak3_written d g r.segment h)
    (named d g (codes "AK5") (refl, refl) (fixed d g (codes "R") refl (number d g r.code (done d))), tt)

told_written : (d : Delims) → are_delimiters d ≡ true → (s : ToldSet) → IsSetInside d s → AreWritten d (told_segments s)
told_written d g s h = (named d g (codes "AK2") (refl, refl) (with d s.number h.0 (with d s.control h.1 (done d))), ak5_written d g s.rejection h.2)

fault_inside : (d : Delims) → are_delimiters d ≡ true → (f : Option ℕ) → AreInside d (option_to_list (option_map decimal f))
fault_inside d g None = done d
fault_inside d g (Some n) = number d g n (done d)

code_inside : (d : Delims) → are_delimiters d ≡ true → (none all : Bool) → (es : List (List ℕ)) → AreInside d es
    → AreInside d (first_of (codes "P") ((none, codes "R") ∷ (all, codes "A") ∷ []) ∷ es)
code_inside d g true all es h = fixed d g (codes "R") refl h
code_inside d g false true es h = fixed d g (codes "A") refl h
code_inside d g false false es h = fixed d g (codes "P") refl h

pub body_997-written : (d : Delims) → are_delimiters d ≡ true → (t : Told) → IsToldInside d t → AreWritten d (body_997 t)
body_997-written d g t h = (
  named d g (codes "AK1") (refl, refl) (with d t.function h.0 (with d t.number h.1 (done d))),
  all_both (IsWritten d) (flat_map told_segments t.sets) _ (all_flat d (IsSetInside d) told_segments (told_written d g) t.sets h.2) (
    named d g (codes "AK9") (refl, refl)
        (code_inside d g (accepted_sets t == 0) (accepted_sets t == t.received) _ (number d g t.stated (number d g t.received (number d g (accepted_sets t) (fault_inside d g t.fault))))),
    tt,
  ),
)

-- 944

goods_inside : (item : List ℕ) → IsOwn item → AreInside own_delims (goods item)
goods_inside item h = fixed own_delims refl (codes "EA") refl (with own_delims [] refl (fixed own_delims refl (codes "SK") refl (with own_delims item h (done own_delims))))

lot_written : (lot : List ℕ) → IsOwn lot → IsWritten own_delims (lot_of lot)
lot_written lot h = named own_delims refl (codes "N9") (refl, refl) (fixed own_delims refl (codes "LT") refl (with own_delims lot h (done own_delims)))

received_written : (l : Line) → IsLineOwn l → AreWritten own_delims (received_line l)
received_written l h = (named own_delims refl (codes "W07") (refl, refl) (number own_delims refl l.quantity (goods_inside l.item h.0)), (lot_written l.lot h.1, tt))

pub receipt_written : (t : Moment) (n : ℕ) (r : Receipt) → IsReceiptOwn r → AreWritten own_delims (receipt_body t n r)
receipt_written t n r h = (
  named own_delims refl (codes "W17") (refl, refl) (fixed own_delims refl (codes "F") refl (with own_delims (date8 t) (inside_date8 own_delims refl t)
      (number own_delims refl n (with own_delims r.order h.0 (with own_delims r.shipment h.1 (done own_delims)))))),
  all_both (IsWritten own_delims) (flat_map received_line r.lines) _ (all_flat own_delims IsLineOwn received_line received_written r.lines h.2)
      (named own_delims refl (codes "W14") (refl, refl) (number own_delims refl r.counted (number own_delims refl r.advised (done own_delims))), tt),
)

-- 945

shipped_lot_written : (k : PickedLot) → IsOwn k.lot → IsWritten own_delims (shipped_lot k)
shipped_lot_written k h = named own_delims refl (codes "N9") (refl, refl) (fixed own_delims refl (codes "LT") refl (with own_delims k.lot h (number own_delims refl k.quantity (done own_delims))))

status_inside : (b : Bool) → {es : List (List ℕ)} → AreInside own_delims es → AreInside own_delims ((if b then codes "CC" else codes "CP") ∷ es)
status_inside true h = fixed own_delims refl (codes "CC") refl h
status_inside false h = fixed own_delims refl (codes "CP") refl h

shipped_written : (place : ℕ) (l : ShippedLine) → IsShippedOwn l → AreWritten own_delims (shipped_line place l)
shipped_written place l h = (
  named own_delims refl (codes "LX") (refl, refl) (number own_delims refl place (done own_delims)),
  (
    named own_delims refl (codes "W12") (refl, refl) (status_inside (l.shipped == l.ordered)
        (number own_delims refl l.ordered (number own_delims refl l.shipped (number own_delims refl (l.ordered - l.shipped) (goods_inside l.item h.0))))),
    all_map own_delims (λ k. IsOwn k.lot) shipped_lot shipped_lot_written l.lots h.1,
  ),
)

pub shipment_written : (t : Moment) (n : ℕ) (s : Shipment) → IsShipmentOwn s → AreWritten own_delims (shipment_body t n s)
shipment_written t n s h = (
  named own_delims refl (codes "W06") (refl, refl) (fixed own_delims refl (codes "F") refl (with own_delims s.order h.0 (with own_delims (date8 t) (inside_date8 own_delims refl t)
      (number own_delims refl n (done own_delims))))),
  all_both (IsWritten own_delims) (flat_map (λ (p : ℕ × ShippedLine). shipped_line p.0 p.1) (enumerate_from 1 s.lines)) _
      (all_numbered own_delims IsShippedOwn shipped_line shipped_written 1 s.lines h.1)
      (named own_delims refl (codes "W03") (refl, refl) (number own_delims refl s.shipped (done own_delims)), tt),
)

-- 947

adjusted_written : (l : AdjustedLine) → IsAdjustedOwn l → AreWritten own_delims (adjusted_line l)
adjusted_written l h = (
  named own_delims refl (codes "W19") (refl, refl) (fixed own_delims refl (codes "AA") refl
      (with own_delims (difference l.after l.before) (inside_difference l.after l.before) (goods_inside l.item h.0))),
  (lot_written l.lot h.1, tt),
)

changed_written : (l : AdjustedLine) → IsAdjustedOwn l → AreWritten own_delims (changed_line l)
changed_written l h = by_test (l.after == l.before)
  where
    by_test : (b : Bool) → AreWritten own_delims (if b then [] else adjusted_line l)
    by_test true = tt
    by_test false = adjusted_written l h

pub adjustment_written : (t : Moment) (n : ℕ) (ls : List AdjustedLine) → AllByRecursion IsAdjustedOwn ls → AreWritten own_delims (adjustment_body t n ls)
adjustment_written t n ls h = (
  named own_delims refl (codes "W15") (refl, refl) (with own_delims (date8 t) (inside_date8 own_delims refl t) (number own_delims refl n (done own_delims))),
  all_flat own_delims IsAdjustedOwn changed_line changed_written ls h,
)
