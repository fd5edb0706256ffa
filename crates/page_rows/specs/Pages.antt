-- A page as its tables have it, and what is true of every page.
use Rattle.std.specs.Prelude.{ℕ, ◌≤◌, ◌≡◌, ◌+◌, ◌*◌, Bool, true, List, if◌then◌else◌, ◌==◌, None, Option, bytes_eq, sum_by, count_by, find, length, take, map, slice_index_or, ◌<◌, nat_lt}
use Rattle.std.specs.List.{list_all}
use Rattle.definitions.specs.Limits.{most_recounted, most_entries, most_sets}
use Rattle.definitions.specs.Rows.{LotRow}
use Rattle.definitions.specs.Page.{PageAdvice, PageOrder, PageDocument}
use Rattle.definitions.specs.Events.{quantity_of}
use Rattle.definitions.specs.Movements.{Column, Expected, OnHand, Reservation}
use Rattle.definitions.specs.Bytes.{comes_before, is_one_of}
use Rattle.page_rows.specs.Keyed.{IsSorted, rises_by, shipment_of, number_of, entry_of}
use Rattle.page_rows.specs.OfPairs.{of_pair, amount, IsDistinct}

pub record PageFacts : Type 0 where
  pub rows : List LotRow
  pub advices : List PageAdvice
  pub orders : List PageOrder
  pub documents : List PageDocument
  -- the numbered entries, and the events since the last of them
  pub entries : ℕ
  pub recent : ℕ

-- What is found by its key.

abbrev pub is_shipment : List ℕ → PageAdvice → Bool
is_shipment shipment k = bytes_eq k.shipment shipment

abbrev pub is_number : List ℕ → PageOrder → Bool
is_number number k = bytes_eq k.number number

abbrev pub is_document : ℕ → PageDocument → Bool
is_document n d = d.n == n

abbrev pub advice_at : List ℕ → List PageAdvice → Option PageAdvice
advice_at shipment ks = find (is_shipment shipment) ks

abbrev pub order_at : List ℕ → List PageOrder → Option PageOrder
order_at number ks = find (is_number number) ks

abbrev pub document_at : ℕ → List PageDocument → Option PageDocument
document_at n ds = find (is_document n) ds

-- the first element for which p holds stands at i
pub record IsAt {X : Type 0} (p : X → Bool) (xs : List X) (i : ℕ) : Type 0 where
  pub within : i < length xs
  pub first : find p (take i xs) ≡ None
  pub here : (d : X) → p (slice_index_or xs i d) ≡ true

-- what the open advices still bring of a pair, and what the open orders hold of it
abbrev pub awaited : List PageAdvice → List ℕ → List ℕ → ℕ
awaited ks item lot = sum_by (λ k. if k.is_open then quantity_of k.lines item lot else 0) ks

abbrev pub held : List PageOrder → List ℕ → List ℕ → ℕ
held ks item lot = sum_by (λ k. if k.is_open then quantity_of k.reserved item lot else 0) ks

-- how many events there may have been: at most 1,000 in an entry
abbrev pub most_events : PageFacts → ℕ
most_events p = most_sets * p.entries + p.recent

-- each list is in the order of its keys
pub record AreSorted (p : PageFacts) : Type 0 where
  pub rows : IsSorted p.rows
  pub advices : rises_by comes_before shipment_of p.advices ≡ true
  pub orders : rises_by comes_before number_of p.orders ≡ true
  pub documents : rises_by nat_lt entry_of p.documents ≡ true

-- what is reserved for an order is of items of its lines
abbrev pub is_in_lines : PageOrder → Bool
is_in_lines k = list_all (λ l. is_one_of (map (λ m. m.item) k.lines) l.item) k.reserved

-- Of every page: nothing is below 0, no more is reserved than is on hand, what is open is expected
-- and reserved, no sum leaves 64 bits, and each key stands once, in order.
pub record IsSound (p : PageFacts) : Type 0 where
  pub sorted : AreSorted p
  pub distinct : IsDistinct p.rows
  pub expected : (item lot : List ℕ)
      → awaited p.advices item lot ≤ of_pair (amount Expected) item lot p.rows
  pub reserved : (item lot : List ℕ)
      → held p.orders item lot ≤ of_pair (amount Reservation) item lot p.rows
  pub in_lines : list_all is_in_lines p.orders ≡ true
  pub covered : (item lot : List ℕ)
      → of_pair (amount Reservation) item lot p.rows ≤ of_pair (amount OnHand) item lot p.rows
  pub bounded : (c : Column) (item lot : List ℕ)
      → of_pair (amount c) item lot p.rows ≤ (most_recounted + 1) * most_events p
  pub numbered : p.entries ≤ most_entries
  pub few : p.recent ≤ most_sets
  pub advices_once : (shipment : List ℕ) → count_by (is_shipment shipment) p.advices ≤ 1
  pub orders_once : (number : List ℕ) → count_by (is_number number) p.orders ≤ 1
  pub documents_once : (n : ℕ) → count_by (is_document n) p.documents ≤ 1

-- a page when a numbered entry ends
abbrev pub next_entry : PageFacts → PageFacts
next_entry p = record p { entries = p.entries + 1; recent = 0 }
