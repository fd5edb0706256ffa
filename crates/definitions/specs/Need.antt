-- What a command names, and the part of a page that it can look at.
use Rattle.std.specs.Prelude.{◌≡◌, ℕ, Bool, true, false, ◌&&◌, ◌||◌, List, [], ◌∷◌, ◌++◌, map, length, if◌then◌else◌, nat_le, ◌==◌, codes, filter, flat_map}
use Rattle.definitions.specs.declared.widths.TheConstants.{CONTROL_DIGITS}
use Rattle.definitions.specs.Bytes.{is_one_of, is_number, value}
use Rattle.definitions.specs.Cut.{cut, Segment, element, has_id}
use Rattle.definitions.specs.Header.{delims_of, is_unreadable}
use Rattle.definitions.specs.Means.{Line}
use Rattle.definitions.specs.Register.{Act, Count, Pick, Recount, Command, Interchange, Enrol, Clerk}
use Rattle.definitions.specs.Page.{PageAdvice, PageOrder, Page}

pub record Need : Type 0 where
  pub items : List (List ℕ)
  -- shipment numbers of advices, and numbers of orders
  pub shipments : List (List ℕ)
  pub orders : List (List ℕ)
  -- numbers of documents
  pub documents : List ℕ

abbrev pub nothing : Need
nothing = record { items = []; shipments = []; orders = []; documents = [] }

abbrev pub together : Need → Need → Need
together a b = record {
  items = a.items ++ b.items;
  shipments = a.shipments ++ b.shipments;
  orders = a.orders ++ b.orders;
  documents = a.documents ++ b.documents;
}

abbrev pub all_together : List Need → Need
all_together [] = nothing
all_together (n ∷ ns) = together n (all_together ns)

-- an order alone, as a picking sheet needs it
abbrev pub need_of_number : List ℕ → Need
need_of_number number = record nothing { orders = number ∷ [] }

abbrev pub items_of : List Line → List (List ℕ)
items_of lines = map (λ l. l.item) lines

-- What an interchange names, by one scan of its segments: whether its sets pass or not, and whether
-- it is halted or not.

-- a document's number: digits, as many as a control number has at most
abbrev pub number_in : List ℕ → List ℕ
number_in text =
    if is_number text && nat_le (length text) CONTROL_DIGITS then value text ∷ [] else []

-- W04 and W01 name an item, W06 a shipment number, W05 an order's number, AK1 a document's
abbrev pub need_of_segment : Segment → Need
need_of_segment s = record {
  items = if has_id (codes "W04") s || has_id (codes "W01") s then element s 5 ∷ [] else [];
  shipments = if has_id (codes "W06") s then element s 4 ∷ [] else [];
  orders = if has_id (codes "W05") s then element s 2 ∷ [] else [];
  documents = if has_id (codes "AK1") s then number_in (element s 2) else [];
}

abbrev pub need_of_segments : List Segment → Need
need_of_segments ss = all_together (map need_of_segment ss)

-- a text without delimiters names nothing
abbrev pub need_of_text : List ℕ → Need
need_of_text text =
    if is_unreadable text then nothing else need_of_segments ((cut (delims_of text) text).segments)

abbrev pub need_of_act : Act → Need
need_of_act (Count shipment sheet) =
    record nothing { items = items_of sheet; shipments = shipment ∷ [] }
need_of_act (Pick number sheet) = record nothing { items = items_of sheet; orders = number ∷ [] }
need_of_act (Recount sheet) = record nothing { items = items_of sheet }

-- what a command needs of its depositor's page
abbrev pub need_of : Command → Need
need_of (Interchange text) = need_of_text text
need_of (Enrol w) = nothing
need_of (Clerk w ticket act) = need_of_act act

-- The part of a page.

abbrev pub is_number_of : List ℕ → ℕ → Bool
is_number_of [] n = false
is_number_of (m ∷ ms) n = m == n || is_number_of ms n

abbrev pub advices_in : Need → Page → List PageAdvice
advices_in need P = filter (λ k. is_one_of need.shipments k.shipment) P.advices

abbrev pub orders_in : Need → Page → List PageOrder
orders_in need P = filter (λ o. is_one_of need.orders o.number) P.orders

-- the items that are named, and those that stand in a line of a named advice or order
abbrev pub items_in : Need → Page → List (List ℕ)
items_in need P = need.items
    ++ (flat_map (λ k. items_of k.lines) (advices_in need P)
    ++ flat_map (λ (o : PageOrder). map (λ l. l.item) o.lines) (orders_in need P))

-- the number of entries, the named advices, orders and documents, and the lots of those items
abbrev pub part : Page → Need → Page
part P need = record {
  rows = filter (λ r. is_one_of (items_in need P) r.item) P.rows;
  advices = advices_in need P;
  orders = orders_in need P;
  documents = filter (λ d. is_number_of need.documents d.n) P.documents;
  entries = P.entries;
}

-- two pages agree on what is needed
abbrev pub AgreeOn : Need → Page → Page → Type 0
AgreeOn need P Q = part P need ≡ part Q need

-- what the smaller need names the bigger names too
pub record Covers (bigger smaller : Need) : Type 0 where
  pub shipments : (t : List ℕ) → is_one_of smaller.shipments t ≡ true
      → is_one_of bigger.shipments t ≡ true
  pub orders : (t : List ℕ) → is_one_of smaller.orders t ≡ true → is_one_of bigger.orders t ≡ true
  pub items : (t : List ℕ) → is_one_of smaller.items t ≡ true → is_one_of bigger.items t ≡ true
  pub documents : (n : ℕ) → is_number_of smaller.documents n ≡ true
      → is_number_of bigger.documents n ≡ true

-- the number of pairs on a page
abbrev pub pairs : Page → ℕ
pairs P = length P.rows
