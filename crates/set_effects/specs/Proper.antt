-- Changes of a page that are proper: each leaves the expiry that a pair has, opens what is new or
-- closes what is open, or is about the document of its own entry or of one that was sent.
use Rattle.std.specs.Prelude.{ℕ, ◌≡◌, ◌≤◌, ◌+◌, true, List, [], ◌∷◌, Option, Some, None, is_some}
use Rattle.definitions.specs.Means.{Line}
use Rattle.definitions.specs.Page.{PageAdvice, PageOrder}
use Rattle.stock.specs.Keyed.{Pair, key_before, rises_by}
use Rattle.stock.specs.OfPairs.{date_of_pair}
use Rattle.stock.specs.Pages.{PageFacts, advice_at, order_at, document_at}
use Rattle.stock.specs.Puts.{put_change}
use Rattle.stock.specs.Steps.{closed_advice, closed_order}
use Rattle.stock.specs.declared.steps.Change.{Change}
use Rattle.stock.specs.declared.steps.Change.TheVariants.{Stock, Advice, Order, Sent, Document}

-- the first date of a pair stays for good
abbrev pub KeepsDate : Option (List ℕ) → Option (List ℕ) → Type 0
KeepsDate None new = Unit {0}
KeepsDate (Some known) new = new ≡ Some known

-- an advice is opened where there is none under its number, and else the one that is there is
-- closed
abbrev pub IsProperAdvice : Option PageAdvice → PageAdvice → Type 0
IsProperAdvice None k = k.is_open ≡ true
IsProperAdvice (Some known) k = k ≡ closed_advice known

abbrev pub pair_of : Line → Pair
pair_of l = (l.item, l.lot)

-- likewise an order, which is opened with what is reserved by item and lot, each pair once
abbrev pub IsProperOrder : Option PageOrder → PageOrder → Type 0
IsProperOrder None k = (k.is_open ≡ true) × (rises_by key_before pair_of k.reserved ≡ true)
IsProperOrder (Some known) k = k ≡ closed_order known

abbrev pub IsProper : PageFacts → Change → Type 0
IsProper p (Stock row) = KeepsDate (date_of_pair row.item row.lot p.rows) row.expiry
IsProper p (Advice k) = IsProperAdvice (advice_at k.shipment p.advices) k
IsProper p (Order k) = IsProperOrder (order_at k.number p.orders) k
IsProper p (Sent n function) = n ≡ p.entries + 1
IsProper p (Document n accepts) = (n ≤ p.entries) × (is_some (document_at n p.documents) ≡ true)

-- changes that are put in one after another
abbrev pub AreProper : PageFacts → List Change → Type 0
AreProper p [] = Unit {0}
AreProper p (c ∷ cs) = IsProper p c × AreProper (put_change p c) cs
