-- What is sought of a depositor's page by texts and numbers, and the part of the page that is named
-- so.
use Rattle.std.specs.Prelude.{◌≡◌, ◌==◌, ℕ, false, ◌||◌, List, [], map, Option, None, Some, Result, IfOk, bytes_eq, if◌then◌else◌, length}
use Rattle.sqlite.specs.Held.{state}
use Rattle.sqlite.specs.State.{HasCleanDisk}
use Rattle.sqlite.specs.Store.{Ghosts}
use Rattle.definitions.specs.Bytes.{is_one_of}
use Rattle.definitions.specs.Header.{Who}
use Rattle.definitions.specs.Need.{Need, is_number_of, part}
use Rattle.definitions.specs.Page.{page_of}
use Rattle.definitions.specs.Register.{Entry, own}
use Rattle.rules.specs.Pages.{PageFacts}
use Rattle.rules.specs.Parts.{Named, part_of}
use Rattle.rules.specs.Naming.{facts_of}
use Rattle.store.specs.Open.{OpenWork}
use Rattle.store.specs.Fault.{Fault}
use Rattle.book_statements.specs.Exits.{StandsWhileOpen}
use Rattle.book_statements.specs.Kept.{Kept}
use Rattle.book_tables.specs.declared.needed.Sought.{Sought}
use Rattle.book_tables.specs.declared.needed.Sought.TheVariants.{Advice, Order, Lots}

abbrev pub none_named : Named
none_named = record {
  items = λ t. false;
  shipments = λ t. false;
  orders = λ t. false;
  documents = λ n. false;
}

-- what is sought by a text is named besides, or by each of these texts
abbrev pub with_text : Sought → List ℕ → Named → Named
with_text Advice s n = record n { shipments = λ t. n.shipments t || bytes_eq s t }
with_text Order s n = record n { orders = λ t. n.orders t || bytes_eq s t }
with_text Lots s n = record n { items = λ t. n.items t || bytes_eq s t }

abbrev pub with_texts : Sought → List (List ℕ) → Named → Named
with_texts Advice ss n = record n { shipments = λ t. n.shipments t || is_one_of ss t }
with_texts Order ss n = record n { orders = λ t. n.orders t || is_one_of ss t }
with_texts Lots ss n = record n { items = λ t. n.items t || is_one_of ss t }

-- a document besides, and each of these
abbrev pub with_number : ℕ → Named → Named
with_number m n = record n { documents = λ j. n.documents j || (m == j) }

abbrev pub with_numbers : List ℕ → Named → Named
with_numbers ms n = record n { documents = λ j. n.documents j || is_number_of ms j }

-- the part of a depositor's page that is named
abbrev pub part_for : List Entry → Who → Named → PageFacts
part_for L who n = part_of n (facts_of (page_of (own L who)))

-- of tables that stand for a register, what is named besides comes to a part of the depositor's
-- page
abbrev pub Gathers : {S : Type 0} → Ghosts S → Kept S → Kept S → Who → PageFacts → (Named → Named)
    → Result PageFacts Fault → Type 0
Gathers store old new who draft more result = HasCleanDisk (state store new.conn)
    → (W : Who) (L : List Entry) → StandsWhileOpen (state store old.conn) W L
    → (n : Named) → draft ≡ part_for L who n → IfOk result (λ d. d ≡ part_for L who (more n))

-- what is open, by its names, and nothing else
abbrev pub open_need : OpenWork → Need
open_need work = record {
  items = [];
  shipments = map (λ a. a.shipment) work.advices;
  orders = map (λ o. o.number) work.orders;
  documents = [];
}

-- just the part that is needed of a depositor's page; a stranger has none
abbrev pub needed_part : Need → List Entry → Who → Option PageFacts
needed_part need L who =
    if length (own L who) == 0 then None else Some (facts_of (part (page_of (own L who)) need))
