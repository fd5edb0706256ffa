-- What a need names of a page.
use Rattle.definitions.specs.Bytes.{is_one_of}
use Rattle.definitions.specs.Page.{Page}
use Rattle.definitions.specs.Need.{Need, items_in, is_number_of}
use Rattle.stock.specs.Pages.{PageFacts}
use Rattle.stock.specs.Parts.{Named}

-- the page of the definitions with these lists
abbrev pub as_page : PageFacts → Page
as_page P = record {
  rows = P.rows;
  advices = P.advices;
  orders = P.orders;
  documents = P.documents;
  entries = P.entries;
}

-- the lists of a page of the definitions, with no event since its last entry
abbrev pub facts_of : Page → PageFacts
facts_of P = record {
  rows = P.rows;
  advices = P.advices;
  orders = P.orders;
  documents = P.documents;
  entries = P.entries;
  recent = 0;
}

-- the items that are named, and those in lines of a named advice or order; the numbers that are
-- named
abbrev pub named_of : Need → PageFacts → Named
named_of need P = record {
  items = is_one_of (items_in need (as_page P));
  shipments = is_one_of need.shipments;
  orders = is_one_of need.orders;
  documents = is_number_of need.documents;
}
