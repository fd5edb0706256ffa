-- What a page and a draft hold, as clauses see it.
use Rattle.page_rows.specs.Pages.{PageFacts}
use Rattle.stock.specs.declared.facts.Facts.{Facts}

abbrev pub facts_of : Facts → PageFacts
facts_of f = record {
  rows = f.rows.items;
  advices = f.advices.items;
  orders = f.orders.items;
  documents = f.documents.items;
  entries = f.entries;
  recent = f.recent;
}
