-- When a page is the one that the definitions give.
use Rattle.std.specs.Prelude.{◌≡◌}
use Rattle.definitions.specs.Page.{Page}
use Rattle.stock.specs.Pages.{PageFacts}

pub record IsDefined (p : PageFacts) (page : Page) : Type 0 where
  pub rows : p.rows ≡ page.rows
  pub advices : p.advices ≡ page.advices
  pub orders : p.orders ≡ page.orders
  pub documents : p.documents ≡ page.documents
  pub entries : p.entries ≡ page.entries
