-- What changes make of a page.
use Rattle.std.specs.Prelude.{ℕ, ◌+◌, List, [], fold}
use Rattle.stock.specs.declared.steps.Change.{Change}
use Rattle.stock.specs.declared.steps.Change.TheVariants.{Stock, Advice, Order, Sent, Document}
use Rattle.page_rows.specs.Functions.{function_text}
use Rattle.page_rows.specs.Keyed.{put_row, put_advice, put_order}
use Rattle.page_rows.specs.Pages.{PageFacts}
use Rattle.page_rows.specs.Steps.{with_sent, with_said}

-- a page of which nothing was put in yet, of a depositor with so many numbered entries
abbrev pub nothing_yet : ℕ → PageFacts
nothing_yet entries =
    record { rows = []; advices = []; orders = []; documents = []; entries = entries; recent = 0 }

-- one change
abbrev pub put_change : PageFacts → Change → PageFacts
put_change p (Stock r) = record p { rows = put_row r p.rows }
put_change p (Advice k) = record p { advices = put_advice k p.advices }
put_change p (Order k) = record p { orders = put_order k p.orders }
put_change p (Sent n function) =
    record p { documents = with_sent n (function_text function) p.documents }
put_change p (Document n accepts) = record p { documents = with_said n accepts p.documents }

-- the changes of one event, in turn: there is one event more since the last entry
abbrev pub put : List Change → PageFacts → PageFacts
put cs p = record (fold put_change p cs) { entries = p.entries; recent = p.recent + 1 }
