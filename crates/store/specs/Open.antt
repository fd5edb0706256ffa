-- What a depositor has open, and who is enrolled.
use Rattle.std.specs.Prelude.{not, ◌==◌, List, map, length, if◌then◌else◌, filter, Option, Some, None}
use Rattle.definitions.specs.Header.{Who}
use Rattle.definitions.specs.History.{events}
use Rattle.definitions.specs.Page.{PageAdvice, PageOrder, page_advices, page_orders}
use Rattle.definitions.specs.Register.{Entry, is_numbered, own}
use Rattle.rules.specs.Pages.{PageFacts}

-- advices that aren't counted and orders that aren't picked, each in the order of its numbers
pub record OpenWork : Type 0 where
  pub advices : List PageAdvice
  pub orders : List PageOrder

-- those of a page that lists these
abbrev pub open_among : List PageAdvice → List PageOrder → OpenWork
open_among advices orders = record {
  advices = filter (λ a. a.is_open) advices;
  orders = filter (λ o. o.is_open) orders;
}

abbrev pub open_on : PageFacts → OpenWork
open_on p = open_among p.advices p.orders

-- those of a depositor's own entries
abbrev pub open_work : List Entry → OpenWork
open_work M = open_among (page_advices (events M)) (page_orders (events M))

-- the same of a depositor of a register; none of a stranger
abbrev pub open_of : List Entry → Who → Option OpenWork
open_of L d = let M = own L d in if length M == 0 then None else Some (open_work M)

-- the depositors, in the order in which they were enrolled: an enrolment is the one entry that has
-- no number
abbrev pub enrolled : List Entry → List Who
enrolled L = map (λ e. e.who) (filter (λ e. not (is_numbered e)) L)
