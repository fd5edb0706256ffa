use Rattle.stock.proofs.PageLaws.{covered_events}
use Rattle.stock.proofs.laws.events_of_a_page_are_covered.Goals as goal

pub returns : goal.returns
returns c = covered_events
