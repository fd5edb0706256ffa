use Rattle.stock.proofs.PageLemmas.{next_shows}
use Rattle.stock.proofs.laws.the_end_of_an_entry_changes_nothing.Goals as goal

pub returns : goal.returns
returns c = next_shows
