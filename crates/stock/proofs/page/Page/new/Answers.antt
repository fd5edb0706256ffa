use Rattle.stock.proofs.PageLemmas.{blank_sound, blank_shows}
use Rattle.stock.proofs.page.Page.new.Goals as goal

pub invariant_of-result : goal.invariant_of-result
invariant_of-result c = rw (c.draft.view_is, c.new-draft.ensures) blank_sound

pub returns-clause-shows : goal.returns-clause-shows
returns-clause-shows c = rw (c.draft.view_is, c.new-draft.ensures) blank_shows
