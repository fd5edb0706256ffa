use Rattle.sets_out.proofs.BodyLaws.{body_944-for}
use Rattle.sets_out.proofs.laws.receipt_is_of_the_count.Goals as goal

pub returns : goal.returns
returns c = body_944-for
