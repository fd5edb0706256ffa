use Rattle.sets_out.proofs.TextLaws.{answer-told}
use Rattle.sets_out.proofs.laws.answer_is_of_what_is_told.Goals as goal

pub returns : goal.returns
returns c = answer-told
