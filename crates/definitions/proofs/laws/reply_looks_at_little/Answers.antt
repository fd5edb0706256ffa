use Rattle.definitions.proofs.DecisionLaws.{reply-by}
use Rattle.definitions.proofs.laws.reply_looks_at_little.Goals as goal

pub returns : goal.returns
returns c = λ r W M a t. reply-by r W M a t
