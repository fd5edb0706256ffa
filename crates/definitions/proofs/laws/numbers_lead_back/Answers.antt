use Rattle.definitions.proofs.NumberedLaws.{refusal_back, fault_back}
use Rattle.definitions.proofs.laws.numbers_lead_back.Goals as goal

pub returns : goal.returns
returns c = (refusal_back, fault_back)
