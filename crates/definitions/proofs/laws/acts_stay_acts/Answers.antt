use Rattle.definitions.proofs.SheetLaws.{is_act-later}
use Rattle.definitions.proofs.laws.acts_stay_acts.Goals as goal

pub returns : goal.returns
returns c = λ act h. is_act-later act h
