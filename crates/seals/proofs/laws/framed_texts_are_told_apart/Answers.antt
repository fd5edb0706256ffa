use Rattle.seals.proofs.Framing.{framed_apart}
use Rattle.seals.proofs.laws.framed_texts_are_told_apart.Goals as goal

pub returns : goal.returns
returns c = framed_apart
