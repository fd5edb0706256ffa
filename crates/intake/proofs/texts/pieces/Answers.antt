use Rattle.intake.proofs.texts.pieces.Goals as goal

pub returns : goal.returns
returns c = cc
