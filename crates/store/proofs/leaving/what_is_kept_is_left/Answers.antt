use Rattle.store.proofs.leaving.what_is_kept_is_left.Goals as goal

pub returns : goal.returns
returns c = λ L usable. (usable.keeps, usable.legal)
