use Rattle.std.proofs.Common.{refl}
use Rattle.store.proofs.leaving.memory_is_never_in_doubt.Goals as goal

pub returns : goal.returns
returns c = refl
