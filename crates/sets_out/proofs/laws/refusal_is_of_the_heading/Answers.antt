use Rattle.std.proofs.Common.{refl}
use Rattle.sets_out.proofs.laws.refusal_is_of_the_heading.Goals as goal

pub returns : goal.returns
returns c = λ W text t note. refl
