use Rattle.definitions.specs.Register.{Interchange}
use Rattle.definitions.specs.Reply.{stored}
use Rattle.rules.proofs.Follows.{interchange_stored, nothing_after}
use Rattle.rules.proofs.laws.a_known_interchange_is_answered_again.Goals as goal

pub returns : goal.returns
returns c = λ r W L text t k found deed.
    let reply = interchange_stored r W L text t k found deed in (reply, nothing_after r W L (Interchange text) t (stored W k) reply)
