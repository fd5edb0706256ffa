use Rattle.definitions.specs.Register.{Clerk}
use Rattle.definitions.specs.Reply.{stored}
use Rattle.rules.proofs.Follows.{act_stored, nothing_after}
use Rattle.rules.proofs.laws.a_known_act_is_answered_again.Goals as goal

pub returns : goal.returns
returns c = λ r W L w ticket act t k found deed.
    let reply = act_stored r W L w ticket act t k found deed in (reply, nothing_after r W L (Clerk w ticket act) t (stored W k) reply)
