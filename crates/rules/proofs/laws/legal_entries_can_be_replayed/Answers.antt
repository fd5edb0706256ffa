use Rattle.rules.proofs.Follows.{legal_follow}
use Rattle.rules.proofs.laws.legal_entries_can_be_replayed.Goals as goal

pub returns : goal.returns
returns c = λ r W L before e back legal is. legal_follow r W L before e back legal is
