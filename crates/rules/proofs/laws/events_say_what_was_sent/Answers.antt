use Rattle.rules.proofs.SentUnder.{act_sent_own, text_sent_own}
use Rattle.rules.proofs.laws.events_say_what_was_sent.Goals as goal

pub returns-clause-acts : goal.returns-clause-acts
returns-clause-acts c = λ r W L w before e back ticket act legal is deed. act_sent_own r W L w before e back ticket act legal is deed

pub returns-clause-others : goal.returns-clause-others
returns-clause-others c = λ r W L w before e back text legal is deed. text_sent_own r W L w before e back text legal is deed
