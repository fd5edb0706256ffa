use Rattle.rules.proofs.GivenAgain.{made_again, good_again, all_again}
use Rattle.rules.proofs.laws.legal_entries_can_be_given_again.Goals as goal

pub returns-clause-again : goal.returns-clause-again
returns-clause-again c = λ r W L before e back legal is. made_again r W L before e back legal is

pub returns-clause-command : goal.returns-clause-command
returns-clause-command c = λ r W L before e back legal is. good_again r W L before e back legal is

pub returns-clause-all : goal.returns-clause-all
returns-clause-all c = λ r W L legal. all_again r W L legal
