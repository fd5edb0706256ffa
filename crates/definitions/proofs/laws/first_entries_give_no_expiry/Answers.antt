use Rattle.definitions.proofs.UndatedLaws.{expiry-first}
use Rattle.definitions.proofs.laws.first_entries_give_no_expiry.Goals as goal

pub returns : goal.returns
returns c = λ M item lot h. expiry-first M item lot h
