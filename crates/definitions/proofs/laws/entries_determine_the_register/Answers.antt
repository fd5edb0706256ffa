use Rattle.definitions.proofs.RegisterLaws.{entry_table-determines, entry_table-determines_first}
use Rattle.definitions.proofs.laws.entries_determine_the_register.Goals as goal

pub returns : goal.returns
returns c = λ V W L M. (λ l m e f. entry_table-determines V W L M l m e f, λ l m e. entry_table-determines_first V W L M l m e)
