use Rattle.std.proofs.Common.{refl}
use Rattle.book_tables.proofs.laws.tables_hold_what_is_defined.Goals as goal

pub returns-clause-two : goal.returns-clause-two
returns-clause-two c = λ W L. refl

pub returns-clause-one : goal.returns-clause-one
returns-clause-one c = λ W L. refl
