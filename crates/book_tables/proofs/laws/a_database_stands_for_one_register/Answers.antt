use Rattle.book_tables.proofs.OneRegister.{stands_alone}
use Rattle.book_tables.proofs.laws.a_database_stands_for_one_register.Goals as goal

pub returns : goal.returns
returns c = λ db q r W V L M a b. stands_alone db q r W V L M a b
