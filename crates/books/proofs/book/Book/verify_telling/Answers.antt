use Rattle.std.proofs.Common.{rules}
use Rattle.books.proofs.RamLaws.{ram_is_clean}
use Rattle.books.proofs.book.Book.verify_telling.Goals as goal

pub check_by-requires-clause-clean : goal.check_by-requires-clause-clean
check_by-requires-clause-clean g c = ram_is_clean

pub returns-clause-query : goal.returns-clause-query
returns-clause-query g c = record { reading = c.check_by.ensures.reading; shut = search rules }
