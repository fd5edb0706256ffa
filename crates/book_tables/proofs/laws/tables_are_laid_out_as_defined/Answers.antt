use Rattle.std.proofs.Common.{refl}
use Rattle.book_tables.proofs.laws.tables_are_laid_out_as_defined.Goals as goal

pub returns : goal.returns
returns c = (record { name = refl; columns = refl; key = refl; uniques = refl; checks = refl }, (record { name = refl; columns = refl; key = refl; uniques = refl; checks = refl }, (record { name = refl; columns = refl; key = refl; uniques = refl; checks = refl }, (record { name = refl; columns = refl; key = refl; uniques = refl; checks = refl }, (record { name = refl; columns = refl; key = refl; uniques = refl; checks = refl }, (record { name = refl; columns = refl; key = refl; uniques = refl; checks = refl }, (record { name = refl; columns = refl; key = refl; uniques = refl; checks = refl }, (record { name = refl; columns = refl; key = refl; uniques = refl; checks = refl }, (record { name = refl; columns = refl; key = refl; uniques = refl; checks = refl }, (record { name = refl; columns = refl; key = refl; uniques = refl; checks = refl }, (record { name = refl; columns = refl; key = refl; uniques = refl; checks = refl }, tt)))))))))))
