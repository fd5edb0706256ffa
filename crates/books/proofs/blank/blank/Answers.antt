use Rattle.std.proofs.lemmas.Result.{IfOk-weaker}
use Rattle.books.proofs.RamLaws.{ram_is_clean}
use Rattle.books.proofs.blank.blank.Goals as goal

pub returns-in-Ok-clause-usable : goal.returns-in-Ok-clause-usable
returns-in-Ok-clause-usable c = IfOk-weaker c.over_nothing.result _ _ (λ b usable. usable (ram_is_clean b.tables.conn)) c.over_nothing.ensures.usable
