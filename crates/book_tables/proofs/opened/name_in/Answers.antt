use Rattle.std.proofs.Common.{true}
use Rattle.book_tables.proofs.opened.name_in.Goals as goal

pub returns-in_err-flag_at : goal.returns-in_err-flag_at
returns-in_err-flag_at c = rw c.from_residual.ensures (λ name at told. c.in_err-flag_at.ensures true told)
