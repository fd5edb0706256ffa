use Rattle.book_tables.proofs.KindsAndStates.{not_read}
use Rattle.book_tables.proofs.numbers.document_in.Goals as goal

pub returns-in_err-kind-clause-shows : goal.returns-in_err-kind-clause-shows
returns-in_err-kind-clause-shows c = λ r d of is. absurd (not_read c.args.n c.args.row.now r d of is c.in_err-kind.ensures)
