use Rattle.book_tables.proofs.EnrolledFound.{enrolment_reads}
use Rattle.book_tables.proofs.connected.Tables.enrolment_rows.Goals as goal

pub ask-requires : goal.ask-requires
ask-requires g c = enrolment_reads
