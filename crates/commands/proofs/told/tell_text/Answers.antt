use Rattle.commands.proofs.TellingLaws.{line_begun, line_unended}
use Rattle.commands.proofs.told.tell_text.Goals as goal

pub returns-in_err-print-clause-front : goal.returns-in_err-print-clause-front
returns-in_err-print-clause-front g c = line_begun c.from_residual.result _ _ _ c.if-not-is_empty.ensures c.in_err-print.ensures.front

pub returns-in_err-print-2-clause-front : goal.returns-in_err-print-2-clause-front
returns-in_err-print-2-clause-front g c = line_unended c.from_residual-in_err-print-2.result _ _ _ _ c.if-not-is_empty.ensures c.in_ok-print.ensures.whole c.in_err-print-2.ensures.front
