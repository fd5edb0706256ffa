use Rattle.std.proofs.Common.{subst}
use Rattle.std.proofs.lemmas.Result.{IfOk-weaker}
use Rattle.definitions.specs.Halt.{structure_note}
use Rattle.definitions.specs.Register.{Interchange}
use Rattle.envelope.specs.Conditions.{IsTold}
use Rattle.envelope.specs.declared.halt.Halt.{Halt}
use Rattle.rules.proofs.Decides.{noted_new}
use Rattle.rules.proofs.interchanges.halted.Goals as goal

pub returns-in-Note-clause-reply : goal.returns-in-Note-clause-reply
returns-in-Note-clause-reply c = IfOk-weaker c.noted.result _ _ (λ d reply r text h n told same.
    noted_new r c.args.warehouse.now h text c.args.header.now c.args.moment n c.in-Note.code (structure_note text) d same (subst (λ (x : Halt). IsTold x text) c.in-Note.is told)
    (reply r n (Interchange text))) c.noted.ensures.reply
