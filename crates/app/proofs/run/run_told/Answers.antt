use Rattle.std.proofs.Common.{sym, ap, ◌∙◌}
use Rattle.commands.specs.Statuses.{code_of}
use Rattle.app.specs.Ended.{status_of_ending}
use Rattle.app.proofs.run.run_told.Goals as goal

pub returns-in-Ok-clause-run : goal.returns-in-Ok-clause-run
returns-in-Ok-clause-run g c = record {
  ending = c.run_any-ending.result.ending;
  ended = c.run_any-ending.ensures;
  says = c.code.ensures ∙ ap (λ e. code_of (status_of_ending e)) (sym c.in-Ok.is);
}

pub returns-in-Err-clause-run : goal.returns-in-Err-clause-run
returns-in-Err-clause-run g c = record {
  ending = c.run_any-ending.result.ending;
  ended = c.run_any-ending.ensures;
  says = c.code-in-Err.ensures ∙ ap code_of c.tell_stop.ensures ∙ ap (λ e. code_of (status_of_ending e)) (sym c.in-Err.is);
}
