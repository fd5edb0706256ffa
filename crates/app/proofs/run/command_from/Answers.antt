use Rattle.std.proofs.Common.{inr, refl, sym, ap, ◌∙◌, subst}
use Rattle.std.specs.Prelude.{Err, option_map}
use Rattle.std.specs.Option.{option_map_or}
use Rattle.commands.specs.declared.told.CommandError.TheVariants as stopped
use Rattle.store.specs.Fault.TheVariants.{OutOfMemory}
use Rattle.app.specs.Program.{IsLineRun}
use Rattle.app.proofs.run.command_from.Goals as goal

pub returns-in-Ok-Some-clause-run : goal.returns-in-Ok-Some-clause-run
returns-in-Ok-Some-clause-run g c =
    let said = c.args.words.now in
    let asked = sym c.in-Ok-Some.ensures ∙ ap (option_map (λ v. v.items)) c.in-Ok-Some.field-0-is in
    subst (λ line. IsLineRun g.W.Write.contents _ _ line c.args.out.now c.run_told.new.out c.run_told.result.0 c.run_told.result.1)
    (c.deref.ensures.value ∙ sym (ap (λ line. option_map_or (λ it. it) line said) asked)) c.run_told.ensures.run

pub returns-in-Ok-None-clause-run : goal.returns-in-Ok-None-clause-run
returns-in-Ok-None-clause-run g c =
    let said = c.args.words.now in
    let asked = sym c.in-Ok-None.ensures ∙ ap (option_map (λ v. v.items)) c.in-Ok-None.field-0-is in
    subst (λ line. IsLineRun g.W.Write.contents _ _ line c.args.out.now c.run_told-in-Ok-None.new.out c.run_told-in-Ok-None.result.0 c.run_told-in-Ok-None.result.1)
    (sym (ap (λ line. option_map_or (λ it. it) line said) asked)) c.run_told-in-Ok-None.ensures.run

pub returns-in-Err-clause-run : goal.returns-in-Err-clause-run
returns-in-Err-clause-run g c = record {
  ending = Err (stopped.Fault OutOfMemory);
  ended = inr record {
    untouched = c.stopped_before.ensures.files;
    why = λ asks read. refl;
  };
  says = c.stopped_before.ensures.says;
}
