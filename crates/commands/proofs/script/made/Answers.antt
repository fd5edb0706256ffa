use Rattle.std.proofs.Common.{sym, ap, subst, ◌∙◌, map, Bor, List, ℕ}
use Rattle.folders.proofs.Taking.{handed_on}
use Rattle.command_line.specs.Asked.{CanBeRead, IsLineRead}
use Rattle.command_line.specs.declared.words.Place.TheVariants.{Script}
use Rattle.command_line.specs.declared.words.Words.{Words}
use Rattle.command_line.specs.declared.words.Words.TheVariants as words
use Rattle.commands.specs.Stops.{line_stop}
use Rattle.commands.proofs.InitRows.{unasked, no_over, no_init}
use Rattle.commands.proofs.script.made.Goals as goal

pub returns-in_err-task-clause-stopped : goal.returns-in_err-task-clause-stopped
returns-in_err-task-clause-stopped g c =
    handed_on c.from_residual-in_err-task.result _ _ c.from_residual-in_err-task.ensures
    (λ stop is can.
    let words = ap (map (λ (w : Bor (List ℕ)). w.now)) c.deref.ensures.value ∙ c.in_ok-words.ensures in
    is ∙ ap line_stop (c.in_err-task.ensures.err (subst (CanBeRead Script) (sym words) can.readable)))

pub returns-in_default : goal.returns-in_default
returns-in_default g c = record {
  made = tt;
  stopped = λ can.
      let read = ap (map (λ (w : Bor (List ℕ)). w.now)) c.deref.ensures.value ∙ c.in_ok-words.ensures in
      absurd (unasked c.args.row.now _ c.in_ok-task.field-0 read c.in_ok-task.ensures.ok (no_over c.in_ok-task.field-0 c.in_default.not-Over) can);
}

pub returns-in_default-task : goal.returns-in_default-task
returns-in_default-task g c = record {
  made = tt;
  stopped = λ can.
      let read = ap (map (λ (w : Bor (List ℕ)). w.now)) c.deref.ensures.value ∙ c.in_ok-words.ensures in
      let asked : Words = words.Over c.in-Over.book c.in-Over.opening c.in-Over.task in
      let texts : List (List ℕ) = map (λ (w : Bor (List ℕ)). w.now) c.deref.result.now in
      absurd (unasked c.args.row.now texts asked read (subst (λ (k : Words). IsLineRead Script texts k) c.in-Over.is c.in_ok-task.ensures.ok)
      (no_init c.in-Over.book c.in-Over.opening c.in-Over.task c.in_default-task.not-Init) can);
}
