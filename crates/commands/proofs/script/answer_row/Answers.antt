use Rattle.std.proofs.Common.{rules, inl, inr, refl, Err, sym, ap, subst, ◌∙◌, map, Bor, List, ℕ}
use Rattle.store.proofs.Changes.{goes_trans, unchanged_refl}
use Rattle.folders.proofs.Taking.{handed_on}
use Rattle.command_line.specs.Asked.{CanBeRead}
use Rattle.command_line.specs.declared.words.Place.TheVariants.{Script}
use Rattle.commands.specs.Playing.{IsRowAnswered}
use Rattle.commands.specs.Stops.{line_stop}
use Rattle.commands.specs.declared.told.CommandError.{CommandError}
use Rattle.commands.proofs.TellingLaws.{appends_nothing}
use Rattle.commands.proofs.script.answer_row.Goals as goal
use Rattle.commands.proofs.script.answer_row.Goals.{then-verbosity+then-eq, else-verbosity}

pub returns-in_err-status-clause-stopped : goal.returns-in_err-status-clause-stopped
returns-in_err-status-clause-stopped g c =
    handed_on c.from_residual-in_err-status.result _ _ c.from_residual-in_err-status.ensures
    (λ stop is. inr (subst (λ (s : CommandError). IsRowAnswered (g.R.FileSystem.reads c.args.rt.now) g.K.Keeper.standing c.args.book.now c.answer.new.book c.args.row.now (g.W.Write.contents c.args.out.now) (g.W.Write.contents c.answer.new.out) (Err s)) (sym is)
    (record {
      asked = c.in_ok-asked.asked;
      read = search rules;
      left = c.answer.new.book;
      done = c.in_err-status.ensures.answered;
      goes = c.answer.ensures.goes;
      same = unchanged_refl _;
      last = refl;
    })))

pub returns-in_err-asked-clause-stopped : goal.returns-in_err-asked-clause-stopped
returns-in_err-asked-clause-stopped g c =
    handed_on c.from_residual-in_err-asked.result _ _ c.from_residual-in_err-asked.ensures
    (λ stop is. inl (record {
      same = unchanged_refl _;
      silent = appends_nothing _;
      lacks = λ can.
          let words = ap (map (λ (w : Bor (List ℕ)). w.now)) c.deref.ensures.value ∙ c.in_ok-words.ensures in
          is ∙ ap line_stop (c.in_err-asked.ensures.err (subst (CanBeRead Script) (sym words) can));
    }))

pub returns-in_err-words-clause-stopped : goal.returns-in_err-words-clause-stopped
returns-in_err-words-clause-stopped g c =
    handed_on c.from_residual.result _ _ c.from_residual.ensures
    (λ stop is. inl (record { same = unchanged_refl _; silent = appends_nothing _; lacks = λ can. is }))

pub returns-clause-goes : goal.returns-clause-goes
returns-clause-goes g c = elim c.if-verbosity.branch [
  | then-verbosity+then-eq w ↦ rw w.book-is (goes_trans _ _ _ c.answer.ensures.goes w.tell_why.ensures.goes)
  | else-verbosity w ↦ rw w.book-is c.answer.ensures.goes
]
