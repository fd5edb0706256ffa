use Rattle.std.proofs.Common.{List, flat_map, rules, inl, inr, sym, ap, subst}
use Rattle.folders.proofs.Taking.{handed_on}
use Rattle.folders.specs.Folders.{IsFolderStopped}
use Rattle.folders.specs.declared.folder.Taken.{Taken}
use Rattle.commands.specs.Printing.{AppendsFront}
use Rattle.commands.specs.Takes.{line_in}
use Rattle.commands.specs.Stops.{IsDeviceStop, IsFaultThat, fault_in}
use Rattle.store.proofs.Changes.{unchanged_refl}
use Rattle.commands.specs.declared.told.CommandError.{CommandError}
use Rattle.commands.proofs.TakesLaws.{not_begun}
use Rattle.commands.proofs.TellingLaws.{appends_nothing}
use Rattle.commands.proofs.takes.take.Goals as goal

pub returns-in-Ok-clause-taken : goal.returns-in-Ok-clause-taken
returns-in-Ok-clause-taken g c = record {
  texts = c.in-Ok.ensures.taken.0;
  files = c.in-Ok.folder.files.items;
  taken = c.in-Ok.ensures.taken.1;
  printed = search rules;
  passed = c.in-Ok.folder.passed.items;
  says = search rules;
}

pub returns-in_err-room-clause-halted : goal.returns-in_err-room-clause-halted
returns-in_err-room-clause-halted g c =
    let at = g.K.Keeper.standing c.args.book.now in
    handed_on c.from_residual.result _ _ c.from_residual.ensures
    (λ stop is. inl (subst (λ (s : CommandError). IsFaultThat s (λ fault. IsFolderStopped fault at at c.args.moment)) (sym is) (not_begun at c.args.moment), appends_nothing (g.W.Write.contents c.args.out.now)))

pub returns-in_err-status-in-Ok-clause-halted : goal.returns-in_err-status-in-Ok-clause-halted
returns-in_err-status-in-Ok-clause-halted g c =
    let before = g.W.Write.contents c.args.out.now in
    let later = g.W.Write.contents c.tell_taken.new.out in
    let e = c.in_err-status-in-Ok.ensures in
    handed_on c.from_residual-in_err-status-in-Ok.result _ _ c.from_residual-in_err-status-in-Ok.ensures
    (λ stop is. inr (record {
      texts = c.in-Ok.ensures.taken.0;
      files = c.in-Ok.folder.files.items;
      taken = c.in-Ok.ensures.taken.1;
      printed = subst (λ (files : List Taken). AppendsFront before later (flat_map line_in files)) c.deref.ensures.value e.front;
      why = subst IsDeviceStop (sym is) e.halted;
    }))

pub returns-clause-halted : goal.returns-clause-halted
returns-clause-halted g c = inl (search rules, appends_nothing (g.W.Write.contents c.args.out.now))

pub returns-in-Ok-clause-listed : goal.returns-in-Ok-clause-listed
returns-in-Ok-clause-listed g c = record {
  files = c.in-Ok.folder.files.items;
  handed = record { passed = c.in-Ok.folder.passed.items; all = c.in-Ok.ensures.all; handed = c.in-Ok.ensures.handed };
  printed = search rules;
}

pub returns-in_err-room-clause-until : goal.returns-in_err-room-clause-until
returns-in_err-room-clause-until g c =
    handed_on c.from_residual.result _ _ c.from_residual.ensures (λ stop is. inr (inr (unchanged_refl _, ap fault_in is)))

pub returns-in_err-status-in-Ok-clause-until : goal.returns-in_err-status-in-Ok-clause-until
returns-in_err-status-in-Ok-clause-until g c =
    let before = g.W.Write.contents c.args.out.now in
    let later = g.W.Write.contents c.tell_taken.new.out in
    let e = c.in_err-status-in-Ok.ensures in
    handed_on c.from_residual-in_err-status-in-Ok.result _ _ c.from_residual-in_err-status-in-Ok.ensures
    (λ stop is. inr (inl (record {
      files = c.in-Ok.folder.files.items;
      handed = record { passed = c.in-Ok.folder.passed.items; all = c.in-Ok.ensures.all; handed = c.in-Ok.ensures.handed };
      printed = subst (λ (files : List Taken). AppendsFront before later (flat_map line_in files)) c.deref.ensures.value e.front;
      why = subst IsDeviceStop (sym is) e.halted;
    })))

pub returns-clause-until : goal.returns-clause-until
returns-clause-until g c = inl (record { at = c.in-Err.stop; told = search rules; within = c.in-Err.ensures.halted })
