use Rattle.std.proofs.Common.{rules, ◌≡◌, ◌∙◌, inl, refl, sym, subst, ℕ, List}
use Rattle.store.specs.Fault.{Fault}
use Rattle.store.specs.Runs.{told}
use Rattle.folders.specs.Answers.{IsBeside}
use Rattle.folders.specs.Folders.{became_of}
use Rattle.folders.specs.Handed.{text_of, IsText, IsUntaken}
use Rattle.folders.specs.Paths.{answer_path, file_path}
use Rattle.folders.proofs.Handing.{beside_of}
use Rattle.folders.proofs.Taking.{unread, unsubmitted, unanswered, finish_taken, handed_on}
use Rattle.folders.proofs.folder.take_file.Goals as goal

pub returns-in_err-reserve-clause-stopped : goal.returns-in_err-reserve-clause-stopped
returns-in_err-reserve-clause-stopped g c =
    handed_on c.from_residual.result _ _ c.from_residual.ensures
    (λ fault is. unread _ (g.K.Keeper.standing c.args.keeper.now) fault c.args.moment (inl is))

pub returns-in_err-path-clause-stopped : goal.returns-in_err-path-clause-stopped
returns-in_err-path-clause-stopped g c =
    handed_on c.from_residual-in_err-path.result _ _ c.from_residual-in_err-path.ensures
    (λ fault is. unread _ (g.K.Keeper.standing c.args.keeper.now) fault c.args.moment (inl is))

pub returns-in_err-bytes-clause-stopped : goal.returns-in_err-bytes-clause-stopped
returns-in_err-bytes-clause-stopped g c =
    let at = g.K.Keeper.standing c.args.keeper.now in
    let has = IsText (g.R.FileSystem.reads c.args.rt.now) (file_path c.args.dir.now c.args.name.now) in
    handed_on c.from_residual-in_err-bytes.result _ _ c.from_residual-in_err-bytes.ensures
    (λ fault is. subst (λ (f : Fault). IsUntaken has f at at c.args.moment) (sym is) (unread has at _ c.args.moment c.in_err-bytes.ensures.named))

pub returns-in_err-reply-clause-stopped : goal.returns-in_err-reply-clause-stopped
returns-in_err-reply-clause-stopped g c =
    let old = g.K.Keeper.standing c.args.keeper.now in
    let new = g.K.Keeper.standing c.submit.new.keeper in
    let path = file_path c.args.dir.now c.args.name.now in
    let has = IsText (g.R.FileSystem.reads c.args.rt.now) path in
    let at : c.deref.result.now ≡ path = search rules in
    let read = subst (λ (p : List ℕ). IsText (g.R.FileSystem.reads c.args.rt.now) p c.deref-2.result.now) at
    (subst (λ (items : List ℕ). IsText (g.R.FileSystem.reads c.args.rt.now) c.deref.result.now items) (sym c.deref-2.ensures.value) c.in_ok-bytes.ensures.read) in
    handed_on c.from_residual-in_err-reply.result _ _ c.from_residual-in_err-reply.ensures
    (λ fault is. subst (λ (f : Fault). IsUntaken has f old new c.args.moment) (sym is)
    (unsubmitted has old new _ c.args.moment c.deref-2.result.now read c.in_err-reply.ensures.fault (λ clean L u. c.in_err-reply.ensures.left clean L u refl)))

pub returns-in_err-leave_answer-clause-stopped : goal.returns-in_err-leave_answer-clause-stopped
returns-in_err-leave_answer-clause-stopped g c =
    let old = g.K.Keeper.standing c.args.keeper.now in
    let new = g.K.Keeper.standing c.submit.new.keeper in
    let path = file_path c.args.dir.now c.args.name.now in
    let has = IsText (g.R.FileSystem.reads c.args.rt.now) path in
    let same : old.shut ≡ new.shut = search rules in
    let at : c.deref.result.now ≡ path = search rules in
    let read = subst (λ (p : List ℕ). IsText (g.R.FileSystem.reads c.args.rt.now) p c.deref-2.result.now) at
    (subst (λ (items : List ℕ). IsText (g.R.FileSystem.reads c.args.rt.now) c.deref.result.now items) (sym c.deref-2.ensures.value) c.in_ok-bytes.ensures.read) in
    handed_on c.from_residual-in_err-leave_answer.result _ _ c.from_residual-in_err-leave_answer.ensures
    (λ fault is. subst (λ (f : Fault). IsUntaken has f old new c.args.moment) (sym is)
    (unanswered has old new _ c.args.moment c.deref-2.result.now read (λ clean L u. c.in_ok-reply.ensures.ok clean L u refl) same c.in_err-leave_answer.ensures.named))

pub returns-clause-taken : goal.returns-clause-taken
returns-clause-taken g c =
    let path = file_path c.args.dir.now c.args.name.now in
    let reads = g.R.FileSystem.reads c.args.rt.now in
    let writes = g.R.FileSystem.writes c.args.rt.now in
    let lacks = g.R.FileSystem.lacks c.args.rt.now in
    let at : c.deref.result.now ≡ path = search rules in
    let beside : c.deref-3.result.now ≡ path = search rules in
    let reply = told c.in_ok-reply.reply in
    let text : c.deref-4.result.now ≡ text_of reply = c.deref-4.ensures.value ∙ c.outcome_of-outcome.ensures.text in record {
      file = record { name = c.args.name.now; text = c.deref-2.result.now; reply = reply };
      named = refl;
      each = record {
        read = subst (λ (p : List ℕ). IsText (g.R.FileSystem.reads c.args.rt.now) p c.deref-2.result.now) at
            (subst (λ (items : List ℕ). IsText (g.R.FileSystem.reads c.args.rt.now) c.deref.result.now items) (sym c.deref-2.ensures.value) c.in_ok-bytes.ensures.read);
        answered = λ some. subst (IsBeside reads writes (answer_path path)) text
            (subst (λ (p : List ℕ). IsBeside reads writes (answer_path p) c.deref-4.result.now) beside
            (beside_of (g.R.FileSystem.finds c.args.rt.now) reads writes (g.R.FileSystem.fails c.args.rt.now) _ _ (c.in_ok-leave_answer.ensures.written (λ none. some (sym text ∙ none)))));
        unanswered = λ none. subst (λ (p : List ℕ). lacks (answer_path p)) beside (c.in_ok-leave_answer.ensures.removed (text ∙ none));
      };
      replied = λ clean L u. c.in_ok-reply.ensures.reply clean L u.keeps u.legal;
      told_is = c.outcome_of-outcome.ensures.told;
      taken = finish_taken (g.K.Keeper.standing c.args.keeper.now) (g.K.Keeper.standing c.submit.new.keeper) c.args.moment c.deref-2.result.now _ (became_of c.outcome_of-outcome.result.0) c.outcome_of-outcome.ensures.told
          (λ clean L u. c.in_ok-reply.ensures.reply clean L u.keeps u.legal) (λ clean L u. c.in_ok-reply.ensures.ok clean L u refl) (λ clean L k legal. c.in_ok-reply.ensures.keeps clean L k legal refl);
    }
