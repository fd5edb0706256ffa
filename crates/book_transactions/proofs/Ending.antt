-- A transaction from its beginning, on a connection in none, to its end.
use Rattle.std.proofs.Common.{◌≡◌, ◌∙◌, true, Result, Ok, OnOk, OnErr, IsTrue, arith, ap, subst, sym}
use Rattle.sqlite.specs.Held.{Held, state}
use Rattle.sqlite.specs.Store.{Ghosts}
use Rattle.sqlite.specs.Tree.{Trees}
use Rattle.sqlite.specs.State.{State, HasCleanDisk, Survives}
use Rattle.sqlite.proofs.Callers.{survives_begin}
use Rattle.store.specs.Fault.{Fault}
use Rattle.book_statements.specs.declared.calls.Calls.{Calls}
use Rattle.book_statements.specs.Limits.{Called}
use Rattle.book_statements.specs.Rises.{Rises}
use Rattle.book_statements.specs.Exits.{IsAsBefore, LeavesIt}
use Rattle.book_statements.specs.Writing.{Wrote, Ended}
use Rattle.book_transactions.proofs.Growing.{crash_of}
use Rattle.book_statements.proofs.Limited.{spends_both, none_after}
use Rattle.book_statements.proofs.StepLemmas.{on_ok}
use Rattle.book_statements.proofs.Writes.{on_err}

module _ {S T U : Type 0} {last : State} {x y z : Calls} {Done : Type 0} {u : U} {r : Result T Fault} (store : Ghosts S) (old begun new : Held S)
    (is : begun ≡ record old { in_transaction = true }) (wrote : Wrote {T = U} Done (state store begun) last x y (Ok u)) (ended : Ended last (state store new) y z r) where
  early : HasCleanDisk (state store new) → HasCleanDisk last
  early clean = omega (arith, ended.survives.clean, clean)

  in_it : IsTrue begun.in_transaction
  in_it = ap (λ (h : Held S). h.in_transaction) is

  -- what an Ok tells, of what the writes did
  pub one_ok : {A : Type 0} → (Done → (state store new).now ≡ last.now → A) → HasCleanDisk (state store new) → OnOk r A
  one_ok f clean = on_ok r (λ e. f (wrote.done (early clean) in_it) e.0) (ended.done clean)

  -- a crash leaves what was there, or what the writes made
  pub one_crash : (P : Trees → Type 0) → (Done → (db : Trees) → db ≡ last.now.trees → P db) → Survives (state store old) (state store new) P
  one_crash P f = survives_begin store old (state store new) P (subst (λ (h : Held S). Survives (state store h) (state store new) P) is
      (crash_of (state store begun) last (state store new) P wrote.survives ended.survives (λ clean db at. f (wrote.done (early clean) in_it) db at)))

  pub one_left : HasCleanDisk (state store new) → OnOk r (LeavesIt (state store new))
  one_left clean = on_ok r (λ e. e.1) (ended.done clean)

  -- an Err leaves what was the last commit before it
  pub one_err : (IsTrue (state store old).is_open → (state store old).now ≡ (state store old).committed) → HasCleanDisk (state store new)
      → OnErr r (IsAsBefore (state store old) (state store new))
  one_err settled clean =
      let begun_is : Wrote {T = U} Done (state store (record old { in_transaction = true })) last x y (Ok u) = subst (λ (h : Held S). Wrote {T = U} Done (state store h) last x y (Ok u)) is wrote in
      let kept = begun_is.kept (early clean) in
      let inside : IsTrue last.in_transaction = wrote.inside (early clean) in_it in
      on_err r (λ rolled. record {
        was_open = λ opened. kept.was_open (rolled.was_open opened);
        now = λ opened. (rolled.undone opened).0 ∙ kept.committed (rolled.was_open opened) ∙ sym (settled (kept.was_open (rolled.was_open opened)));
        committed = λ opened. (rolled.undone opened).1 ∙ kept.committed (rolled.was_open opened);
      }) (ended.undone clean inside)

  pub one_called : Called (record { conn = old; refused = x.refused; made = x.made; limit = x.limit }) (record { conn = new; refused = z.refused; made = z.made; limit = z.limit }) r
  one_called = record {
    named = ended.named;
    counted = on_err r (subst (λ n. Rises n z.refused) wrote.ok) ended.counted;
    uncounted = on_ok r (λ e. e ∙ wrote.ok) ended.ok;
    limit = spends_both x.made y.made z.made x.limit y.limit z.limit wrote.limit ended.limit;
    allowed = on_ok r (λ some none. some (none_after x.made y.made x.limit y.limit wrote.limit none)) ended.allowed;
  }
