-- Writes inside a transaction, one after another.
use Rattle.std.proofs.Common.{◌≡◌, ◌∙◌, inl, inr, Result, Ok, Err, OnErr, arith, refl, sym, subst}
use Rattle.std.specs.Prelude.{IsErrAnd}
use Rattle.sqlite.specs.State.{State, HasCleanDisk, Survives}
use Rattle.sqlite.proofs.StateLemmas.{survives_then}
use Rattle.store.specs.Fault.{Fault}
use Rattle.store.specs.Fault.TheVariants.{Store}
use Rattle.book_statements.specs.declared.calls.Calls.{Calls}
use Rattle.book_statements.specs.Faults.{IsCallFault}
use Rattle.book_statements.specs.Limits.{Spends}
use Rattle.book_statements.specs.Rises.{Rises}
use Rattle.book_statements.specs.Writing.{Wrote}
use Rattle.book_statements.proofs.Limited.{spends_none, spends_both}
use Rattle.book_statements.proofs.StepLemmas.{on_ok, same_keeps}

pub on_err : {T E : Type 0} {A B : Type 0} (r : Result T E) → (A → B) → OnErr r A → OnErr r B
on_err (Ok x) f h = tt
on_err (Err e) f h = f h

pub same_survives : (s : State) → Survives s s (λ _. ⊥)
same_survives s = record {
  clean = omega arith;
  shield = λ h. h;
  counts = omega arith;
  limit = refl;
  closes = λ clean h. inl h;
  crash = λ clean db may. inl may;
}

-- a write says also what follows from it
pub wrote_as : {T : Type 0} {A B : Type 0} (old new : State) (x y : Calls) (r : Result T Fault) → Wrote A old new x y r → (A → B) → Wrote B old new x y r
wrote_as old new x y r w f = record {
  done = λ clean inside. on_ok r f (w.done clean inside);
  inside = w.inside;
  kept = w.kept;
  survives = w.survives;
  ok = w.ok;
  counted = w.counted;
  limit = w.limit;
  named = w.named;
}

-- what hasn't written yet
pub wrote_nothing : {T : Type 0} {A : Type 0} (s : State) (x : Calls) (t : T) → A → Wrote A s s x x (Ok t)
wrote_nothing s x t a = record {
  done = λ clean inside. a;
  inside = λ clean inside. inside;
  kept = λ clean. same_keeps s s refl;
  survives = same_survives s;
  ok = refl;
  counted = tt;
  limit = spends_none x.made x.limit;
  named = tt;
}

-- a call that was refused unmade
pub wrote_refused : {T : Type 0} {A : Type 0} (s : State) (x y : Calls) (f : Fault) → f ≡ Store → Rises x.refused y.refused → Spends x.made y.made x.limit y.limit
    → Wrote {T = T} A s s x y (Err f)
wrote_refused s x y f is rises limit = record {
  done = λ clean inside. tt;
  inside = λ clean inside. tt;
  kept = λ clean. same_keeps s s refl;
  survives = same_survives s;
  ok = tt;
  counted = rises;
  limit = limit;
  named = inr is;
}

-- one write after another
pub wrote_on : {T U : Type 0} {A B C : Type 0} (a b c : State) (x y z : Calls) (u : U) (r : Result T Fault)
    → Wrote A a b x y (Ok u) → Wrote B b c y z r → (A → B → C) → Wrote C a c x z r
wrote_on a b c x y z u r one two f = record {
  done = λ clean inside.
      let early : HasCleanDisk b = omega (arith, two.survives.clean, clean) in
      on_ok r (f (one.done early inside)) (two.done clean (one.inside early inside));
  inside = λ clean inside.
      let early : HasCleanDisk b = omega (arith, two.survives.clean, clean) in
      two.inside clean (one.inside early inside);
  kept = λ clean.
      let early : HasCleanDisk b = omega (arith, two.survives.clean, clean) in
      let first = one.kept early in
      let second = two.kept clean in
      record { was_open = λ h. first.was_open (second.was_open h); committed = λ h. second.committed h ∙ first.committed (second.was_open h) };
  survives = survives_then a b c _ _ _ (λ _ db none. none) (λ _ db none. none) one.survives two.survives;
  ok = on_ok r (λ e. e ∙ one.ok) two.ok;
  counted = on_err r (subst (λ n. Rises n z.refused) one.ok) two.counted;
  limit = spends_both x.made y.made z.made x.limit y.limit z.limit one.limit two.limit;
  named = two.named;
}

pub wrote_both : {T U : Type 0} {A B : Type 0} (a b c : State) (x y z : Calls) (u : U) (r : Result T Fault)
    → Wrote A a b x y (Ok u) → Wrote B b c y z r → Wrote (A × B) a c x z r
wrote_both a b c x y z u r one two = wrote_on a b c x y z u r one two (λ p q. (p, q))

-- an error that is handed on
pub wrote_failed : {T U : Type 0} {A B : Type 0} (a b : State) (x y : Calls) (f : Fault) (r : Result U Fault) → IsErrAnd r (λ g. g ≡ f) → Wrote {T = T} A a b x y (Err f) → Wrote B a b x y r
wrote_failed a b x y f (Ok v) is w = absurd is
wrote_failed a b x y f (Err g) is w = record {
  done = λ clean inside. tt;
  inside = λ clean inside. tt;
  kept = w.kept;
  survives = w.survives;
  ok = tt;
  counted = w.counted;
  limit = w.limit;
  named = subst IsCallFault (sym is) w.named;
}
