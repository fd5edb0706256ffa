-- A store that was rolled back, and isn't broken, is as one that was just opened.
use Rattle.std.proofs.Common.{◌≡◌, inl, inr, false, sym, subst, ◌∙◌, IsTrue, Result, Ok, Err, IfOk, IfErr}
use Rattle.std.proofs.lemmas.Bool.{true_from_ne_false, both_ways}
use Rattle.sqlite.specs.declared.error.Error.{Error}
use Rattle.sqlite.specs.Steps.{FailsToOpen, IsFresh}
use Rattle.sqlite.specs.Tree.{Trees}
use Rattle.sqlite_rules.specs.Calls.{Excuses}
use Rattle.sqlite_trees.specs.declared.error.StoreError.{StoreError}
use Rattle.sqlite_trees.specs.declared.error.StoreError.TheVariants.{OutOfMemory, Io, Corrupt, Full, Broken, Unstorable}
use Rattle.sqlite_trees.specs.View.{View, IsClean, IsRolledBack}

pub still_open : (v : View) → (v.is_open ≡ false → IsTrue v.is_broken) → v.is_broken ≡ false → IsTrue v.is_open
still_open v shut sound = true_from_ne_false _ (λ closed. both_ways _ sound (shut closed))

pub rolled_back : (old new : View) → IsRolledBack old new → IsTrue new.is_numbered → IsClean new → (new.is_open ≡ false → IsTrue new.is_broken) → new.is_broken ≡ false → IsFresh new
rolled_back old new undone numbered clean shut sound =
    let shows = still_open new shut sound in
    let kept = undone.kept clean in
    record { sound = sound; numbered = numbered; clean = (undone.undone shows).0 ∙ sym (kept.committed shows); unmarked = kept.marks shows }

-- two things that are told in Ok, and what they tell together
pub ok_both : {T E : Type 0} {P Q R : T → Type 0} (r : Result T E) → ((t : T) → P t → Q t → R t) → IfOk r P → IfOk r Q → IfOk r R
ok_both (Ok t) f p q = f t p q
ok_both (Err e) f p q = tt

pub ok_three : {T E : Type 0} {P Q R U : T → Type 0} (r : Result T E) → ((t : T) → P t → Q t → R t → U t) → IfOk r P → IfOk r Q → IfOk r R → IfOk r U
ok_three (Ok t) f p q r = f t p q r
ok_three (Err e) f p q r = tt

-- two things that are told in Err
pub err_both : {T E : Type 0} {P Q R : E → Type 0} (r : Result T E) → ((e : E) → P e → Q e → R e) → IfErr r P → IfErr r Q → IfErr r R
err_both (Ok t) f p q = tt
err_both (Err e) f p q = f e p q

-- what excuses a failure, where more does
excused_by_more : (some more : Type 0) (cause : StoreError) → (some → more) → Excuses some ⊥ cause → Excuses more ⊥ cause
excused_by_more some more OutOfMemory f h = h
excused_by_more some more Io f h = f h
excused_by_more some more Corrupt f h = f h
excused_by_more some more Full f h = f h
excused_by_more some more Broken f h = h
excused_by_more some more Unstorable f h = h

-- why the trees of a store weren't opened is why these weren't, which are the same
pub fails_as : (old new : Trees) (some more : Type 0) (e : Error) → new ≡ old → (some → more) → FailsToOpen new some e → FailsToOpen old more e
fails_as old new some more e same f why = subst (λ (t : Trees). FailsToOpen t more e) same (elim why [
  | inl none ↦ inl none
  | inr fault ↦ inr (fault.0, fault.1, excused_by_more some more fault.0 f fault.2)
])
