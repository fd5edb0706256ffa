-- What a stop leaves after a command, and the status of several.
use Rattle.std.proofs.Common.{◌≡◌, ◌∙◌, sym, refl, ap, subst, ℕ, Bool, true, false, List, ◌∷◌, ◌++◌, [], Option, inr, Result, Ok, Err, IfErr, OnErr}
use Rattle.std.specs.Prelude.{if◌then◌else◌, ◌||◌}
use Rattle.std.specs.List.{list_any}
use Rattle.std.proofs.lemmas.List.Folds.{list_any-append}
use Rattle.definitions.specs.Rules.{Today}
use Rattle.definitions.specs.Accepted.{after, reply_to}
use Rattle.definitions.specs.Moments.{Moment}
use Rattle.definitions.specs.Register.{Entry, Command}
use Rattle.definitions.specs.Reply as replies
use Rattle.store.specs.Standing.{Standing, IsUsable, LeavesEither, OfKept, OfUsable}
use Rattle.commands.specs.Enrolling as listed
use Rattle.commands.specs.Printing.{AppendsFront}
use Rattle.commands.specs.Statuses.{and_then}
use Rattle.commands.specs.Stops.{IsDeviceStop, IsStopped}
use Rattle.commands.specs.Telling as told
use Rattle.commands.specs.declared.told.CommandError.{CommandError}
use Rattle.commands.specs.declared.told.ExitStatus.{ExitStatus}
use Rattle.commands.specs.declared.told.ExitStatus.TheVariants.{Done, Refused}

-- of a book that serves, the second
pub leaves_second : (s : Standing) (L next : List Entry) → IsUsable s next → LeavesEither s L next
leaves_second s L next u = record { stand = u.stand; each = λ M h. inr (u.only M h) }

-- of a command that was answered so: what couldn't be told
pub untold : {T : Type 0} (old new : Standing) (c : Command) (t : Moment) (shown : replies.Reply → List ℕ) (before later : Option (List ℕ)) (reply : replies.Reply) (r : Result T CommandError) → new.shut ≡ false
    → OfUsable old new (λ L. IsUsable new (after Today old.warehouse L (c, t))) → OfKept old new (λ L. reply ≡ reply_to Today old.warehouse L c t) → OnErr r (AppendsFront before later (shown reply))
    → IfErr r IsDeviceStop → IfErr r (IsStopped old new c t shown before later)
untold old new c t shown before later reply (Ok x) opened done is front why = tt
untold old new c t shown before later reply (Err e) opened done is front why = inr (record {
  opened = opened;
  done = done;
  printed = λ clean L kept legal. subst (λ (k : replies.Reply). AppendsFront before later (shown k)) (is clean L kept legal) front;
  why = why;
})

-- One more, which is refused or not.

done_more : (b : Bool) → ◌≡◌ {A = ExitStatus} (if b then Refused else Done) (if b || false then Refused else Done)
done_more true = refl
done_more false = refl

refused_more : (b : Bool) → ◌≡◌ {A = ExitStatus} Refused (if b || true then Refused else Done)
refused_more true = refl
refused_more false = refl

status_as : (a b : Bool) → a ≡ b → ◌≡◌ {A = ExitStatus} (if a then Refused else Done) (if b then Refused else Done)
status_as a b e = ap (λ (k : Bool). if k then Refused else Done) e

pub reply_more : (rs : List replies.Reply) (r : replies.Reply) → and_then (listed.status_of_replies rs) (told.status_of r) ≡ listed.status_of_replies (rs ++ r ∷ [])
reply_more rs (replies.Accepted text) = done_more (list_any listed.was_refused rs) ∙ status_as _ _ (sym (list_any-append listed.was_refused rs (replies.Accepted text ∷ [])))
reply_more rs (replies.Stored text) = done_more (list_any listed.was_refused rs) ∙ status_as _ _ (sym (list_any-append listed.was_refused rs (replies.Stored text ∷ [])))
reply_more rs (replies.Refused why text) = refused_more (list_any listed.was_refused rs) ∙ status_as _ _ (sym (list_any-append listed.was_refused rs (replies.Refused why text ∷ [])))
