-- No shipment number is announced twice and no order number ordered twice: an advice or an order is
-- only added where no earlier one has its number.
use Rattle.std.proofs.Common.{◌≡◌, ℕ, ◌+◌, Bool, true, false, List, [], ◌∷◌, ◌++◌, ◌⊎◌, Option, Some, None, Ok, Err, refl, sym, ap, ◌∙◌, subst, inl, inr, append_assoc, append-nil}
use Rattle.std.specs.Prelude.{Result, bytes_eq, fold, if◌then◌else◌}
use Rattle.definitions.specs.declared.rules.Rules.{Rules}
use Rattle.definitions.specs.Lists.{first_found}
use Rattle.definitions.specs.Means.{Advice}
use Rattle.definitions.specs.Events.{Event, Enrolment, Advised, Ordered, Acknowledged, Counted, Picked, Recounted, advice_if, advice_under, Reserved, order_if, order_under}
use Rattle.definitions.specs.declared.refusals.Refusal.{Refusal}
use Rattle.definitions.specs.Clerk.{performed}
use Rattle.definitions.specs.Register.{Act, Count, Pick, Recount, Deed, Enrolled, Received, Performed, Entry}
use Rattle.definitions.specs.History.{History, after_entry, events, events_added}
use Rattle.definitions.proofs.TextLaws.{text_is}
use Rattle.rules.specs.Played.{no_history}
use Rattle.rules.proofs.Plays.{added_of}
use Rattle.set_effects.proofs.Added.{IsOfSet, AreOfSets, IsOfAct, of_received, of_performed}
use Rattle.set_effects.proofs.KeyedLists.{Once, once_more}

-- what a set's event has only where no earlier event has it, and no other event
pub record IsNew {Y : Type 0} (f : Event → Option Y) : Type 0 where
  pub enrolment : f Enrolment ≡ None
  pub set : (es : List Event) (n : ℕ) (e : Event) → IsOfSet es n e → (f e ≡ None) ⊎ (first_found f es ≡ None)
  pub act : (es : List Event) (n : ℕ) (act : Act) (e : Event) → IsOfAct es n act e → f e ≡ None

once_sets : {Y : Type 0} (f : Event → Option Y) → IsNew f → (es : List Event) (n : ℕ) (fs : List Event) → AreOfSets es n fs → Once f es → Once f (es ++ fs)
once_sets f new es n [] h o = subst (Once f) (sym (append-nil es)) o
once_sets f new es n (e ∷ fs) h o =
    subst (Once f) (append_assoc es (e ∷ []) fs) (once_sets f new (es ++ e ∷ []) n fs h.1 (once_more f es e o (new.set es n e h.0)))

once_added : {Y : Type 0} (f : Event → Option Y) → IsNew f → (r : Rules) (es : List Event) (n : ℕ) (d : Deed) → Once f es → Once f (es ++ events_added r es n d)
once_added f new r es n Enrolled o = once_more f es Enrolment o (inl new.enrolment)
once_added f new r es n (Received text) o = once_sets f new es n (events_added r es n (Received text)) (of_received r es n text) o
once_added f new r es n (Performed ticket act) o = by (performed es n act) refl
  where
    by : (done : Result Event Refusal) → performed es n act ≡ done → Once f (es ++ added_of done)
    by (Ok e) h = once_more f es e o (inl (new.act es n act e (of_performed es n act e h)))
    by (Err refusal) h = subst (Once f) (sym (append-nil es)) o

once_from : {Y : Type 0} (f : Event → Option Y) → IsNew f → (h : History) (M : List Entry) → Once f h.events → Once f (fold after_entry h M).events
once_from f new h [] o = o
once_from f new h (e ∷ M) o = once_from f new (after_entry h e) M (once_added f new e.rules h.events (h.numbered + 1) e.deed o)

-- Advices and orders.

same_advice : (es : List Event) (s : List ℕ) (a : Advice) (b : Bool) → bytes_eq a.shipment s ≡ b → advice_under a.shipment es ≡ None
    → ((if b then Some a else None) ≡ None) ⊎ (advice_under s es ≡ None)
same_advice es s a true e h = inr (ap (λ (t : List ℕ). advice_under t es) (sym (text_is a.shipment s e)) ∙ h)
same_advice es s a false e h = inl refl

advice_new : (s : List ℕ) (es : List Event) (n : ℕ) (e : Event) → IsOfSet es n e → (advice_if s e ≡ None) ⊎ (advice_under s es ≡ None)
advice_new s es n Enrolment h = absurd h
advice_new s es n (Advised a) h = same_advice es s a (bytes_eq a.shipment s) refl h
advice_new s es n (Ordered o shares) h = inl refl
advice_new s es n (Acknowledged m a) h = inl refl
advice_new s es n (Counted m a sheet) h = absurd h
advice_new s es n (Picked m o shares sheet) h = absurd h
advice_new s es n (Recounted m before sheet) h = absurd h

advice_acts : (s : List ℕ) (es : List Event) (n : ℕ) (act : Act) (e : Event) → IsOfAct es n act e → advice_if s e ≡ None
advice_acts s es n (Count shipment sheet) e h = ap (advice_if s) h.3
advice_acts s es n (Pick number sheet) e h = ap (advice_if s) h.3
advice_acts s es n (Recount sheet) e h = ap (advice_if s) h

same_order : (es : List Event) (s : List ℕ) (r : Reserved) (b : Bool) → bytes_eq r.order.number s ≡ b → order_under r.order.number es ≡ None
    → ((if b then Some r else None) ≡ None) ⊎ (order_under s es ≡ None)
same_order es s r true e h = inr (ap (λ (t : List ℕ). order_under t es) (sym (text_is r.order.number s e)) ∙ h)
same_order es s r false e h = inl refl

order_new : (s : List ℕ) (es : List Event) (n : ℕ) (e : Event) → IsOfSet es n e → (order_if s e ≡ None) ⊎ (order_under s es ≡ None)
order_new s es n Enrolment h = absurd h
order_new s es n (Advised a) h = inl refl
order_new s es n (Ordered o shares) h = same_order es s (record { order = o; shares = shares }) (bytes_eq o.number s) refl h
order_new s es n (Acknowledged m a) h = inl refl
order_new s es n (Counted m a sheet) h = absurd h
order_new s es n (Picked m o shares sheet) h = absurd h
order_new s es n (Recounted m before sheet) h = absurd h

order_acts : (s : List ℕ) (es : List Event) (n : ℕ) (act : Act) (e : Event) → IsOfAct es n act e → order_if s e ≡ None
order_acts s es n (Count shipment sheet) e h = ap (order_if s) h.3
order_acts s es n (Pick number sheet) e h = ap (order_if s) h.3
order_acts s es n (Recount sheet) e h = ap (order_if s) h

-- in every history each shipment number is announced at most once
pub advices_once : (M : List Entry) (s : List ℕ) → Once (advice_if s) (events M)
advices_once M s = once_from (advice_if s) (record { enrolment = refl; set = advice_new s; act = advice_acts s }) no_history M tt

-- and each order number ordered at most once
pub orders_once : (M : List Entry) (s : List ℕ) → Once (order_if s) (events M)
orders_once M s = once_from (order_if s) (record { enrolment = refl; set = order_new s; act = order_acts s }) no_history M tt
