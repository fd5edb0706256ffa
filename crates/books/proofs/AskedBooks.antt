-- What asking a book's tables leaves of the book, and what opening makes of them.
use Rattle.std.proofs.Common.{◌≡◌, ◌≤◌, inl, inr, ℕ, List, Bool, true, false, Result, Ok, Err, IfErr, length, refl, sym, subst, ◌∙◌}
use Rattle.sqlite.specs.Tree.{Trees}
use Rattle.sqlite.specs.State.{State, HasCleanDisk}
use Rattle.definitions.specs.Header.{Who}
use Rattle.definitions.specs.Register.{Entry}
use Rattle.store.specs.Fault.{Fault}
use Rattle.store.specs.Standing.{IsUnchanged, IsUsable, IsReading, IsQuery, IsQueryFault}
use Rattle.book_statements.specs.Asking.{IsAsked, IsAskFault}
use Rattle.book_statements.specs.Exits.{StandsWhileOpen}
use Rattle.books.specs.Keeping.{IsKept, IsSettled, standing_in}
use Rattle.book_tables.proofs.AskedLater.{stands_later}

-- no more is left than was
no_new : (old new : State) → HasCleanDisk new → IsAsked old new → (db : Trees) → new.may_leave db → old.may_leave db
no_new old new clean asked db may = elim (asked.crash.crash clean db may) [ inl before ↦ before | inr none ↦ absurd none ]

-- a query leaves the book as it was
pub asked_unchanged : (old new : State) (W : Who) (n refused more : ℕ) (shut : Bool) → refused ≤ more → IsAsked old new → IsUnchanged (standing_in old W n refused shut) (standing_in new W n more shut)
asked_unchanged old new W n refused more shut grew asked = record {
  goes = record { warehouse = refl; doubt = asked.crash.clean; refusals = grew };
  shut = refl;
  keeps = λ clean L k. record { count = k.count; stands = stands_later old new W L clean asked k.stands };
  stand = λ clean L k was db may. was db (no_new old new clean asked db may);
  no_more = λ clean L k M left. (left.0, no_new old new clean asked left.0 left.1, left.2);
}

-- why a query of the tables failed is why that of the book did
asked_fault_at : (f : Fault) (old new : State) (W : Who) (n refused more : ℕ) (shut : Bool) → IsAskFault f old new refused more → IsQueryFault f (standing_in old W n refused shut) (standing_in new W n more shut)
asked_fault_at f old new W n refused more shut h = record {
  store = λ is. let rises = h.store is in rises.grew;
  reopen = λ is. absurd (h.reopen is);
  not_this = λ is clean L k. h.not_this is clean W L k.stands;
  device = h.device;
}

-- why asking the tables failed is why asking the book did
asked_faults : {T : Type 0} (r : Result T Fault) (old new : State) (W : Who) (n refused more : ℕ) (shut : Bool) → IfErr r (λ f. IsAskFault f old new refused more)
    → IfErr r (λ f. IsQueryFault f (standing_in old W n refused shut) (standing_in new W n more shut))
asked_faults (Ok x) old new W n refused more shut h = tt
asked_faults (Err f) old new W n refused more shut h = asked_fault_at f old new W n refused more shut h

-- what such a query of the tables leaves of the book, and why it failed
pub asked_reading : {T : Type 0} (r : Result T Fault) (old new : State) (W : Who) (n refused more : ℕ) (shut : Bool) → refused ≤ more → IsAsked old new
    → IfErr r (λ f. IsAskFault f old new refused more) → IsReading (standing_in old W n refused shut) (standing_in new W n more shut) r
asked_reading r old new W n refused more shut grew asked fault =
    record { same = asked_unchanged old new W n refused more shut grew asked; fault = asked_faults r old new W n refused more shut fault }

-- the same of a book that needn't be opened again
pub asked_query : {T : Type 0} (r : Result T Fault) (old new : State) (W : Who) (n refused more : ℕ) (shut : Bool) → shut ≡ false → refused ≤ more → IsAsked old new
    → IfErr r (λ f. IsAskFault f old new refused more) → IsQuery (standing_in old W n refused shut) (standing_in new W n more shut) r
asked_query r old new W n refused more shut open' grew asked fault =
    record { reading = asked_reading r old new W n refused more shut grew asked fault; shut = λ is. absurd (let e : ◌≡◌ {A = Bool} true false = sym is ∙ open' in cc) }

-- Opening.

pub opened_kept : (old new : State) (W : Who) (n : ℕ) (L : List Entry) → HasCleanDisk new → IsAsked old new → n ≡ length L → StandsWhileOpen old W L → IsKept new W n L
opened_kept old new W n L clean asked count was =
    record { count = count; stands = stands_later old new W L clean asked was }

pub opened_usable : (old new : State) (W : Who) (n refused : ℕ) (L : List Entry) → HasCleanDisk new → IsAsked old new → n ≡ length L → (house : Who) → house ≡ W → IsSettled old W L → IsUsable (standing_in new house n refused false) L
opened_usable old new W n refused L clean asked count house same was =
    subst (λ (V : Who). IsUsable (standing_in new V n refused false) L) (sym same) (record {
      opened = refl;
      legal = was.legal;
      keeps = opened_kept old new W n L clean asked count was.stands;
      stand = λ db may. was.stand db (no_new old new clean asked db may);
      only = λ M left. was.only M (left.0, no_new old new clean asked left.0 left.1, left.2);
    })
