-- What a run of commands leaves of a book that is stopped after it.
use Rattle.std.proofs.Common.{◌≡◌, inl, inr, ◌+◌, Bool, true, List, length, refl, sym, subst, ◌∙◌}
use Rattle.std.specs.Prelude.{IsSome, IfSome, Option, Some, None}
use Rattle.std.proofs.lemmas.Bool.{cases_Bool}
use Rattle.sqlite.specs.Held.{state}
use Rattle.sqlite.specs.Store.{Ghosts}
use Rattle.sqlite.specs.Tree.{Trees}
use Rattle.definitions.specs.Header.{Who}
use Rattle.definitions.specs.Moments.{Moment}
use Rattle.definitions.specs.Register.{Command, Entry}
use Rattle.store.specs.Standing.{Standing, IsUsable, IsRunFault}
use Rattle.store.specs.Fault.{Fault}
use Rattle.store.specs.Fault.TheVariants.{OutOfMemory, Store, Reopen, NotThisBook, Device}
use Rattle.store.specs.declared.serving.Outcome.{Outcome}
use Rattle.book_statements.specs.Standing.{StandsIn}
use Rattle.books.specs.Opened.{Opened, standing_of}
use Rattle.app.specs.StopFaults.{MayBeThere}
use Rattle.app.specs.Stopped.{IsAnsweredUpTo, Runs}
use Rattle.app.specs.declared.stops.answering.Answered.{Answered}

-- a fault that shut a book which was usable, in a run of commands that can be given
pub may_be_there : (old new : Standing) (L : List Entry) (given : Bool) (fault : Option Fault) → new.doubt ≡ 0 → IsUsable old L → given ≡ true
    → IfSome fault (λ f. IsRunFault f given old new) → IsSome fault → MayBeThere fault
may_be_there old new L given None clean u g why some = absurd (cc)
may_be_there old new L given (Some OutOfMemory) clean u g why some = inl refl
may_be_there old new L given (Some Store) clean u g why some = inr refl
may_be_there old new L given (Some Reopen) clean u g why some = let was : old.shut ≡ true = why.reopen refl in let is = u.opened in absurd (cc)
may_be_there old new L given (Some NotThisBook) clean u g why some = absurd (why.not_this refl g clean L u.keeps u.legal)
may_be_there old new L given (Some Device) clean u g why some = absurd (why.device refl)

-- whatever a crash leaves of the book stands for a register
pub stands_after : (old new : Standing) (L : List Entry) (cs : List (Command × Moment)) (o : Outcome) → new.doubt ≡ 0 → Runs old new L cs o → new.all_stand
stands_after old new L cs o clean ran = elim (cases_Bool new.shut) [ inl shut ↦ (ran.broken clean shut).1.stand | inr open' ↦ (ran.opened clean open').stand ]

-- and that register is the one of what was answered
pub answered_left : (old new : Standing) (L : List Entry) (cs : List (Command × Moment)) (before : Answered) → new.doubt ≡ 0 → before.must_reopen ≡ new.shut → Runs old new L cs before.outcome
    → (M : List Entry) → new.left M → IsAnsweredUpTo old.warehouse L cs before M
answered_left old new L cs before clean told ran M left =
    let n = length before.outcome.replies.items in
    let broken : before.must_reopen ≡ true → MayBeThere before.outcome.fault = λ must. (ran.broken clean (sym told ∙ must)).0 in
    elim (cases_Bool new.shut) [
      | inl shut ↦ (
          let b = ran.broken clean shut in
          elim (b.1.each M left) [
            | inl is ↦ record { replies = ran.answered clean; broken = broken; kept = n; which = inl refl; left = is }
            | inr is ↦ record { replies = ran.answered clean; broken = broken; kept = n + 1; which = inr (told ∙ shut, b.0, refl); left = is }
          ])
      | inr open' ↦ (
          let u = ran.opened clean open' in
          record { replies = ran.answered clean; broken = broken; kept = n; which = inl refl; left = u.only M left })
    ]

-- so do the trees that are left
pub left_of_run : {S : Type 0} (g : Ghosts S) (old new : Opened S) (L : List Entry) (cs : List (Command × Moment)) (before : Answered) → (standing_of g new).doubt ≡ 0 → before.must_reopen ≡ new.shut
    → Runs (standing_of g old) (standing_of g new) L cs before.outcome
    → (db : Trees) → (state g new.tables.conn).may_leave db → (M : List Entry) × StandsIn old.warehouse M db × IsAnsweredUpTo old.warehouse L cs before M
left_of_run g old new L cs before clean told ran db may =
    let there = stands_after (standing_of g old) (standing_of g new) L cs before.outcome clean ran db may in
    let same : new.warehouse ≡ old.warehouse = ran.goes.warehouse in
    (there.0, subst (λ (V : Who). StandsIn V there.0 db) same there.1, answered_left (standing_of g old) (standing_of g new) L cs before clean told ran there.0 (db, may, there.1))
