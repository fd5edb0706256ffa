-- What is opened where a process stopped, and what commands come to on both sides of a stop.
use Rattle.std.specs.Prelude.{◌≡◌, ◌⊎◌, ℕ, ◌+◌, true, false, List, length, map, take, slice_get, Some, ◌<◌}
use Rattle.sqlite.specs.Tree.{Trees}
use Rattle.definitions.specs.Rules.{Today}
use Rattle.definitions.specs.Header.{Who}
use Rattle.definitions.specs.Moments.{Moment}
use Rattle.definitions.specs.Register.{Command, Entry}
use Rattle.definitions.specs.Accepted.{accepted_on, replies_on}
use Rattle.definitions.specs.Reply.{Accepted, Stored}
use Rattle.store.specs.Again.{is_enrolment}
use Rattle.store.specs.Runs.{told}
use Rattle.store.specs.Standing.{Standing, IsUsable, LeavesEither, GoesOn}
use Rattle.store.specs.Fault.{Fault}
use Rattle.store.specs.declared.serving.Outcome.{Outcome}
use Rattle.book_statements.specs.Faults.{IsCallFault}
use Rattle.book_statements.specs.Standing.{StandsIn}
use Rattle.app.specs.StopFaults.{MayBeThere}
use Rattle.app.specs.declared.stops.answering.Answered.{Answered}

-- the book is of the same warehouse, and usable for a register that a crash might leave
pub record IsReopened (old new : Standing) : Type 0 where
  pub warehouse : new.warehouse ≡ old.warehouse
  pub register : List Entry
  pub left : old.left register
  pub usable : IsUsable new register

-- Commands were answered on the register L, up to a fault. The book serves on their register; or,
-- only where the fault was 40 or 41, it has to be opened again, and a crash leaves that register,
-- or it with the next command's entry.
pub record Runs
    (old new : Standing) (L : List Entry) (given : List (Command × Moment)) (o : Outcome)
    : Type 0 where
  pub goes : GoesOn old new
  pub answered : new.doubt ≡ 0
      → map told o.replies.items
      ≡ replies_on Today old.warehouse L (take (length o.replies.items) given)
  pub opened : new.doubt ≡ 0 → new.shut ≡ false
      → IsUsable new (accepted_on Today old.warehouse L (take (length o.replies.items) given))
  pub broken : new.doubt ≡ 0 → new.shut ≡ true → MayBeThere o.fault
      × LeavesEither new (accepted_on Today old.warehouse L (take (length o.replies.items) given))
      (accepted_on Today old.warehouse L (take (length o.replies.items + 1) given))

-- Commands were answered on the register L, up to a fault, and the stop after them left the
-- register M. So many of them count: those that were answered, and perhaps the next, but only where
-- the book had to be opened again, which it has to at 40 and 41 alone.
pub record IsAnsweredUpTo
    (W : Who) (L : List Entry) (given : List (Command × Moment)) (before : Answered)
    (M : List Entry) : Type 0 where
  pub replies : map told before.outcome.replies.items
      ≡ replies_on Today W L (take (length before.outcome.replies.items) given)
  pub broken : before.must_reopen ≡ true → MayBeThere before.outcome.fault
  pub kept : ℕ
  pub which : (kept ≡ length before.outcome.replies.items)
      ⊎ ((before.must_reopen ≡ true) × MayBeThere before.outcome.fault
      × (kept ≡ length before.outcome.replies.items + 1))
  pub left : M ≡ accepted_on Today W L (take kept given)

-- The first commands were answered on the register L, and the second ones are answered on the one
-- that the stop between them left.
pub record Crosses
    (old new : Standing) (L : List Entry) (first second : List (Command × Moment))
    (before : Answered) (later : Outcome) : Type 0 where
  pub register : List Entry
  pub answered : IsAnsweredUpTo old.warehouse L first before register
  pub warehouse : new.warehouse ≡ old.warehouse
  pub replies : map told later.replies.items
      ≡ replies_on Today old.warehouse register (take (length later.replies.items) second)
  pub opened : new.shut ≡ false
      → IsUsable new (accepted_on Today old.warehouse register
      (take (length later.replies.items) second))
  pub broken : new.shut ≡ true → MayBeThere later.fault × LeavesEither new
      (accepted_on Today old.warehouse register (take (length later.replies.items) second))
      (accepted_on Today old.warehouse register (take (length later.replies.items + 1) second))

-- The commands were answered on the register L, and the book was not opened after the stop, for 40
-- or 41. Whatever is left of its store stands for the register that the stop after them left.
pub record Waits
    (W : Who) (L : List Entry) (given : List (Command × Moment)) (before : Answered) (fault : Fault)
    (left : Trees → Type 0) : Type 0 where
  pub called : IsCallFault fault
  pub replies : map told before.outcome.replies.items
      ≡ replies_on Today W L (take (length before.outcome.replies.items) given)
  pub stands : (db : Trees) → left db → (M : List Entry) × StandsIn W M db
      × IsAnsweredUpTo W L given before M

-- An interchange or an act that was accepted by its reply, and is given again after the stop, is
-- answered by the same text.
abbrev pub StoresAgain : List (Command × Moment) → List (Command × Moment) → Answered → Outcome
    → Type 0
StoresAgain first second before later =
    (i j : ℕ) (c : Command) (t s : Moment) (text : List ℕ) → is_enrolment c ≡ false
    → slice_get first i ≡ Some (c, t)
    → slice_get (map told before.outcome.replies.items) i ≡ Some (Accepted text)
    → slice_get second j ≡ Some (c, s) → j < length later.replies.items
    → slice_get (map told later.replies.items) j ≡ Some (Stored text)
