-- A number leads back to the fault, or to the refusal, whose it is.
use Rattle.std.specs.Prelude.{◌≡◌, false, Some}
use Rattle.std.proofs.Common.{refl}
use Rattle.definitions.specs.Refusals.{Refusal, Unreadable, Note, Duplicate, UnknownDepositor, TicketUsed, UnknownAdvice, AdviceClosed, UnknownOrder, OrderClosed, NotReserved, UnknownLot, BelowReserved, NoDifference, TooMuch, RepeatedLine, BadText, TooManyLines, NumbersUsedUp, AlreadyEnrolled, Fault, OutOfMemory, Store, Reopen, NotThisBook, Device, is_note, refusal_number, refusal_numbered, fault_number, fault_numbered}

pub refusal_back : (r : Refusal) → is_note r ≡ false → refusal_numbered (refusal_number r) ≡ Some r
refusal_back Unreadable h = refl
refusal_back (Note code) h = absurd (cc)
refusal_back Duplicate h = refl
refusal_back UnknownDepositor h = refl
refusal_back TicketUsed h = refl
refusal_back UnknownAdvice h = refl
refusal_back AdviceClosed h = refl
refusal_back UnknownOrder h = refl
refusal_back OrderClosed h = refl
refusal_back NotReserved h = refl
refusal_back UnknownLot h = refl
refusal_back BelowReserved h = refl
refusal_back NoDifference h = refl
refusal_back TooMuch h = refl
refusal_back RepeatedLine h = refl
refusal_back BadText h = refl
refusal_back TooManyLines h = refl
refusal_back NumbersUsedUp h = refl
refusal_back AlreadyEnrolled h = refl

pub fault_back : (f : Fault) → fault_numbered (fault_number f) ≡ Some f
fault_back OutOfMemory = refl
fault_back Store = refl
fault_back Reopen = refl
fault_back NotThisBook = refl
fault_back Device = refl
