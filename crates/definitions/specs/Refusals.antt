-- Refusals and faults, with their numbers and names.
use Rattle.std.specs.Prelude.{ℕ, Bool, true, false, ◌==◌, List, ◌++◌, Option, find, codes, decimal}
use Rattle.definitions.specs.declared.widths.TheConstants.{NOTE_DIGITS}
use Rattle.definitions.specs.declared.refusals.TheConstants.{NUMBERED}
use Rattle.definitions.specs.declared.fault.TheConstants.{FAULTS}
use Rattle.definitions.specs.Bytes.{zero_filled}
pub use Rattle.definitions.specs.declared.refusals.Refusal.{Refusal}
pub use Rattle.definitions.specs.declared.refusals.Refusal.TheVariants.{Unreadable, Note, Duplicate, UnknownDepositor, TicketUsed, UnknownAdvice, AdviceClosed, UnknownOrder, OrderClosed, NotReserved, UnknownLot, BelowReserved, NoDifference, TooMuch, RepeatedLine, BadText, TooManyLines, NumbersUsedUp, AlreadyEnrolled}
pub use Rattle.definitions.specs.declared.fault.Fault.{Fault}
pub use Rattle.definitions.specs.declared.fault.Fault.TheVariants.{OutOfMemory, Store, Reopen, NotThisBook, Device}

abbrev pub refusal_number : Refusal → ℕ
refusal_number Unreadable = 1
refusal_number (Note code) = 2
refusal_number Duplicate = 3
refusal_number UnknownDepositor = 20
refusal_number TicketUsed = 21
refusal_number UnknownAdvice = 22
refusal_number AdviceClosed = 23
refusal_number UnknownOrder = 24
refusal_number OrderClosed = 25
refusal_number NotReserved = 26
refusal_number UnknownLot = 27
refusal_number BelowReserved = 28
refusal_number NoDifference = 29
refusal_number TooMuch = 30
refusal_number RepeatedLine = 31
refusal_number BadText = 32
refusal_number TooManyLines = 33
refusal_number NumbersUsedUp = 34
refusal_number AlreadyEnrolled = 35

-- the refusal that is told by this number
abbrev pub refusal_numbered : ℕ → Option Refusal
refusal_numbered n = find (λ r. refusal_number r == n) NUMBERED

-- a note is told by an interchange, which has its code
abbrev pub is_note : Refusal → Bool
is_note (Note code) = true
is_note r = false

abbrev pub refusal_name : Refusal → List ℕ
refusal_name Unreadable = codes "Unreadable"
refusal_name (Note code) = codes "Note(" ++ zero_filled NOTE_DIGITS code ++ codes ")"
refusal_name Duplicate = codes "Duplicate"
refusal_name UnknownDepositor = codes "UnknownDepositor"
refusal_name TicketUsed = codes "TicketUsed"
refusal_name UnknownAdvice = codes "UnknownAdvice"
refusal_name AdviceClosed = codes "AdviceClosed"
refusal_name UnknownOrder = codes "UnknownOrder"
refusal_name OrderClosed = codes "OrderClosed"
refusal_name NotReserved = codes "NotReserved"
refusal_name UnknownLot = codes "UnknownLot"
refusal_name BelowReserved = codes "BelowReserved"
refusal_name NoDifference = codes "NoDifference"
refusal_name TooMuch = codes "TooMuch"
refusal_name RepeatedLine = codes "RepeatedLine"
refusal_name BadText = codes "BadText"
refusal_name TooManyLines = codes "TooManyLines"
refusal_name NumbersUsedUp = codes "NumbersUsedUp"
refusal_name AlreadyEnrolled = codes "AlreadyEnrolled"

abbrev pub fault_number : Fault → ℕ
fault_number OutOfMemory = 40
fault_number Store = 41
fault_number Reopen = 42
fault_number NotThisBook = 43
fault_number Device = 44

abbrev pub fault_numbered : ℕ → Option Fault
fault_numbered n = find (λ f. fault_number f == n) FAULTS

abbrev pub fault_name : Fault → List ℕ
fault_name OutOfMemory = codes "OutOfMemory"
fault_name Store = codes "Store"
fault_name Reopen = codes "Reopen"
fault_name NotThisBook = codes "NotThisBook"
fault_name Device = codes "Device"

-- the name without a note's code
abbrev pub plain_name : Refusal → List ℕ
plain_name (Note code) = codes "Note"
plain_name r = refusal_name r

-- `NUMBER NAME`
abbrev pub told_refusal : Refusal → List ℕ
told_refusal r = decimal (refusal_number r) ++ codes " " ++ refusal_name r

abbrev pub told_fault : Fault → List ℕ
told_fault f = decimal (fault_number f) ++ codes " " ++ fault_name f

-- number and name, written out; those of a note and of a duplicate stand in the interchange that
-- answers them
abbrev pub refusal_line : Refusal → List ℕ
refusal_line Unreadable = codes "1 Unreadable\n"
refusal_line (Note code) = codes "2 Note\n"
refusal_line Duplicate = codes "3 Duplicate\n"
refusal_line UnknownDepositor = codes "20 UnknownDepositor\n"
refusal_line TicketUsed = codes "21 TicketUsed\n"
refusal_line UnknownAdvice = codes "22 UnknownAdvice\n"
refusal_line AdviceClosed = codes "23 AdviceClosed\n"
refusal_line UnknownOrder = codes "24 UnknownOrder\n"
refusal_line OrderClosed = codes "25 OrderClosed\n"
refusal_line NotReserved = codes "26 NotReserved\n"
refusal_line UnknownLot = codes "27 UnknownLot\n"
refusal_line BelowReserved = codes "28 BelowReserved\n"
refusal_line NoDifference = codes "29 NoDifference\n"
refusal_line TooMuch = codes "30 TooMuch\n"
refusal_line RepeatedLine = codes "31 RepeatedLine\n"
refusal_line BadText = codes "32 BadText\n"
refusal_line TooManyLines = codes "33 TooManyLines\n"
refusal_line NumbersUsedUp = codes "34 NumbersUsedUp\n"
refusal_line AlreadyEnrolled = codes "35 AlreadyEnrolled\n"

abbrev pub fault_line : Fault → List ℕ
fault_line OutOfMemory = codes "40 OutOfMemory\n"
fault_line Store = codes "41 Store\n"
fault_line Reopen = codes "42 Reopen\n"
fault_line NotThisBook = codes "43 NotThisBook\n"
fault_line Device = codes "44 Device\n"
