-- texts of refusals and faults, and what a reply says of the book
use Rattle.std.proofs.Common.{◌≡◌, ◌≢◌, ℕ, List, ◌++◌, codes, refl, false}
use Rattle.std.specs.Fmt.{digits}
use Rattle.definitions.specs.Refusals as meant
use Rattle.definitions.specs.Accepted.{is_accepted}
use Rattle.definitions.specs.Response.{with_body, plain_type, refused_response}
use Rattle.store.specs.Refusal.{Refusal}
use Rattle.store.specs.Refusal.TheVariants.{Unreadable, Note, Duplicate, UnknownDepositor, TicketUsed, UnknownAdvice, AdviceClosed, UnknownOrder, OrderClosed, NotReserved, UnknownLot, BelowReserved, NoDifference, TooMuch, RepeatedLine, BadText, TooManyLines, NumbersUsedUp, AlreadyEnrolled}
use Rattle.store.specs.Runs.{told, UnlessAccepted}
use Rattle.store.specs.Fault.{Fault}
use Rattle.store.specs.Fault.TheVariants.{OutOfMemory, Store, Reopen, NotThisBook, Device}
use Rattle.store.specs.declared.serving.Reply.{Reply}
use Rattle.store.specs.declared.serving.Reply.TheVariants.{Accepted, Stored, Refused}
use Rattle.intake.specs.Calls.{deed_refused}
use Rattle.definitions.specs.Refusals.{refusal_line, fault_line}

pub fault_line_is : (f : Fault) → fault_line f ≡ meant.told_fault f ++ codes "\n"
unfolding digits
fault_line_is OutOfMemory = refl
fault_line_is Store = refl
fault_line_is Reopen = refl
fault_line_is NotThisBook = refl
fault_line_is Device = refl

pub unreadable_line : refusal_line Unreadable ≡ meant.told_refusal Unreadable ++ codes "\n"
unfolding digits
unreadable_line = refl

pub bad_text_line : refusal_line BadText ≡ meant.told_refusal BadText ++ codes "\n"
unfolding digits
bad_text_line = refl

pub stranger_line : refusal_line UnknownDepositor ≡ meant.told_refusal UnknownDepositor ++ codes "\n"
unfolding digits
stranger_line = refl

pub ticket_line : refusal_line TicketUsed ≡ meant.told_refusal TicketUsed ++ codes "\n"
unfolding digits
ticket_line = refl

-- any but these two are told of a deed as of an interchange
pub deed_otherwise : (r : Refusal) (text : List ℕ) → r ≢ UnknownDepositor → r ≢ TicketUsed → refused_response r text ≡ deed_refused r text
deed_otherwise Unreadable text a b = refl
deed_otherwise (Note code) text a b = refl
deed_otherwise Duplicate text a b = refl
deed_otherwise UnknownDepositor text a b = absurd (a refl)
deed_otherwise TicketUsed text a b = absurd (b refl)
deed_otherwise UnknownAdvice text a b = refl
deed_otherwise AdviceClosed text a b = refl
deed_otherwise UnknownOrder text a b = refl
deed_otherwise OrderClosed text a b = refl
deed_otherwise NotReserved text a b = refl
deed_otherwise UnknownLot text a b = refl
deed_otherwise BelowReserved text a b = refl
deed_otherwise NoDifference text a b = refl
deed_otherwise TooMuch text a b = refl
deed_otherwise RepeatedLine text a b = refl
deed_otherwise BadText text a b = refl
deed_otherwise TooManyLines text a b = refl
deed_otherwise NumbersUsedUp text a b = refl
deed_otherwise AlreadyEnrolled text a b = refl

-- any but these three are told by number and name
pub refused_otherwise : (r : Refusal) (text : List ℕ) → r ≢ Unreadable → ((code : ℕ) → r ≢ Note code) → r ≢ Duplicate
    → with_body 422 plain_type (refusal_line r) ≡ refused_response r text
unfolding digits
refused_otherwise Unreadable text a b c = absurd (a refl)
refused_otherwise (Note code) text a b c = absurd (b code refl)
refused_otherwise Duplicate text a b c = absurd (c refl)
refused_otherwise UnknownDepositor text a b c = refl
refused_otherwise TicketUsed text a b c = refl
refused_otherwise UnknownAdvice text a b c = refl
refused_otherwise AdviceClosed text a b c = refl
refused_otherwise UnknownOrder text a b c = refl
refused_otherwise OrderClosed text a b c = refl
refused_otherwise NotReserved text a b c = refl
refused_otherwise UnknownLot text a b c = refl
refused_otherwise BelowReserved text a b c = refl
refused_otherwise NoDifference text a b c = refl
refused_otherwise TooMuch text a b c = refl
refused_otherwise RepeatedLine text a b c = refl
refused_otherwise BadText text a b c = refl
refused_otherwise TooManyLines text a b c = refl
refused_otherwise NumbersUsedUp text a b c = refl
refused_otherwise AlreadyEnrolled text a b c = refl

-- what holds unless a command was accepted
pub not_accepted : {P : Type 0} (r : Reply) → is_accepted (told r) ≡ false → UnlessAccepted r P → P
not_accepted (Accepted text) e p = cc
not_accepted (Stored text) e p = p
not_accepted (Refused refusal text) e p = p
