-- What an entry sends out, and the reply to a command.
use Rattle.std.specs.Prelude.{ℕ, Bool, List, [], length, if◌then◌else◌, nat_lt, ◌==◌, Some, None, Ok, Err, bytes_eq, Option, Result}
use Rattle.definitions.specs.declared.rules.Rules.{Rules}
use Rattle.definitions.specs.Limits.{most_entries}
use Rattle.definitions.specs.Moments.{Moment}
use Rattle.definitions.specs.Header.{Who, sender}
use Rattle.definitions.specs.Register.{Act, Command, Interchange, Enrol, Clerk, Deed, Enrolled, Received, Performed, Entry, ticket_mark, next_number, Known, known, canonical}
use Rattle.definitions.specs.Events.{Event}
use Rattle.definitions.specs.Refusals.{Refusal, Note, Duplicate, UnknownDepositor, TicketUsed, NumbersUsedUp, AlreadyEnrolled}
use Rattle.definitions.specs.Halt.{Halt, Refuses, Repeats, halt}
use Rattle.definitions.specs.Clerk.{performed}
use Rattle.definitions.specs.History.{events, tellings}
use Rattle.definitions.specs.Texts.{answer, refusal_interchange, document_of}

-- the document of an act under its entry's number
abbrev pub written : Who → Who → Moment → ℕ → Result Event Refusal → List ℕ
written W w t n (Ok event) = document_of W w t n event
written W w t n (Err r) = []

-- the outgoing text of an entry under a number, after these events
abbrev pub out_at : Who → List Event → ℕ → Entry → List ℕ
out_at W es n e = by_deed e.deed
  where
    by_deed : Deed → List ℕ
    by_deed Enrolled = []
    by_deed (Received text) = answer W e.who e.moment n text (tellings e.rules es n text)
    by_deed (Performed ticket act) = written W e.who e.moment n (performed es n act)

-- the outgoing text of an entry when M stands before it
abbrev pub out : Who → List Entry → Entry → List ℕ
out W M e = out_at W (events M) (next_number M) e

-- the outgoing text of an entry that is known
abbrev pub stored : Who → Known → List ℕ
stored W k = out W k.before k.entry

pub data Reply : Type 0 where
  -- with the answer
  Accepted : List ℕ → Reply
  -- with the text that the entry sent out
  Stored : List ℕ → Reply
  -- with the answer
  Refused : Refusal → List ℕ → Reply

-- a depositor has at most 999,999 numbered entries
abbrev pub numbers_used_up : List Entry → Bool
numbers_used_up M = nat_lt most_entries (next_number M)

-- accepted with what its entry sends out, if there is a number for it
abbrev pub accepted : Who → List Entry → Entry → Reply
accepted W M e = if numbers_used_up M then Refused NumbersUsedUp [] else Accepted (out W M e)

-- The entries that commands make, under the rules of the day.

abbrev pub interchange_entry : Rules → List ℕ → Moment → Entry
interchange_entry r text t =
    record { who = sender text; moment = t; deed = Received text; rules = r }

abbrev pub enrolment_entry : Rules → Who → Moment → Entry
enrolment_entry r w t = record { who = w; moment = t; deed = Enrolled; rules = r }

abbrev pub clerk_entry : Rules → Who → List ℕ → Act → Moment → Entry
clerk_entry r w ticket act t =
    record { who = w; moment = t; deed = Performed ticket act; rules = r }

-- the answer to a refused interchange: none where it is unreadable
abbrev pub refusal_answer : Who → List ℕ → Moment → Refusal → List ℕ
refusal_answer W text t (Note code) = refusal_interchange W text t code
refusal_answer W text t Duplicate = refusal_interchange W text t 25
refusal_answer W text t r = []

abbrev pub reply_to_halt : Rules → Who → List Entry → List ℕ → Moment → Option Halt → Reply
reply_to_halt r W M text t None = accepted W M (interchange_entry r text t)
reply_to_halt r W M text t (Some (Repeats k)) = Stored (stored W k)
reply_to_halt r W M text t (Some (Refuses refusal)) =
    Refused refusal (refusal_answer W text t refusal)

abbrev pub interchange_reply : Rules → Who → List Entry → List ℕ → Moment → Reply
interchange_reply r W M text t = reply_to_halt r W M text t (halt W M text)

-- a known ticket: the same act, or another
abbrev pub known_ticket : Who → Act → Known → Reply
known_ticket W act k = by_deed k.entry.deed
  where
    by_deed : Deed → Reply
    by_deed (Performed ticket done) =
        if bytes_eq (canonical done) (canonical act) then Stored (stored W k)
        else Refused TicketUsed []
    by_deed d = Refused TicketUsed []

-- an act that was performed, or its refusal
abbrev pub accepted_act : Who → List Entry → Entry → Result Event Refusal → Reply
accepted_act W M e (Ok event) = accepted W M e
accepted_act W M e (Err r) = Refused r []

-- an act under a new ticket
abbrev pub new_ticket : Who → List Entry → Entry → Act → Reply
new_ticket W M e act = accepted_act W M e (performed (events M) (next_number M) act)

abbrev pub by_ticket : Rules → Who → List Entry → Who → List ℕ → Act → Moment → Option Known → Reply
by_ticket r W M w ticket act t (Some k) = known_ticket W act k
by_ticket r W M w ticket act t None = new_ticket W M (clerk_entry r w ticket act t) act

abbrev pub clerk_reply : Rules → Who → List Entry → Who → List ℕ → Act → Moment → Reply
clerk_reply r W M w ticket act t =
    if length M == 0 then Refused UnknownDepositor []
    else by_ticket r W M w ticket act t (known (ticket_mark ticket) M)

abbrev pub enrol_reply : List Entry → Reply
enrol_reply M = if length M == 0 then Accepted [] else Refused AlreadyEnrolled []

-- The reply to a command under the rules of the day, M being the own entries of the depositor that
-- it names. A known entry keeps its own rules.
abbrev pub reply : Rules → Who → List Entry → Command → Moment → Reply
reply r W M (Interchange text) t = interchange_reply r W M text t
reply r W M (Enrol w) t = enrol_reply M
reply r W M (Clerk w ticket act) t = clerk_reply r W M w ticket act t
