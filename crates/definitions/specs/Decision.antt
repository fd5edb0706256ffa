-- The decision on a command: the reply from what a depositor's entries come to, and the entry that
-- is recalled by its mark.
use Rattle.std.specs.Prelude.{ℕ, ◌+◌, List, [], ◌++◌, map, length, if◌then◌else◌, nat_lt, ◌==◌, Some, None, Ok, Err, bytes_eq, Option, Result, option_map}
use Rattle.definitions.specs.declared.rules.Rules.{Rules}
use Rattle.definitions.specs.Limits.{most_entries}
use Rattle.definitions.specs.Lists.{first_of}
use Rattle.definitions.specs.Moments.{Moment}
use Rattle.definitions.specs.Header.{Who, is_unreadable}
use Rattle.definitions.specs.Register.{Act, Command, Interchange, Enrol, Clerk, Deed, Received, Performed, Entry, known, canonical}
use Rattle.definitions.specs.Events.{Event}
use Rattle.definitions.specs.Refusals.{Refusal, Unreadable, Note, Duplicate, UnknownDepositor, TicketUsed, NumbersUsedUp, AlreadyEnrolled}
use Rattle.definitions.specs.Halt.{header_notes, structure_notes}
use Rattle.definitions.specs.Clerk.{performed}
use Rattle.definitions.specs.History.{History, history}
use Rattle.definitions.specs.Reply.{out_at, stored, Reply, Accepted, Stored, Refused, interchange_entry, clerk_entry, refusal_answer}

-- a known entry with what it sent out
pub record Recalled : Type 0 where
  pub entry : Entry
  pub outgoing : List ℕ

abbrev pub recalled : Who → List ℕ → List Entry → Option Recalled
recalled W under M =
    option_map (λ k. record { entry = k.entry; outgoing = stored W k }) (known under M)

-- what a depositor's entries come to: none where there are none, as of a stranger
abbrev pub standing : List Entry → Option History
standing M = if length M == 0 then None else Some (history M)

-- an entry's outgoing text after this history
abbrev pub out_by : Who → History → Entry → List ℕ
out_by W h e = out_at W h.events (h.numbered + 1) e

abbrev pub accepted_by : Who → History → Entry → Reply
accepted_by W h e =
    if nat_lt most_entries (h.numbered + 1) then Refused NumbersUsedUp []
    else Accepted (out_by W h e)

-- an interchange with a known control number: the same bytes, or others
abbrev pub interchange_again : Who → List ℕ → Moment → Recalled → Reply
interchange_again W text t k = by_deed k.entry.deed
  where
    by_deed : Deed → Reply
    by_deed (Received bytes) =
        if bytes_eq bytes text then Stored k.outgoing
        else Refused Duplicate (refusal_answer W text t Duplicate)
    by_deed d = Refused Duplicate (refusal_answer W text t Duplicate)

-- the first of the conditions on a new control number's fields and segments
abbrev pub new_note : Who → List ℕ → Option ℕ
new_note W text =
    first_of None (map (λ p. (p.0, Some p.1)) (header_notes W text ++ structure_notes text))

abbrev pub interchange_new : Rules → Who → History → List ℕ → Moment → Option ℕ → Reply
interchange_new r W h text t (Some note) = Refused (Note note) (refusal_answer W text t (Note note))
interchange_new r W h text t None = accepted_by W h (interchange_entry r text t)

abbrev pub interchange_known : Rules → Who → Option History → Option Recalled → List ℕ → Moment
    → Reply
interchange_known r W None k text t = Refused (Note 6) (refusal_answer W text t (Note 6))
interchange_known r W (Some h) (Some k) text t = interchange_again W text t k
interchange_known r W (Some h) None text t = interchange_new r W h text t (new_note W text)

abbrev pub interchange_by : Rules → Who → Option History → Option Recalled → List ℕ → Moment → Reply
interchange_by r W h k text t =
    if is_unreadable text then Refused Unreadable [] else interchange_known r W h k text t

-- an act under a known ticket: the same act, or another
abbrev pub act_again : Act → Recalled → Reply
act_again act k = by_deed k.entry.deed
  where
    by_deed : Deed → Reply
    by_deed (Performed ticket done) =
        if bytes_eq (canonical done) (canonical act) then Stored k.outgoing
        else Refused TicketUsed []
    by_deed d = Refused TicketUsed []

abbrev pub act_told : Who → History → Entry → Result Event Refusal → Reply
act_told W h e (Ok event) = accepted_by W h e
act_told W h e (Err r) = Refused r []

abbrev pub act_new : Who → History → Entry → Act → Reply
act_new W h e act = act_told W h e (performed h.events (h.numbered + 1) act)

abbrev pub clerk_by : Rules → Who → Option History → Option Recalled → Who → List ℕ → Act → Moment
    → Reply
clerk_by r W None k w ticket act t = Refused UnknownDepositor []
clerk_by r W (Some h) (Some k) w ticket act t = act_again act k
clerk_by r W (Some h) None w ticket act t = act_new W h (clerk_entry r w ticket act t) act

-- the reply, from a depositor's history and the recalled entry of the command's mark alone
abbrev pub reply_by : Rules → Who → Option History → Option Recalled → Command → Moment → Reply
reply_by r W h k (Interchange text) t = interchange_by r W h k text t
reply_by r W None k (Enrol w) t = Accepted []
reply_by r W (Some h) k (Enrol w) t = Refused AlreadyEnrolled []
reply_by r W h k (Clerk w ticket act) t = clerk_by r W h k w ticket act t
