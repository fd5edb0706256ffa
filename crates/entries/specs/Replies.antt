-- What is known of a command, and the decision that is a reply.
use Rattle.std.specs.Prelude.{ℕ, ◌≡◌, ◌+◌}
use Rattle.definitions.specs.declared.rules.Rules.{Rules}
use Rattle.definitions.specs.Moments.{Moment}
use Rattle.definitions.specs.Register as meant
use Rattle.definitions.specs.Reply as replies
use Rattle.definitions.specs.Decision as known
use Rattle.definitions.specs.Accepted.{entry_of}
use Rattle.entries.specs.Written.{Recalled, written_as}
use Rattle.entries.specs.declared.decisions.Decision.{Decision}
use Rattle.entries.specs.declared.decisions.Decision.TheVariants.{Stored, Refused, Accepted}

-- an entry as it is written down, and the text that went out for it
abbrev pub IsEntry : Recalled → known.Recalled → Type 0
IsEntry r k = (n : ℕ) × (r.entry ≡ written_as n k.entry) × (r.outgoing ≡ k.outgoing)

-- the number of a command's entry after so many numbered ones
abbrev pub number_later : ℕ → meant.Command → ℕ
number_later n (meant.Enrol w) = 0
number_later n c = n + 1

-- the decision that is this reply, after so many numbered entries and under the rules of the day,
-- which the new entry has
abbrev pub IsReply : Rules → ℕ → meant.Command → Moment → replies.Reply → Decision → Type 0
IsReply r n c t reply (Stored text) = reply ≡ replies.Stored text.items
IsReply r n c t reply (Refused refusal text) = reply ≡ replies.Refused refusal text.items
IsReply r n c t reply (Accepted e changes text) = (reply ≡ replies.Accepted text.items)
    × (e ≡ written_as (number_later n c) (entry_of r c t))

-- no entry comes of it
abbrev pub IsNoEntry : Decision → Type 0
IsNoEntry (Stored text) = Unit {0}
IsNoEntry (Refused refusal text) = Unit {0}
IsNoEntry (Accepted e changes text) = ⊥
