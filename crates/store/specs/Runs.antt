-- What commands are answered, in the words of the definitions.
use Rattle.std.specs.Prelude.{Bool, List, map}
use Rattle.std.specs.List.{list_all}
use Rattle.definitions.specs.Rules.{Today}
use Rattle.definitions.specs.Moments.{Moment}
use Rattle.definitions.specs.Register as meant
use Rattle.definitions.specs.Reply as replies
use Rattle.definitions.specs.Accepted.{is_command}
use Rattle.rules.specs.Asked.{asked}
use Rattle.rules.specs.Command.{Command}
use Rattle.store.specs.declared.serving.Reply.{Reply}
use Rattle.store.specs.declared.serving.Reply.TheVariants.{Accepted, Stored, Refused}

-- what a reply says
abbrev pub told : Reply → replies.Reply
told (Accepted text) = replies.Accepted text.items
told (Stored text) = replies.Stored text.items
told (Refused refusal text) = replies.Refused refusal text.items

-- what is asked at a moment
abbrev pub asked_at : Command × Moment → meant.Command × Moment
asked_at c = (asked c.0, c.1)

abbrev pub all_asked : List (Command × Moment) → List (meant.Command × Moment)
all_asked cs = map asked_at cs

-- commands that can be given: a clerk's ticket, shipment and order are identifiers, and the sheet
-- is one of its act
abbrev pub can_be_given : List (Command × Moment) → Bool
can_be_given cs = list_all (λ (c : Command × Moment). is_command Today (asked c.0)) cs

-- a fact that holds unless a command was accepted
abbrev pub UnlessAccepted : Reply → Type 0 → Type 0
UnlessAccepted (Accepted text) P = Unit {0}
UnlessAccepted (Stored text) P = P
UnlessAccepted (Refused refusal text) P = P
