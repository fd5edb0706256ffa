-- When a server's response is told as the reply itself is over the book.
use Rattle.std.specs.Prelude.{◌≡◌, ℕ, Bool, false, List, [], Option, Some, None, bytes_eq}
use Rattle.definitions.specs.Response.{Response, x12_type}
use Rattle.store.specs.Refusal.{Refusal}
use Rattle.store.specs.Refusal.TheVariants as refusals
use Rattle.store.specs.Runs.{told}
use Rattle.store.specs.declared.serving.Reply.{Reply}
use Rattle.store.specs.declared.serving.Reply.TheVariants.{Accepted, Stored, Refused}
use Rattle.commands.specs.Telling.{line_of, text_of}
use Rattle.http_client.specs.Heard.{heard, note_in, printed_document}
use Rattle.http_client.specs.declared.answers.HeardAs.{HeardAs}
use Rattle.http_client.specs.declared.answers.HeardAs.TheVariants as says

-- whether a response has an interchange
abbrev pub is_interchange : Response → Bool
is_interchange r = by r.kind
  where
    by : Option (List ℕ) → Bool
    by None = false
    by (Some kind) = bytes_eq kind x12_type

-- what a reply says
abbrev pub said : Reply → HeardAs
said (Accepted text) = says.Done
said (Stored text) = says.Done
said (Refused refusal text) = says.Refused refusal

-- A refusal's answer is what the rules give: an interchange for a known number and for a note,
-- which has the note's code, and nothing for any other.
abbrev pub HasAnswer : Refusal → List ℕ → Type 0
HasAnswer (refusals.Note code) text = note_in text ≡ Some code
HasAnswer refusals.Duplicate text = Unit {0}
HasAnswer other text = text ≡ []

abbrev pub HasReplyText : Reply → Type 0
HasReplyText (Accepted text) = Unit {0}
HasReplyText (Stored text) = Unit {0}
HasReplyText (Refused refusal text) = HasAnswer refusal text.items

-- an interchange is refused as one that can't be read, by a note, as a duplicate, or for want of
-- numbers
abbrev pub IsReplyToInterchange : Reply → Type 0
IsReplyToInterchange (Refused refusals.Unreadable text) = text.items ≡ []
IsReplyToInterchange (Refused (refusals.Note code) text) = note_in text.items ≡ Some code
IsReplyToInterchange (Refused refusals.Duplicate text) = Unit {0}
IsReplyToInterchange (Refused refusals.NumbersUsedUp text) = text.items ≡ []
IsReplyToInterchange (Refused other text) = ⊥
IsReplyToInterchange other = Unit {0}

-- the response is printed as the reply is, and comes to what the reply says
pub record IsToldAs (reply : Reply) (r : Response) : Type 0 where
  pub printed : printed_document (is_interchange r) r.body ≡ line_of (text_of (told reply))
  pub heard_as : heard r.status (is_interchange r) r.body ≡ said reply
