-- Responses, and what is printed of them.
use Rattle.std.proofs.Common.{◌≡◌, ℕ, List, [], Bool, true, false, refl, sym, ap, ◌∙◌, length, ◌==◌}
use Rattle.std.specs.Fmt.{digits}
use Rattle.definitions.specs.Response.{Response, answer_response, reply_response, no_content, with_body, x12_type}
use Rattle.store.specs.Refusal.TheVariants.{Unreadable, Note, Duplicate, UnknownDepositor, TicketUsed, UnknownAdvice, AdviceClosed, UnknownOrder, OrderClosed, NotReserved, UnknownLot, BelowReserved, NoDifference, TooMuch, RepeatedLine, BadText, TooManyLines, NumbersUsedUp, AlreadyEnrolled}
use Rattle.store.specs.Runs.{told}
use Rattle.store.specs.declared.serving.Reply.{Reply}
use Rattle.store.specs.declared.serving.Reply.TheVariants.{Accepted, Stored, Refused}
use Rattle.commands.specs.Telling.{line_of}
use Rattle.intake.specs.Calls.{deed_reply}
use Rattle.http_client.specs.Heard.{heard, printed_document}
use Rattle.http_client.specs.Told.{HasReplyText, IsReplyToInterchange, IsToldAs, is_interchange}
use Rattle.http_client.specs.declared.answers.HeardAs.TheVariants.{Done}

pub act_told : (r : Reply) → HasReplyText r → IsToldAs r (deed_reply (told r))
unfolding digits
act_told (Accepted text) is = record { printed = refl; heard_as = refl }
act_told (Stored text) is = record { printed = refl; heard_as = refl }
act_told (Refused Unreadable text) is = record { printed = rw is refl; heard_as = refl }
act_told (Refused (Note code) text) is = record { printed = refl; heard_as = rw is refl }
act_told (Refused Duplicate text) is = record { printed = refl; heard_as = refl }
act_told (Refused UnknownDepositor text) is = record { printed = rw is refl; heard_as = refl }
act_told (Refused TicketUsed text) is = record { printed = rw is refl; heard_as = refl }
act_told (Refused UnknownAdvice text) is = record { printed = rw is refl; heard_as = refl }
act_told (Refused AdviceClosed text) is = record { printed = rw is refl; heard_as = refl }
act_told (Refused UnknownOrder text) is = record { printed = rw is refl; heard_as = refl }
act_told (Refused OrderClosed text) is = record { printed = rw is refl; heard_as = refl }
act_told (Refused NotReserved text) is = record { printed = rw is refl; heard_as = refl }
act_told (Refused UnknownLot text) is = record { printed = rw is refl; heard_as = refl }
act_told (Refused BelowReserved text) is = record { printed = rw is refl; heard_as = refl }
act_told (Refused NoDifference text) is = record { printed = rw is refl; heard_as = refl }
act_told (Refused TooMuch text) is = record { printed = rw is refl; heard_as = refl }
act_told (Refused RepeatedLine text) is = record { printed = rw is refl; heard_as = refl }
act_told (Refused BadText text) is = record { printed = rw is refl; heard_as = refl }
act_told (Refused TooManyLines text) is = record { printed = rw is refl; heard_as = refl }
act_told (Refused NumbersUsedUp text) is = record { printed = rw is refl; heard_as = refl }
act_told (Refused AlreadyEnrolled text) is = record { printed = rw is refl; heard_as = refl }

-- an answer, or 204 where it is empty
answer_printed : (text : List ℕ) → printed_document (is_interchange (answer_response text)) (answer_response text).body ≡ line_of text
answer_printed text = by (length text == 0) refl
  where
    by : (b : Bool) → (length text == 0) ≡ b → printed_document (is_interchange (answer_response text)) (answer_response text).body ≡ line_of text
    by true e =
        let is : answer_response text ≡ no_content = rw e refl in
        let empty : line_of text ≡ [] = rw e refl in
        ap (λ (r : Response). printed_document (is_interchange r) r.body) is ∙ sym empty
    by false e =
        let is : answer_response text ≡ with_body 200 x12_type text = rw e refl in
        ap (λ (r : Response). printed_document (is_interchange r) r.body) is

answer_heard : (text : List ℕ) → heard (answer_response text).status (is_interchange (answer_response text)) (answer_response text).body ≡ Done
answer_heard text = by (length text == 0) refl
  where
    by : (b : Bool) → (length text == 0) ≡ b → heard (answer_response text).status (is_interchange (answer_response text)) (answer_response text).body ≡ Done
    by true e =
        let is : answer_response text ≡ no_content = rw e refl in
        ap (λ (r : Response). heard r.status (is_interchange r) r.body) is
    by false e =
        let is : answer_response text ≡ with_body 200 x12_type text = rw e refl in
        ap (λ (r : Response). heard r.status (is_interchange r) r.body) is

pub interchange_told : (r : Reply) → IsReplyToInterchange r → IsToldAs r (reply_response (told r))
unfolding digits
interchange_told (Accepted text) is = record { printed = answer_printed text.items; heard_as = answer_heard text.items }
interchange_told (Stored text) is = record { printed = answer_printed text.items; heard_as = answer_heard text.items }
interchange_told (Refused Unreadable text) is = record { printed = rw is refl; heard_as = refl }
interchange_told (Refused (Note code) text) is = record { printed = refl; heard_as = rw is refl }
interchange_told (Refused Duplicate text) is = record { printed = refl; heard_as = refl }
interchange_told (Refused NumbersUsedUp text) is = record { printed = rw is refl; heard_as = refl }
interchange_told (Refused UnknownDepositor text) is = absurd is
interchange_told (Refused TicketUsed text) is = absurd is
interchange_told (Refused UnknownAdvice text) is = absurd is
interchange_told (Refused AdviceClosed text) is = absurd is
interchange_told (Refused UnknownOrder text) is = absurd is
interchange_told (Refused OrderClosed text) is = absurd is
interchange_told (Refused NotReserved text) is = absurd is
interchange_told (Refused UnknownLot text) is = absurd is
interchange_told (Refused BelowReserved text) is = absurd is
interchange_told (Refused NoDifference text) is = absurd is
interchange_told (Refused TooMuch text) is = absurd is
interchange_told (Refused RepeatedLine text) is = absurd is
interchange_told (Refused BadText text) is = absurd is
interchange_told (Refused TooManyLines text) is = absurd is
interchange_told (Refused AlreadyEnrolled text) is = absurd is
