-- What is printed of a reply, and the status that it gives; what is told of a refusal, and of what
-- stopped a command.
use Rattle.std.specs.Prelude.{◌≡◌, ℕ, Bool, List, [], ◌∷◌, ◌++◌, length, ◌==◌, if◌then◌else◌, Option, codes, string_bytes}
use Rattle.std.specs.Io.KnownBytes.{Appends}
use Rattle.definitions.specs.Refusals.{told_refusal, told_fault}
use Rattle.definitions.specs.Reply as replies
use Rattle.store.specs.Refusal.{Refusal}
use Rattle.store.specs.Fault.{Fault}
use Rattle.commands.specs.declared.told.CommandError.{CommandError}
use Rattle.commands.specs.declared.told.CommandError.TheVariants as stops
use Rattle.commands.specs.declared.told.ExitStatus.{ExitStatus}
use Rattle.commands.specs.declared.told.ExitStatus.TheVariants as statuses

-- a text that goes out, and a line feed; nothing where it is empty
abbrev pub line_of : List ℕ → List ℕ
line_of text = if length text == 0 then [] else text ++ 10 ∷ []

abbrev pub text_of : replies.Reply → List ℕ
text_of (replies.Accepted text) = text
text_of (replies.Stored text) = text
text_of (replies.Refused r text) = text

abbrev pub status_of : replies.Reply → ExitStatus
status_of (replies.Accepted text) = statuses.Done
status_of (replies.Stored text) = statuses.Done
status_of (replies.Refused r text) = statuses.Refused

-- what is printed of a reply
abbrev pub printed_of : replies.Reply → List ℕ
printed_of reply = line_of (text_of reply)

-- it was printed, and the status says whether it is a refusal
pub record IsPrinted
    (reply : replies.Reply) (before later : Option (List ℕ)) (status : ExitStatus) : Type 0 where
  pub printed : Appends before later (printed_of reply)
  pub says : status ≡ status_of reply

-- `refused NUMBER NAME`, and a line feed
abbrev pub refused_line : Refusal → List ℕ
refused_line r = codes "refused " ++ told_refusal r ++ codes "\n"

-- what is told of a reply on standard error: a refusal
abbrev pub said_of : replies.Reply → List ℕ
said_of (replies.Accepted text) = []
said_of (replies.Stored text) = []
said_of (replies.Refused r text) = refused_line r

-- `fault NUMBER NAME`, and a line feed
abbrev pub faulted_line : Fault → List ℕ
faulted_line f = codes "fault " ++ told_fault f ++ codes "\n"

-- what is told of what stopped a command: words that can't be read as they are, a fault as a line,
-- and after it what it is about where that is asked for
abbrev pub stop_text : Bool → CommandError → List ℕ
stop_text explains (stops.Usage text) = string_bytes text
stop_text explains (stops.Fault fault) = faulted_line fault
stop_text explains (stops.Caused fault cause) = faulted_line fault ++ (if explains
    then string_bytes cause ++ codes "\n" else [])
