-- What is told of a request: its method and its path, as they stand in its head, and who sent the
-- interchange that it handed in.
use Rattle.std.specs.Prelude.{◌≡◌, ◌⊎◌, ℕ, List, Option, Some, None, IfSome, codes, string_bytes}
use Rattle.httparse.specs.Grammar.{RequestHead}
use Rattle.httparse.specs.Spans.{span_bytes}
use Rattle.httparse.specs.declared.spans.RequestSpans.{RequestSpans}
use Rattle.definitions.specs.Accepted.{depositor_of}
use Rattle.definitions.specs.Header.{Who, who_text}
use Rattle.definitions.specs.Register.{Command, Interchange}
use Rattle.definitions.specs.Response.{Response, fault_response}
use Rattle.store.specs.Fault.TheVariants.{OutOfMemory}
use Rattle.counted_io.specs.Inputs.{IsInput}
use Rattle.intake.specs.Requests.{HasRequestHead}
use Rattle.intake.specs.declared.served.RequestLine.{RequestLine}

-- those that these spans cover
abbrev pub IsLineAt : List ℕ → RequestSpans → RequestLine → Type 0
IsLineAt buf spans line = (string_bytes line.method ≡ span_bytes buf spans.method)
    × (string_bytes line.path ≡ span_bytes buf spans.path)

-- those of this head
abbrev pub IsLineOf : RequestHead → RequestLine → Type 0
IsLineOf h line = (string_bytes line.method ≡ h.method) × (string_bytes line.path ≡ h.target)

-- if they are told, there is a head, and they are those of it
abbrev pub TellsOf : Option RequestLine → Option RequestHead → Type 0
TellsOf line head = IfSome line (λ told. (h : RequestHead) × (head ≡ Some h) × IsLineOf h told)

-- what a reader has begins with a head that they are those of
pub record HasLine (known : Option (List ℕ)) (line : RequestLine) : Type 0 where
  pub input : List ℕ
  pub is_input : IsInput known input
  pub head : RequestHead
  pub rest : List ℕ
  pub begins : HasRequestHead input head rest
  pub told : IsLineOf head line

-- the depositor that an interchange names, its sender: none where it is unreadable, or ISA05 and
-- ISA06 can be no partner; any other command isn't sent
abbrev pub sender_in : Option Command → Option Who
sender_in (Some (Interchange text)) = depositor_of (Interchange text)
sender_in submits = None

-- what is told is the sender of what was submitted; nobody is where there was no memory to read it
abbrev pub TellsSender : Option Who → Option Command → Response → Type 0
TellsSender sender submits r = (sender ≡ sender_in submits)
    ⊎ ((sender ≡ None) × (r ≡ fault_response OutOfMemory))

-- as a line tells it: `QQ-ID`, or `-`
abbrev pub sender_text : Option Who → List ℕ
sender_text None = codes "-"
sender_text (Some w) = who_text w
