-- The rows of the outbox, by what a page says of its documents.
use Rattle.std.specs.Prelude.{ℕ, Bool, List, [], codes, ◌==◌, nat_lt, length, filter, find, option_map, Option, Some, None}
use Rattle.definitions.specs.Header.{Who}
use Rattle.definitions.specs.Register.{Deed, Performed, Entry}
use Rattle.definitions.specs.Events.{Event}
use Rattle.definitions.specs.Rows.{OutRow, act_kind, outbox_of, outbox_rows, outgoing_on, state_text}
use Rattle.definitions.specs.Page.{PageDocument}
use Rattle.store.specs.declared.rows.DocumentState.{DocumentState}
use Rattle.store.specs.declared.rows.DocumentState.TheVariants.{Unasked, Open, Accepted, Refused}

abbrev pub state_name : DocumentState → List ℕ
state_name Unasked = codes "-"
state_name Open = codes "open"
state_name Accepted = codes "accepted"
state_name Refused = codes "refused"

abbrev pub said_in : Option PageDocument → Option Bool
said_in None = None
said_in (Some d) = d.said

-- what a page's documents say of the one under a number
abbrev pub said_under : ℕ → List PageDocument → Option Bool
said_under n ds = said_in (find (λ d. d.n == n) ds)

-- the row of a deed under a number that sent this out, by a page's documents
abbrev pub sent_row : List PageDocument → Deed → ℕ → List ℕ → OutRow
sent_row ds (Performed ticket act) n content =
    record { n = n; kind = act_kind act; content = content; state = state_text (said_under n ds) }
sent_row ds d n content = record { n = n; kind = codes "ANS"; content = content; state = codes "-" }

-- the text that entries of a depositor sent out under a number, but for an empty one
abbrev pub text_under : Who → List Entry → ℕ → Option (List ℕ)
text_under W M n = option_map (λ r. r.content) (find (λ r. r.n == n) (outbox_rows W M))

-- the same of a depositor of a register; none of a stranger
abbrev pub text_of : Who → List Entry → Who → ℕ → Option (Option (List ℕ))
text_of W L who n =
    option_map (λ rows. option_map (λ r. r.content) (find (λ r. r.n == n) rows)) (outbox_of W L who)

-- the rows of what a depositor's entries sent out, when these are all of its events
abbrev pub sent_on : Who → List Event → List Entry → List OutRow
sent_on W es M = filter (λ r. nat_lt 0 (length r.content)) (outgoing_on W es [] M)
