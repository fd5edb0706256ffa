-- How it is asked what went out, of rows of which each can be read.
use Rattle.std.specs.Prelude.{ℕ, List, [], ◌∷◌, pos, codes}
use Rattle.std.specs.List.{AllByRecursion}
use Rattle.sqlite.specs.Order.{Row}
use Rattle.sqlite.specs.State.{State}
use Rattle.sqlite.specs.declared.types.Value.TheVariants.{Int, Text}
use Rattle.definitions.specs.Header.{Who, who_text}
use Rattle.book_tables.specs.Answering.{Answers}
use Rattle.book_tables.specs.Showing.{HasKindAndState, IsOut}

abbrev pub outbox_text : List ℕ
outbox_text = codes "SELECT n, kind, content, state FROM outgoing WHERE who = ?1 ORDER BY n"

abbrev pub sent_text : List ℕ
sent_text = codes "SELECT kind, state FROM outgoing WHERE who = ?1 AND n = ?2"

abbrev pub content_text : List ℕ
content_text = codes "SELECT content, kind, state FROM outgoing WHERE who = ?1 AND n = ?2"

-- what went out to a depositor is told by rows that can be read
abbrev pub AnswersOut : Who → State → Type 0
AnswersOut who = Answers outbox_text (Text (who_text who) ∷ []) (AllByRecursion IsOut)

-- the kind and the state in two columns of the first row can be read, if there is one
abbrev pub IsReadFirst : ℕ → ℕ → List Row → Type 0
IsReadFirst kind_at state_at [] = Unit {0}
IsReadFirst kind_at state_at (row ∷ rows) = HasKindAndState row kind_at state_at

-- what went out under a number is told by such rows
abbrev pub AnswersSent : Who → ℕ → State → Type 0
AnswersSent who n = Answers sent_text (Text (who_text who) ∷ Int (pos n) ∷ []) (IsReadFirst 0 1)

-- and so is the text
abbrev pub AnswersContent : Who → ℕ → State → Type 0
AnswersContent who n =
    Answers content_text (Text (who_text who) ∷ Int (pos n) ∷ []) (IsReadFirst 1 2)
