-- The enrolments of a register, and how they are found one by one, by the texts of the depositors'
-- names.
use Rattle.std.specs.Prelude.{◌≡◌, ℕ, ◌+◌, pos, false, not, List, [], ◌∷◌, ◌++◌, filter, if◌then◌else◌, Option, None, Some, codes}
use Rattle.sqlite.specs.Order.{Row}
use Rattle.sqlite.specs.declared.types.Value.TheVariants.{Int, Text}
use Rattle.sqlite_rules.specs.Lists.{Has}
use Rattle.definitions.specs.Bytes.{comes_before}
use Rattle.definitions.specs.Header.{Who, who_text}
use Rattle.definitions.specs.Register.{Entry, is_numbered}

-- the number of the entry in the register, and who was enrolled
pub record EnrolmentFacts : Type 0 where
  pub seq : ℕ
  pub who : Who

-- those of entries that stand after the first n
abbrev pub enrolments_after : ℕ → List Entry → List EnrolmentFacts
enrolments_after n [] = []
enrolments_after n (e ∷ L) =
    if is_numbered e then enrolments_after (n + 1) L
    else record { seq = n + 1; who = e.who } ∷ enrolments_after (n + 1) L

abbrev pub enrolments : List Entry → List EnrolmentFacts
enrolments L = enrolments_after 0 L

-- those whose depositors' texts don't come before this one
abbrev pub from_text : List ℕ → List EnrolmentFacts → List EnrolmentFacts
from_text t es = filter (λ e. not (comes_before (who_text e.who) t)) es

-- the first of them by the depositors' texts; none where there are none
abbrev pub IsFirstFrom : List ℕ → List EnrolmentFacts → Option EnrolmentFacts → Type 0
IsFirstFrom t es None = from_text t es ≡ []
IsFirstFrom t es (Some e) = Has (from_text t es) e
    × ((x : EnrolmentFacts) → Has (from_text t es) x
    → comes_before (who_text x.who) (who_text e.who) ≡ false)

-- the text that comes next after a depositor's by bytes: no other comes between the two
abbrev pub next_text : Who → List ℕ
next_text w = who_text w ++ 0 ∷ []

-- an enrolment as its row shows it: seq, who
abbrev pub enrolment_shown : EnrolmentFacts → Row
enrolment_shown e = Int (pos e.seq) ∷ Text (who_text e.who) ∷ []

-- the text that asks for the first enrolment from a text on
abbrev pub enrolment_text : List ℕ
enrolment_text = codes "SELECT seq, who FROM entry WHERE who >= ?1 AND n = 0 ORDER BY who LIMIT 1"
