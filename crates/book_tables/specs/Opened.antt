-- How it is asked what a depositor has open. What is closed is left out by the text; where a row has
-- another number than that of what is open, or none, it is there to be seen.
use Rattle.std.specs.Prelude.{◌≡◌, ℕ, true, List, [], ◌∷◌, codes}
use Rattle.std.specs.List.{AllByRecursion}
use Rattle.sqlite.specs.Order.{Row, column}
use Rattle.sqlite.specs.State.{State}
use Rattle.sqlite.specs.declared.types.Value.TheVariants.{Text}
use Rattle.definitions.specs.Header.{Who, who_text}
use Rattle.definitions.specs.Tables.{flag}
use Rattle.book_statements.specs.Held.{value_of}
use Rattle.book_tables.specs.Answering.{Answers}

abbrev pub shipments_text : List ℕ
shipments_text =
    codes "SELECT shipment, is_open FROM advice WHERE who = ?1 AND is_open IS NOT 0 ORDER BY shipment"

abbrev pub numbers_text : List ℕ
numbers_text =
    codes "SELECT ord, is_open FROM orders WHERE who = ?1 AND is_open IS NOT 0 ORDER BY ord"

-- the name and `is_open` of what is open
abbrev pub open_shown : List ℕ → Row
open_shown name = Text name ∷ value_of (flag true) ∷ []

-- the row has a name and tells that what has it is open
abbrev pub IsOpen : Row → Type 0
IsOpen row = (name : List ℕ) × (column row 0 ≡ Text name) × (column row 1 ≡ value_of (flag true))

-- the text is answered about a depositor by such rows alone
abbrev pub AnswersOpen : List ℕ → Who → State → Type 0
AnswersOpen text who = Answers text (Text (who_text who) ∷ []) (AllByRecursion IsOpen)

-- so are both
abbrev pub AreAnsweredOpen : Who → State → Type 0
AreAnsweredOpen who s = AnswersOpen shipments_text who s × AnswersOpen numbers_text who s
