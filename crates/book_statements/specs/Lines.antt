-- The rows that are written, from what they are written of.
use Rattle.std.specs.Prelude.{ℕ, List, [], ◌∷◌}
use Rattle.definitions.specs.declared.rules.Rules.{Rules}
use Rattle.definitions.specs.Rules.{rules_number}
use Rattle.definitions.specs.Means.{Line}
use Rattle.definitions.specs.Page.{PageLine}
use Rattle.definitions.specs.Tables.{TableRow, Text, Number, Blob, text_or_null}
use Rattle.rules.specs.Written.{Written}

-- a line of an advice, by its number
abbrev pub advice_line_row : List ℕ → List ℕ → ℕ → Line → TableRow
advice_line_row who shipment n line = Text who ∷ Text shipment ∷ Number n ∷ Text line.item
    ∷ Text line.lot ∷ Number line.quantity ∷ []

-- a line of an order, by its number
abbrev pub order_line_row : List ℕ → List ℕ → ℕ → PageLine → TableRow
order_line_row who order n line = Text who ∷ Text order ∷ Number n ∷ Text line.item
    ∷ text_or_null line.pin ∷ Number line.quantity ∷ []

-- what is reserved of a pair for an order
abbrev pub reservation_row : List ℕ → List ℕ → Line → TableRow
reservation_row who order line = Text who ∷ Text order ∷ Text line.item ∷ Text line.lot
    ∷ Number line.quantity ∷ []

-- an entry with its number in the register and its moment's text
abbrev pub written_row : ℕ → List ℕ → Written → List ℕ → TableRow
written_row seq who entry moment = Number seq ∷ Text who ∷ Text entry.key ∷ Number entry.n
    ∷ Text moment ∷ Blob entry.body ∷ []

-- the rules of an entry with its number in the register
abbrev pub rules_row : ℕ → Rules → TableRow
rules_row seq rules = Number seq ∷ Number (rules_number rules) ∷ []

-- the date of a pair
abbrev pub expiry_row : List ℕ → List ℕ → List ℕ → List ℕ → TableRow
expiry_row who item lot expiry = Text who ∷ Text item ∷ Text lot ∷ Text expiry ∷ []

-- a text that goes out, by its number
abbrev pub sent_row : List ℕ → ℕ → List ℕ → List ℕ → List ℕ → TableRow
sent_row who n kind content state = Text who ∷ Number n ∷ Text kind ∷ Blob content ∷ Text state ∷ []
