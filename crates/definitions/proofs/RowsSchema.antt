-- The tables of the main book fit their schemas, and the changes of each of its steps lead from one
-- register to the next.
use Rattle.std.specs.Prelude.{◌≡◌, ℕ, Bool, true, false, not, ◌&&◌, List, [], ◌∷◌, ◌++◌, map, replicate, Some, None, codes, bytes_eq}
use Rattle.std.proofs.Common.{refl}
use Rattle.std.specs.Fmt.{digits}
use Rattle.definitions.specs.declared.rules.Rules.{Rules}
use Rattle.definitions.specs.declared.rules.Rules.TheVariants.{One, Two}
use Rattle.definitions.specs.Moments.{Moment}
use Rattle.definitions.specs.Register.{Command, Entry, own}
use Rattle.definitions.specs.Events.{since}
use Rattle.definitions.specs.Accepted.{entry_of}
use Rattle.definitions.specs.Page.{page_of}
use Rattle.definitions.specs.Tables.{tables, Cell, Null, Number, Text, TableRow, AllTables}
use Rattle.definitions.specs.Schema.{schemas, schema_named, key_before, are_rows}
use Rattle.definitions.specs.Changes.{Change, Puts, SetsState, Frees, changed_by, with_entry}
use Rattle.definitions.proofs.Sample.{WHSE1, ACME, first_advice, sends, line, book}
use Rattle.definitions.proofs.RowsTrade.{first_receipt, first_order, first_pick, last_acknowledgment, until_count, until_order, until_pick, until_acknowledgment}

abbrev fitting : Rules → List Entry → List Bool
fitting r L = map (λ t. are_rows (schema_named t.0) t.1) (tables r WHSE1 L)

fit : fitting One (book One until_acknowledgment) ∷ fitting One (book One until_order) ∷ [] ≡ replicate 9 true ∷ replicate 9 true ∷ []
unfolding digits
fit = refl

fit_later : fitting Two (book Two until_acknowledgment) ∷ fitting Two (book One until_order) ∷ [] ≡ replicate 11 true ∷ replicate 11 true ∷ []
unfolding digits
fit_later = refl

named : (r : Rules) → map (λ s. s.name) (schemas r) ≡ map (λ t. t.0) (tables r WHSE1 [])
named One = refl
named Two = refl

abbrev acme : Cell
acme = Text (codes "ZZ-ACME")

abbrev lot : ℕ → ℕ → ℕ → ℕ → ℕ → Change
lot since expected on_hand reserved shipped = Puts (codes "stock")
    (acme ∷ Text (codes "BOLT") ∷ Text (codes "L1") ∷ Number since ∷ Number expected ∷ Number on_hand ∷ Number reserved ∷ Number shipped ∷ [])

abbrev advice : ℕ → Change
advice is_open = Puts (codes "advice") (acme ∷ Text (codes "SHP1") ∷ Text (codes "PO77") ∷ Number is_open ∷ [])

abbrev order : ℕ → Change
order is_open = Puts (codes "orders") (acme ∷ Text (codes "ORD1") ∷ Number is_open ∷ Null ∷ Text [] ∷ Text [] ∷ Text [] ∷ [])

-- whether tables have the same rows

abbrev pub same_rows : List TableRow → List TableRow → Bool
same_rows [] [] = true
same_rows (a ∷ as1) (b ∷ bs) = not (key_before a b) && not (key_before b a) && same_rows as1 bs
same_rows rs qs = false

abbrev pub same_tables : AllTables → AllTables → Bool
same_tables [] [] = true
same_tables (s ∷ ss) (t ∷ ts) = bytes_eq s.0 t.0 && same_rows s.1 t.1 && same_tables ss ts
same_tables ss ts = false

-- whether these changes lead from the tables before the command to those after it
abbrev leads : Rules → List (Command × Moment) → Command × Moment → List Change → Bool
leads r before c cs = same_tables
    (changed_by (with_entry r WHSE1 (book r before) (entry_of r c.0 c.1) (tables r WHSE1 (book r before))) cs)
    (tables r WHSE1 (book r (before ++ c ∷ [])))

announced : (r : Rules) → leads r [] (sends first_advice)
    (lot 0 100 0 0 0 ∷ advice 1 ∷ Puts (codes "advice_line") (acme ∷ Text (codes "SHP1") ∷ Number 1 ∷ Text (codes "BOLT") ∷ Text (codes "L1") ∷ Number 100 ∷ []) ∷ [])
    ≡ true
unfolding digits
announced One = refl
announced Two = refl

counted : (r : Rules) → leads r (sends first_advice ∷ []) first_receipt (lot 2 0 90 0 0 ∷ advice 0 ∷ []) ≡ true
unfolding digits
counted One = refl
counted Two = refl

not_counted : (r : Rules) → leads r (sends first_advice ∷ []) first_receipt (lot 2 0 90 0 0 ∷ []) ≡ false
unfolding digits
not_counted One = refl
not_counted Two = refl

ordered : (r : Rules) → leads r until_count (sends first_order)
    (lot 2 0 90 90 0 ∷ order 1
    ∷ Puts (codes "order_line") (acme ∷ Text (codes "ORD1") ∷ Number 1 ∷ Text (codes "BOLT") ∷ Null ∷ Number 120 ∷ [])
    ∷ Puts (codes "reservation") (acme ∷ Text (codes "ORD1") ∷ Text (codes "BOLT") ∷ Text (codes "L1") ∷ Number 90 ∷ []) ∷ [])
    ≡ true
unfolding digits
ordered One = refl
ordered Two = refl

picked_up : (r : Rules) → leads r until_order first_pick
    (lot 2 0 0 0 90 ∷ order 0 ∷ Frees (codes "ZZ-ACME") (codes "ORD1") ∷ [])
    ≡ true
unfolding digits
picked_up One = refl
picked_up Two = refl

acknowledged : (r : Rules) → leads r until_pick (sends last_acknowledgment) (SetsState (codes "ZZ-ACME") 4 (Some true) ∷ []) ≡ true
unfolding digits
acknowledged One = refl
acknowledged Two = refl

-- a page
page_then : (r : Rules) → page_of (own (book r until_acknowledgment) ACME) ≡ record {
  rows = record { item = codes "BOLT"; lot = codes "L1"; expiry = None; since = 2; expected = 0; on_hand = 0; reserved = 0; shipped = 90 } ∷ [];
  advices = record { shipment = codes "SHP1"; order = codes "PO77"; lines = line (codes "BOLT") (codes "L1") 100 ∷ []; is_open = false } ∷ [];
  orders = record {
    number = codes "ORD1";
    address = None;
    lines = record { item = codes "BOLT"; pin = None; quantity = 120 } ∷ [];
    reserved = [];
    is_open = false;
  } ∷ [];
  documents = record { n = 2; function = codes "RE"; said = None } ∷ record { n = 4; function = codes "SW"; said = Some true } ∷ [];
  entries = 5;
}
unfolding digits
page_then One = refl
page_then Two = refl
