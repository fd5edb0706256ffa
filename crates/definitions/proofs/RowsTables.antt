-- The tables of the book after the main examples.
use Rattle.std.specs.Prelude.{◌≡◌, [], ◌∷◌, codes}
use Rattle.std.proofs.Common.{refl}
use Rattle.std.specs.Fmt.{digits}
use Rattle.definitions.specs.declared.rules.Rules.{Rules}
use Rattle.definitions.specs.declared.rules.Rules.TheVariants.{One, Two}
use Rattle.definitions.specs.Tables.{Cell, Null, Number, Text, Blob, book_table, entry_table, outgoing_table, stock_table, advice_table, advice_line_table, orders_table, order_line_table, reservation_table}
use Rattle.definitions.proofs.Sample.{WHSE1, first_advice, first_answer, book}
use Rattle.definitions.proofs.RowsTrade.{first_order, count_text, order_text, pick_text, until_count, until_order, until_pick, until_acknowledgment}

book_row : book_table One WHSE1 ∷ book_table Two WHSE1 ∷ []
    ≡ ((Number 1 ∷ Text (codes "ZZ") ∷ Text (codes "WHSE1") ∷ []) ∷ []) ∷ ((Number 2 ∷ Text (codes "ZZ") ∷ Text (codes "WHSE1") ∷ []) ∷ []) ∷ []
book_row = refl

abbrev acme : Cell
acme = Text (codes "ZZ-ACME")

abbrev at_morning : Cell
at_morning = Text (codes "202503040915")

entries : (r : Rules) → entry_table (book r until_pick)
    ≡ (Number 1 ∷ acme ∷ Text (codes "E") ∷ Number 0 ∷ at_morning ∷ Blob [] ∷ [])
    ∷ (Number 2 ∷ acme ∷ Text (codes "X000000001") ∷ Number 1 ∷ at_morning ∷ Blob first_advice ∷ [])
    ∷ (Number 3 ∷ acme ∷ Text (codes "TT1") ∷ Number 2 ∷ at_morning ∷ Blob (codes "count SHP1\nBOLT,L1,90\n") ∷ [])
    ∷ (Number 4 ∷ acme ∷ Text (codes "X000000002") ∷ Number 3 ∷ at_morning ∷ Blob first_order ∷ [])
    ∷ (Number 5 ∷ acme ∷ Text (codes "TT2") ∷ Number 4 ∷ at_morning ∷ Blob (codes "pick ORD1\nBOLT,L1,90\n") ∷ [])
    ∷ []
unfolding digits
entries One = refl
entries Two = refl

outgoing : (r : Rules) → outgoing_table WHSE1 (book r until_acknowledgment)
    ≡ (acme ∷ Number 1 ∷ Text (codes "ANS") ∷ Blob first_answer ∷ Text (codes "-") ∷ [])
    ∷ (acme ∷ Number 2 ∷ Text (codes "944") ∷ Blob count_text ∷ Text (codes "open") ∷ [])
    ∷ (acme ∷ Number 3 ∷ Text (codes "ANS") ∷ Blob order_text ∷ Text (codes "-") ∷ [])
    ∷ (acme ∷ Number 4 ∷ Text (codes "945") ∷ Blob pick_text ∷ Text (codes "accepted") ∷ [])
    ∷ (acme ∷ Number 5 ∷ Text (codes "ANS") ∷ Blob [] ∷ Text (codes "-") ∷ [])
    ∷ []
unfolding digits
outgoing One = refl
outgoing Two = refl

stock : (r : Rules) → stock_table (book r until_order)
    ≡ (acme ∷ Text (codes "BOLT") ∷ Text (codes "L1") ∷ Number 2 ∷ Number 0 ∷ Number 90 ∷ Number 90 ∷ Number 0 ∷ []) ∷ []
unfolding digits
stock One = refl
stock Two = refl

advices : (r : Rules) → advice_table (book r until_count) ∷ advice_line_table (book r until_count) ∷ []
    ≡ ((acme ∷ Text (codes "SHP1") ∷ Text (codes "PO77") ∷ Number 0 ∷ []) ∷ [])
    ∷ ((acme ∷ Text (codes "SHP1") ∷ Number 1 ∷ Text (codes "BOLT") ∷ Text (codes "L1") ∷ Number 100 ∷ []) ∷ [])
    ∷ []
unfolding digits
advices One = refl
advices Two = refl

orders : (r : Rules) → orders_table (book r until_order) ∷ order_line_table (book r until_order) ∷ reservation_table (book r until_order) ∷ []
    ≡ ((acme ∷ Text (codes "ORD1") ∷ Number 1 ∷ Null ∷ Text [] ∷ Text [] ∷ Text [] ∷ []) ∷ [])
    ∷ ((acme ∷ Text (codes "ORD1") ∷ Number 1 ∷ Text (codes "BOLT") ∷ Null ∷ Number 120 ∷ []) ∷ [])
    ∷ ((acme ∷ Text (codes "ORD1") ∷ Text (codes "BOLT") ∷ Text (codes "L1") ∷ Number 90 ∷ []) ∷ [])
    ∷ []
unfolding digits
orders One = refl
orders Two = refl

picked_orders : (r : Rules) → orders_table (book r until_pick) ∷ reservation_table (book r until_pick) ∷ []
    ≡ ((acme ∷ Text (codes "ORD1") ∷ Number 0 ∷ Null ∷ Text [] ∷ Text [] ∷ Text [] ∷ []) ∷ []) ∷ [] ∷ []
unfolding digits
picked_orders One = refl
picked_orders Two = refl
