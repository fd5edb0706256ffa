-- Worked examples: which record is a reason of a refusal, and what is told of it.
use Rattle.std.proofs.Common.{◌≡◌, List, ℕ, [], ◌∷◌, codes, replicate, refl, true, false, Some, None}
use Rattle.csv.specs.Records.{field_at}
use Rattle.csv.proofs.OnLiterals.{csv_on_literals}
use Rattle.definitions.specs.declared.sheet_kind.SheetKind.TheVariants.{Count as CountSheet, Pick as PickSheet, Recount as RecountSheet}
use Rattle.definitions.specs.declared.refusals.Refusal.TheVariants.{TooMuch, RepeatedLine, BadText, TooManyLines, UnknownOrder}
use Rattle.sheet_texts.specs.Reasons.{is_reason, first_reason, reason_text, told, told_of_text, has_pair}

-- the fields of `ITEM,LOT,QUANTITY`
abbrev line : List ℕ → List ℕ → List ℕ → List (List ℕ)
line item lot quantity = item ∷ lot ∷ quantity ∷ []

two_fields : is_reason CountSheet [] (codes "BOLT-8" ∷ codes "L1" ∷ []) BadText ≡ true
unfolding field_at
two_fields = refl

whole_line : is_reason CountSheet [] (line (codes "BOLT-8") (codes "L1") (codes "0")) BadText ≡ false
unfolding field_at
whole_line = refl

small_letters : is_reason CountSheet [] (line (codes "bolt") (codes "L1") (codes "5")) BadText ≡ true
unfolding field_at
small_letters = refl

picks_zero : is_reason PickSheet [] (line (codes "BOLT-8") (codes "L1") (codes "0")) BadText ≡ true
unfolding field_at
picks_zero = refl

picks_a_million : is_reason PickSheet [] (line (codes "BOLT-8") (codes "L1") (codes "1000000")) TooMuch ≡ true
unfolding field_at
picks_a_million = refl

picks_one_less : is_reason PickSheet [] (line (codes "BOLT-8") (codes "L1") (codes "999999")) TooMuch ≡ false
unfolding field_at
picks_one_less = refl

recounts_a_million : is_reason RecountSheet [] (line (codes "BOLT-8") (codes "L1") (codes "1000000")) TooMuch ≡ false
unfolding field_at
recounts_a_million = refl

recounts_ten_digits : is_reason RecountSheet [] (line (codes "BOLT-8") (codes "L1") (codes "1000000000")) TooMuch ≡ true
unfolding field_at
recounts_ten_digits = refl

-- a pick of 0 in ten digits is too much, and no more than that
picks_ten_zeros : is_reason PickSheet [] (line (codes "BOLT-8") (codes "L1") (codes "0000000000")) BadText ≡ false
unfolding field_at
picks_ten_zeros = refl

ten_zeros_too_much : is_reason PickSheet [] (line (codes "BOLT-8") (codes "L1") (codes "0000000000")) TooMuch ≡ true
unfolding field_at
ten_zeros_too_much = refl

-- the same pair with another quantity
pair_twice : is_reason CountSheet (line (codes "BOLT-8") (codes "L1") (codes "5") ∷ []) (line (codes "BOLT-8") (codes "L1") (codes "7")) RepeatedLine ≡ true
unfolding field_at
pair_twice = refl

other_lot : is_reason CountSheet (line (codes "BOLT-8") (codes "L1") (codes "5") ∷ []) (line (codes "BOLT-8") (codes "L2") (codes "7")) RepeatedLine ≡ false
unfolding field_at
other_lot = refl

the_999th : is_reason CountSheet (replicate 998 []) [] TooManyLines ≡ false
the_999th = refl

the_1000th : is_reason CountSheet (replicate 999 []) [] TooManyLines ≡ true
the_1000th = refl

-- no line is the reason of an unknown order
another_refusal : is_reason PickSheet [] [] UnknownOrder ≡ false
unfolding field_at
another_refusal = refl

with_pair : told (line (codes "BOLT-8") (codes "L1") (codes "1000000")) (reason_text PickSheet (line (codes "BOLT-8") (codes "L1") (codes "1000000")) TooMuch) ≡ codes "BOLT-8 L1: a quantity is at most 999,999"
unfolding field_at
with_pair = refl

without_pair : told (line (codes "bolt") (codes "L1") (codes "5")) (reason_text CountSheet (line (codes "bolt") (codes "L1") (codes "5")) BadText) ≡ codes "an item has 1 to 20 characters of A to Z, 0 to 9, - and ."
unfolding field_at
without_pair = refl

no_quantity : told (codes "BOLT-8" ∷ codes "L1" ∷ []) (reason_text CountSheet (codes "BOLT-8" ∷ codes "L1" ∷ []) BadText) ≡ codes "BOLT-8 L1: a line has three fields: item, lot and quantity"
unfolding field_at
no_quantity = refl

-- the second of three
second : first_reason PickSheet TooMuch (line (codes "A") (codes "L") (codes "1") ∷ line (codes "B") (codes "L") (codes "1000000") ∷ line (codes "C") (codes "L") (codes "2000000") ∷ [])
    ≡ Some (line (codes "A") (codes "L") (codes "1") ∷ [], line (codes "B") (codes "L") (codes "1000000"))
unfolding field_at
second = refl

none : first_reason PickSheet RepeatedLine (line (codes "A") (codes "L") (codes "1") ∷ line (codes "B") (codes "L") (codes "1") ∷ []) ≡ None
unfolding field_at
none = refl

there : has_pair (codes "A") (codes "L") (line (codes "A") (codes "L") (codes "1")) ≡ true
unfolding field_at
there = refl

-- Texts.

told_text : told_of_text PickSheet TooMuch (codes "A,L,1\nB,L,1000000\n") ≡ Some (codes "B L: a quantity is at most 999,999")
unfolding field_at csv_on_literals
told_text = refl

-- the empty line is no record
told_later : told_of_text CountSheet RepeatedLine (codes "A,L,1\n\nA,L,2\n") ≡ Some (codes "A L: a line before it has this pair")
unfolding field_at csv_on_literals
told_later = refl

told_alone : told_of_text CountSheet BadText (codes "A,L,1\na,L,2\n") ≡ Some (codes "an item has 1 to 20 characters of A to Z, 0 to 9, - and .")
unfolding field_at csv_on_literals
told_alone = refl

told_nothing : told_of_text CountSheet BadText (codes "A,L,1\n") ≡ None
unfolding field_at csv_on_literals
told_nothing = refl
