-- Worked examples of tickets used again and of sheets of lines.
use Rattle.std.specs.Prelude.{◌≡◌, ℕ, true, false, List, [], ◌∷◌, ◌++◌, map, replicate, is_ok, Ok, Err, codes, decimal, Result}
use Rattle.std.specs.List.{range_with_len}
use Rattle.std.proofs.Common.{refl}
use Rattle.std.specs.Fmt.{digits}
use Rattle.definitions.specs.declared.rules.Rules.{Rules}
use Rattle.definitions.specs.declared.rules.Rules.TheVariants.{One, Two}
use Rattle.definitions.specs.Means.{Line}
use Rattle.definitions.specs.Register.{Act, Count, Clerk}
use Rattle.definitions.specs.Refusals.{Refusal, UnknownDepositor, TicketUsed, UnknownAdvice, AdviceClosed, TooMuch, RepeatedLine, BadText, TooManyLines, AlreadyEnrolled}
use Rattle.definitions.specs.Clerk.{RawLine, sheet_of, is_sheet, sheet_of_records}
use Rattle.definitions.specs.declared.sheet_kind.SheetKind.TheVariants.{Count as CountSheet, Pick as PickSheet, Recount as RecountSheet}
use Rattle.definitions.specs.Reply.{Stored, Refused}
use Rattle.definitions.proofs.RowsTrade.{until_count, count_text}
use Rattle.definitions.proofs.Sample.{morning, enrols, line, does, reply_after}

-- Tickets.

abbrev raw : List ℕ → List ℕ → List ℕ → RawLine
raw item lot quantity = record { item = item; lot = lot; quantity = quantity }

-- the sheet of a count as read, as an act
abbrev count_as_read : Rules → List ℕ → List RawLine → Act
count_as_read r shipment lines = by_sheet (sheet_of r CountSheet lines)
  where
    by_sheet : Result (List Line) Refusal → Act
    by_sheet (Ok sheet) = Count shipment sheet
    by_sheet (Err r) = Count shipment []

tickets : (r : Rules) → reply_after r until_count (does (codes "T1") (count_as_read r (codes "SHP1") (raw (codes "BOLT") (codes "L1") (codes "090") ∷ [])))
    ∷ reply_after r until_count (does (codes "T1") (Count (codes "SHP1") (line (codes "BOLT") (codes "L1") 91 ∷ [])))
    ∷ reply_after r until_count (does (codes "T9") (Count (codes "SHP1") (line (codes "BOLT") (codes "L1") 90 ∷ [])))
    ∷ reply_after r until_count (does (codes "T9") (Count (codes "SHPX") (line (codes "BOLT") (codes "L1") 90 ∷ [])))
    ∷ reply_after r until_count (Clerk (record { qualifier = codes "ZZ"; id = codes "NONE" }) (codes "T9") (Count (codes "SHP1") []), morning)
    ∷ []
    ≡ Stored count_text ∷ Refused TicketUsed [] ∷ Refused AdviceClosed [] ∷ Refused UnknownAdvice [] ∷ Refused UnknownDepositor [] ∷ []
unfolding digits
tickets One = refl
tickets Two = refl

enrolled_again : (r : Rules) → reply_after r [] enrols ≡ Refused AlreadyEnrolled []
unfolding digits
enrolled_again r = refl

-- Sheets.

abbrev bolt : List ℕ → RawLine
bolt quantity = raw (codes "BOLT") (codes "L1") quantity

-- n lines of distinct lots
abbrev many : ℕ → List RawLine
many n = map (λ k. raw (codes "BOLT") (decimal k) (codes "1")) (range_with_len 1 n)

sheets : map (sheet_of One CountSheet)
    ((bolt (codes "100000") ∷ [])
    ∷ (bolt (codes "1234567890") ∷ [])
    ∷ (bolt (codes "+5") ∷ [])
    ∷ (bolt (codes "1") ∷ bolt (codes "1") ∷ [])
    ∷ many 100
    ∷ (many 99 ++ bolt (codes "+5") ∷ [])
    ∷ [])
    ≡ Err TooMuch ∷ Err TooMuch ∷ Err BadText ∷ Err RepeatedLine ∷ Err TooManyLines ∷ Err TooManyLines ∷ []
unfolding digits
sheets = refl

-- the same under the limits of rules 2
later_sheets : map (sheet_of Two CountSheet)
    ((bolt (codes "100000") ∷ [])
    ∷ (bolt (codes "999999") ∷ [])
    ∷ (bolt (codes "1000000") ∷ [])
    ∷ (bolt (codes "1234567890") ∷ [])
    ∷ (bolt (codes "+5") ∷ [])
    ∷ (bolt (codes "1") ∷ bolt (codes "1") ∷ [])
    ∷ many 1000
    ∷ (many 999 ++ bolt (codes "+5") ∷ [])
    ∷ [])
    ≡ Ok (line (codes "BOLT") (codes "L1") 100000 ∷ []) ∷ Ok (line (codes "BOLT") (codes "L1") 999999 ∷ [])
    ∷ Err TooMuch ∷ Err TooMuch ∷ Err BadText ∷ Err RepeatedLine ∷ Err TooManyLines ∷ Err TooManyLines ∷ []
unfolding digits
later_sheets = refl

-- picks and recounts at their limits
largest_sheets : map (sheet_of Two PickSheet) ((bolt (codes "999999") ∷ []) ∷ (bolt (codes "1000000") ∷ []) ∷ (bolt (codes "0") ∷ []) ∷ [])
    ++ map (sheet_of Two RecountSheet)
    ((bolt (codes "999999999") ∷ []) ∷ (bolt (codes "1000000000") ∷ []) ∷ (bolt (codes "0000000001") ∷ []) ∷ (bolt (codes "0") ∷ []) ∷ [])
    ≡ Ok (line (codes "BOLT") (codes "L1") 999999 ∷ []) ∷ Err TooMuch ∷ Err BadText
    ∷ Ok (line (codes "BOLT") (codes "L1") 999999999 ∷ []) ∷ Err TooMuch ∷ Err TooMuch ∷ Ok (line (codes "BOLT") (codes "L1") 0 ∷ [])
    ∷ []
unfolding digits
largest_sheets = refl

full_sheet : is_ok (sheet_of One CountSheet (many 99)) ∷ is_ok (sheet_of Two CountSheet (many 100)) ∷ [] ≡ true ∷ true ∷ []
unfolding digits
full_sheet = refl

-- records that aren't lines, and that there are too many comes first
bad_records : sheet_of_records One CountSheet ((codes "BOLT" ∷ codes "L1" ∷ []) ∷ [])
    ∷ sheet_of_records One CountSheet (replicate 100 (codes "BOLT" ∷ codes "L1" ∷ []))
    ∷ sheet_of_records Two CountSheet (replicate 100 (codes "BOLT" ∷ codes "L1" ∷ []))
    ∷ sheet_of_records Two CountSheet (replicate 1000 (codes "BOLT" ∷ codes "L1" ∷ []))
    ∷ sheet_of_records One CountSheet ((codes "BOLT" ∷ codes "L1" ∷ codes "090" ∷ []) ∷ []) ∷ []
    ≡ Err BadText ∷ Err TooManyLines ∷ Err BadText ∷ Err TooManyLines ∷ Ok (line (codes "BOLT") (codes "L1") 90 ∷ []) ∷ []
bad_records = refl

sheets_in_order : (r : Rules) → sheet_of r PickSheet (raw (codes "NUT") (codes "L1") (codes "1") ∷ raw (codes "BOLT") (codes "L2") (codes "07") ∷ bolt (codes "3") ∷ [])
    ≡ Ok (line (codes "BOLT") (codes "L1") 3 ∷ line (codes "BOLT") (codes "L2") 7 ∷ line (codes "NUT") (codes "L1") 1 ∷ [])
unfolding digits
sheets_in_order One = refl
sheets_in_order Two = refl

-- what is read in order is a sheet
is_a_sheet : (r : Rules) → is_sheet r PickSheet (line (codes "BOLT") (codes "L1") 3 ∷ line (codes "BOLT") (codes "L2") 7 ∷ line (codes "NUT") (codes "L1") 1 ∷ [])
    ∷ is_sheet r PickSheet (line (codes "BOLT") (codes "L2") 7 ∷ line (codes "BOLT") (codes "L1") 3 ∷ [])
    ∷ is_sheet r PickSheet (line (codes "BOLT") (codes "L2") 0 ∷ [])
    ∷ is_sheet r CountSheet (line (codes "BOLT") (codes "L2") 0 ∷ []) ∷ [] ≡ true ∷ false ∷ false ∷ true ∷ []
is_a_sheet One = refl
is_a_sheet Two = refl

pick_of_none : (r : Rules) → sheet_of r PickSheet (bolt (codes "0") ∷ []) ∷ sheet_of r CountSheet (bolt (codes "0") ∷ []) ∷ [] ≡ Err BadText ∷ Ok (line (codes "BOLT") (codes "L1") 0 ∷ []) ∷ []
unfolding digits
pick_of_none One = refl
pick_of_none Two = refl
