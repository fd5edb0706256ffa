-- Worked examples of a clerk's sheets at their limits, from the records of three fields that the
-- clerk hands in.
use Rattle.std.specs.Prelude.{◌≡◌, ℕ, ◌+◌, ◌/◌, ◌%◌, List, [], ◌∷◌, map, Ok, Err, codes, Result}
use Rattle.std.specs.List.{range_with_len}
use Rattle.std.proofs.Common.{refl}
use Rattle.std.specs.Fmt.{digits}
use Rattle.definitions.specs.Rules.{Today}
use Rattle.definitions.specs.declared.sheet_kind.SheetKind.{SheetKind}
use Rattle.definitions.specs.declared.sheet_kind.SheetKind.TheVariants.{Count as CountSheet, Pick as PickSheet, Recount as RecountSheet}
use Rattle.definitions.specs.declared.refusals.Refusal.{Refusal}
use Rattle.definitions.specs.declared.refusals.Refusal.TheVariants.{TooMuch, BadText, TooManyLines}
use Rattle.definitions.specs.Means.{Line}
use Rattle.definitions.specs.Refusals.{told_refusal}
use Rattle.definitions.specs.Clerk.{sheet_of_records}
use Rattle.definitions.proofs.Sample.{line}

-- the numbers and names that a clerk sees
numbers : map told_refusal (TooMuch ∷ BadText ∷ TooManyLines ∷ [])
    ≡ codes "30 TooMuch" ∷ codes "32 BadText" ∷ codes "33 TooManyLines" ∷ []
unfolding digits
numbers = refl

-- the sheet of one line of bolts
abbrev sheet : SheetKind → List ℕ → Result (List Line) Refusal
sheet kind quantity =
    sheet_of_records Today kind ((codes "BOLT" ∷ codes "L1" ∷ quantity ∷ []) ∷ [])

abbrev bolts : ℕ → Result (List Line) Refusal
bolts quantity = Ok (line (codes "BOLT") (codes "L1") quantity ∷ [])

-- a recount of nine digits is a sheet, one of ten isn't, even where the first of them is 0
largest_recount : map (sheet RecountSheet)
    (codes "999999999" ∷ codes "1000000000" ∷ codes "0999999999" ∷ [])
    ≡ bolts 999999999 ∷ Err TooMuch ∷ Err TooMuch ∷ []
unfolding digits
largest_recount = refl

-- a pick has 999,999 at most and 1 at least; zeros in front mean nothing
largest_pick : map (sheet PickSheet)
    (codes "999999" ∷ codes "000999999" ∷ codes "1000000" ∷ codes "999999999" ∷ codes "0" ∷ [])
    ≡ bolts 999999 ∷ bolts 999999 ∷ Err TooMuch ∷ Err TooMuch ∷ Err BadText ∷ []
unfolding digits
largest_pick = refl

-- a count has 999,999 at most, and may have 0
largest_count : map (sheet CountSheet) (codes "999999" ∷ codes "1000000" ∷ codes "0" ∷ [])
    ≡ bolts 999999 ∷ Err TooMuch ∷ bolts 0 ∷ []
unfolding digits
largest_count = refl

-- a recount of n items, each of three digits, in order, with nine digits of each
abbrev item : ℕ → List ℕ
item k = (48 + k / 100) ∷ (48 + k / 10 % 10) ∷ (48 + k % 10) ∷ []

abbrev recount : ℕ → Result (List Line) Refusal
recount n = sheet_of_records Today RecountSheet
    (map (λ k. item k ∷ codes "L1" ∷ codes "999999999" ∷ []) (range_with_len 1 n))

-- 999 lines are a sheet
full_recount : recount 999
    ≡ Ok (map (λ k. line (item k) (codes "L1") 999999999) (range_with_len 1 999))
full_recount = refl

-- and a thousand aren't
recount_too_long : recount 1000 ≡ Err TooManyLines
recount_too_long = refl
