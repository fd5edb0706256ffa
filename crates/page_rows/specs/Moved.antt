-- What becomes of rows where lines move.
use Rattle.std.specs.Prelude.{ℕ, ◌≡◌, ◌<◌, ◌+◌, max, true, false, List, [], ◌∷◌, map, length, slice_index_or, fold, if◌then◌else◌}
use Rattle.std.specs.List.{list_any}
use Rattle.definitions.specs.Events.{is_pair}
use Rattle.definitions.specs.Lists.{or_else}
use Rattle.definitions.specs.Rows.{LotRow}
use Rattle.definitions.specs.Means.{Line, AdviceLine}
use Rattle.definitions.specs.Movements.{Column, Expected, OnHand, Reservation, Shipped, column_eq}
use Rattle.page_rows.specs.Keyed.{IsSorted}
use Rattle.page_rows.specs.OfPairs.{is_row, of_pair, date_of_pair, one, since, amount, given, named_by, date_of, first_number}

-- the row of a pair is at i
pub record IsPlace (item lot : List ℕ) (rows : List LotRow) (i : ℕ) : Type 0 where
  pub within : i < length rows
  pub here : (d : LotRow) → is_row item lot (slice_index_or rows i d) ≡ true

-- there is a row for a line at i, and else nothing changes
pub record IsPlaced (old new : List LotRow) (line : Line) (i : ℕ) : Type 0 where
  pub sorted : IsSorted new
  pub place : IsPlace line.item line.lot new i
  pub amounts : (c : Column) (item lot : List ℕ)
      → of_pair (amount c) item lot new ≡ of_pair (amount c) item lot old
  pub sinces : (item lot : List ℕ) → of_pair since item lot new ≡ of_pair since item lot old
  pub expiries : (item lot : List ℕ) → date_of_pair item lot new ≡ date_of_pair item lot old
  pub named : (item lot : List ℕ)
      → of_pair one item lot new ≡ max (of_pair one item lot old) (named_by (line ∷ []) item lot)

-- lines came to a column
pub record IsAdded (column : Column) (lines : List Line) (old new : List LotRow) : Type 0 where
  pub sorted : IsSorted new
  pub amounts : (c : Column) (item lot : List ℕ)
      → of_pair (amount c) item lot new
      ≡ of_pair (amount c) item lot old + given column lines c item lot
  pub sinces : (item lot : List ℕ) → of_pair since item lot new ≡ of_pair since item lot old
  pub expiries : (item lot : List ℕ) → date_of_pair item lot new ≡ date_of_pair item lot old
  pub named : (item lot : List ℕ)
      → of_pair one item lot new ≡ max (of_pair one item lot old) (named_by lines item lot)

-- lines went from a column
pub record IsTaken (column : Column) (lines : List Line) (old new : List LotRow) : Type 0 where
  pub sorted : IsSorted new
  pub amounts : (c : Column) (item lot : List ℕ)
      → of_pair (amount c) item lot new + given column lines c item lot
      ≡ of_pair (amount c) item lot old
  pub sinces : (item lot : List ℕ) → of_pair since item lot new ≡ of_pair since item lot old
  pub expiries : (item lot : List ℕ) → date_of_pair item lot new ≡ date_of_pair item lot old
  pub named : (item lot : List ℕ) → of_pair one item lot new ≡ of_pair one item lot old

-- lines were named by the count of a number
pub record IsMarked (n : ℕ) (lines : List Line) (old new : List LotRow) : Type 0 where
  pub sorted : IsSorted new
  pub amounts : (c : Column) (item lot : List ℕ)
      → of_pair (amount c) item lot new ≡ of_pair (amount c) item lot old
  pub sinces : (item lot : List ℕ)
      → of_pair since item lot new
      ≡ first_number n (list_any (is_pair item lot) lines) (of_pair since item lot old)
  pub expiries : (item lot : List ℕ) → date_of_pair item lot new ≡ date_of_pair item lot old
  pub named : (item lot : List ℕ) → of_pair one item lot new ≡ of_pair one item lot old

-- the rows of lines were given their dates, unless they had one
pub record IsDated (lines : List AdviceLine) (old new : List LotRow) : Type 0 where
  pub sorted : IsSorted new
  pub amounts : (c : Column) (item lot : List ℕ)
      → of_pair (amount c) item lot new ≡ of_pair (amount c) item lot old
  pub sinces : (item lot : List ℕ) → of_pair since item lot new ≡ of_pair since item lot old
  pub expiries : (item lot : List ℕ)
      → date_of_pair item lot new ≡ or_else (date_of_pair item lot old) (date_of lines item lot)
  pub named : (item lot : List ℕ) → of_pair one item lot new ≡ of_pair one item lot old

-- lines of an advice came to what is expected, with their dates
pub record IsAdvised (lines : List AdviceLine) (old new : List LotRow) : Type 0 where
  pub sorted : IsSorted new
  pub amounts : (c : Column) (item lot : List ℕ)
      → of_pair (amount c) item lot new
      ≡ of_pair (amount c) item lot old + given Expected (map (λ l. l.line) lines) c item lot
  pub sinces : (item lot : List ℕ) → of_pair since item lot new ≡ of_pair since item lot old
  pub expiries : (item lot : List ℕ)
      → date_of_pair item lot new ≡ or_else (date_of_pair item lot old) (date_of lines item lot)
  pub named : (item lot : List ℕ)
      → of_pair one item lot new
      ≡ max (of_pair one item lot old) (named_by (map (λ l. l.line) lines) item lot)

-- what was expected went, a sheet came on hand and was numbered
pub record IsCounted (n : ℕ) (expected sheet : List Line) (old new : List LotRow) : Type 0 where
  pub sorted : IsSorted new
  pub amounts : (c : Column) (item lot : List ℕ)
      → of_pair (amount c) item lot new + given Expected expected c item lot
      ≡ of_pair (amount c) item lot old + given OnHand sheet c item lot
  pub sinces : (item lot : List ℕ)
      → of_pair since item lot new
      ≡ first_number n (list_any (is_pair item lot) sheet) (of_pair since item lot old)
  pub expiries : (item lot : List ℕ) → date_of_pair item lot new ≡ date_of_pair item lot old
  pub named : (item lot : List ℕ)
      → of_pair one item lot new ≡ max (of_pair one item lot old) (named_by sheet item lot)

-- lines came to a column of rows that are there
pub record IsRaised (column : Column) (lines : List Line) (old new : List LotRow) : Type 0 where
  pub sorted : IsSorted new
  pub amounts : (c : Column) (item lot : List ℕ)
      → of_pair (amount c) item lot new
      ≡ of_pair (amount c) item lot old + given column lines c item lot
  pub sinces : (item lot : List ℕ) → of_pair since item lot new ≡ of_pair since item lot old
  pub expiries : (item lot : List ℕ) → date_of_pair item lot new ≡ date_of_pair item lot old
  pub named : (item lot : List ℕ) → of_pair one item lot new ≡ of_pair one item lot old

-- a sheet went from what is on hand and was shipped, and what was reserved went
pub record IsShipped (reserved sheet : List Line) (old new : List LotRow) : Type 0 where
  pub sorted : IsSorted new
  pub amounts : (c : Column) (item lot : List ℕ)
      → of_pair (amount c) item lot new + given OnHand sheet c item lot
      + given Reservation reserved c item lot
      ≡ of_pair (amount c) item lot old + given Shipped sheet c item lot
  pub sinces : (item lot : List ℕ) → of_pair since item lot new ≡ of_pair since item lot old
  pub expiries : (item lot : List ℕ) → date_of_pair item lot new ≡ date_of_pair item lot old
  pub named : (item lot : List ℕ) → of_pair one item lot new ≡ of_pair one item lot old

-- what is on hand of a pair after lines have set it, each one that names it
abbrev pub set_by : List Line → List ℕ → List ℕ → ℕ → ℕ
set_by lines item lot n = fold (λ (m : ℕ) (l : Line). if is_pair item lot l then l.quantity
    else m) n lines

-- lines set what is on hand
pub record SetsOnHand (lines : List Line) (old new : List LotRow) : Type 0 where
  pub sorted : IsSorted new
  pub on_hand : (item lot : List ℕ)
      → of_pair (amount OnHand) item lot new
      ≡ set_by lines item lot (of_pair (amount OnHand) item lot old)
  pub others : (c : Column) (item lot : List ℕ) → column_eq OnHand c ≡ false
      → of_pair (amount c) item lot new ≡ of_pair (amount c) item lot old
  pub sinces : (item lot : List ℕ) → of_pair since item lot new ≡ of_pair since item lot old
  pub expiries : (item lot : List ℕ) → date_of_pair item lot new ≡ date_of_pair item lot old
  pub named : (item lot : List ℕ) → of_pair one item lot new ≡ of_pair one item lot old
