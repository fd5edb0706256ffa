-- The dates that rows of lots have; and rows of lots and rows of dates that are walked together,
-- where both stand by item and lot.
use Rattle.std.proofs.Common.{◌≡◌, ◌⊎◌, ◌∙◌, inl, inr, ℕ, zero, suc, Bool, true, false, ◌&&◌, List, [], ◌∷◌, ◌++◌, map, drop, None, Some, Option, bytes_eq, refl, sym, ap}
use Rattle.std.specs.Prelude.{if◌then◌else◌, flat_map, option_to_list}
use Rattle.std.specs.Cmp.Derive.{both_true}
use Rattle.std.specs.List.{list_all}
use Rattle.std.proofs.lemmas.Bool.{and_parts, cases_Bool}
use Rattle.sqlite.specs.Order.{Row}
use Rattle.definitions.specs.Rows.{LotRow}
use Rattle.definitions.specs.Tables.{Text, TableRow, expiry_cells}
use Rattle.definitions.proofs.TextLaws.{same_text, text_is}
use Rattle.rules.specs.Keyed.{Pair, rises_by, row_key, key_before as pairs_in_order}
use Rattle.rules.proofs.KeyLemmas.{pairs_strict}
use Rattle.book_statements.specs.Dated.{Dated, date_shown, dates_of}

abbrev pub date_cells : Dated → TableRow
date_cells d = Text d.item ∷ Text d.lot ∷ Text d.expiry ∷ []

abbrev pub date_key : Dated → Pair
date_key d = (d.item, d.lot)

-- the dates that rows have, one after another
pub dates_in : (rows : List LotRow) → flat_map expiry_cells rows ≡ map date_cells (dates_of rows)
dates_in [] = refl
dates_in (r ∷ rows) = by r.expiry (dates_in rows)
  where
    by : (o : Option (List ℕ)) → flat_map expiry_cells rows ≡ map date_cells (dates_of rows) → map (λ date. Text r.item ∷ Text r.lot ∷ Text date ∷ []) (option_to_list o) ++ flat_map expiry_cells rows
        ≡ map date_cells (map (λ date. record { item = r.item; lot = r.lot; expiry = date }) (option_to_list o) ++ dates_of rows)
    by None later = later
    by (Some date) later = ap (λ (rs : List TableRow). (Text r.item ∷ Text r.lot ∷ Text date ∷ []) ∷ rs) later

pub dates_over : (key : Pair) (rows : List LotRow) → list_all (λ (r : LotRow). pairs_in_order key (row_key r)) rows ≡ true → list_all (λ (d : Dated). pairs_in_order key (date_key d)) (dates_of rows) ≡ true
dates_over key [] h = refl
dates_over key (r ∷ rows) h =
    let p = and_parts (pairs_in_order key (row_key r)) (list_all (λ (s : LotRow). pairs_in_order key (row_key s)) rows) h in
    by r.expiry p.0 (dates_over key rows p.1)
  where
    by : (o : Option (List ℕ)) → pairs_in_order key (row_key r) ≡ true → list_all (λ (d : Dated). pairs_in_order key (date_key d)) (dates_of rows) ≡ true
        → list_all (λ (d : Dated). pairs_in_order key (date_key d)) (map (λ date. record { item = r.item; lot = r.lot; expiry = date }) (option_to_list o) ++ dates_of rows) ≡ true
    by None first later = later
    by (Some date) first later = both_true first later

-- and they rise where the rows do
pub dates_rise : (rows : List LotRow) → rises_by pairs_in_order row_key rows ≡ true → rises_by pairs_in_order date_key (dates_of rows) ≡ true
dates_rise [] h = refl
dates_rise (r ∷ rows) h =
    let p = and_parts (list_all (λ (s : LotRow). pairs_in_order (row_key r) (row_key s)) rows) (rises_by pairs_in_order row_key rows) h in
    by r.expiry (dates_over (row_key r) rows p.0) (dates_rise rows p.1)
  where
    by : (o : Option (List ℕ)) → list_all (λ (d : Dated). pairs_in_order (row_key r) (date_key d)) (dates_of rows) ≡ true → rises_by pairs_in_order date_key (dates_of rows) ≡ true
        → rises_by pairs_in_order date_key (map (λ date. record { item = r.item; lot = r.lot; expiry = date }) (option_to_list o) ++ dates_of rows) ≡ true
    by None over later = later
    by (Some date) over later = both_true over later

-- what is read of a row of a date, if that is of the pair
abbrev pub reads : LotRow → Dated → Option (List ℕ)
reads r d = if bytes_eq r.item d.item && bytes_eq r.lot d.lot then Some d.expiry else None

heads : (a b : Row) (as1 bs : List Row) → ◌≡◌ {A = List Row} (a ∷ as1) (b ∷ bs) → (a ≡ b) × (as1 ≡ bs)
heads a b as1 bs e = (cc, cc)

-- a date of a later pair isn't the row's
apart : (r : LotRow) (d : Dated) → pairs_in_order (row_key r) (date_key d) ≡ true → (bytes_eq r.item d.item && bytes_eq r.lot d.lot) ≡ false
apart r d later = elim (cases_Bool (bytes_eq r.item d.item && bytes_eq r.lot d.lot)) [
  | inl same ↦
      let p = and_parts (bytes_eq r.item d.item) (bytes_eq r.lot d.lot) same in
      let item = text_is r.item d.item p.0 in
      let lot = text_is r.lot d.lot p.1 in
      let e : ◌≡◌ {A = Bool} true false = sym later ∙ (λ i. pairs_in_order (row_key r) (sym item i, sym lot i)) ∙ pairs_strict.never (row_key r) in
      absurd (cc e)
  | inr differs ↦ differs
]

-- rows of dates that are the row's and those of later ones begin with the row's, if it has one
module _ (r : LotRow) (rs : List LotRow) (rise : rises_by pairs_in_order row_key (r ∷ rs) ≡ true) where
  abbrev pub its : Option (List ℕ) → List Dated
  its o = map (λ date. record { item = r.item; lot = r.lot; expiry = date }) (option_to_list o) ++ dates_of rs

  pub none_left : (dates : List Row) → dates ≡ [] → dates ≡ map date_shown (dates_of (r ∷ rs)) → (None ≡ r.expiry) × (dates ≡ map date_shown (dates_of rs))
  none_left dates none is = by r.expiry is
    where
      by : (o : Option (List ℕ)) → dates ≡ map date_shown (its o) → (None ≡ o) × (dates ≡ map date_shown (dates_of rs))
      by None h = (refl, h)
      by (Some date) h = absurd (let e : [] ≡ map date_shown (its (Some date)) = sym none ∙ h in cc e)

  module _ (dates : List Row) (first : Row) (rest : List Row) (split : dates ≡ first ∷ rest) (is : dates ≡ map date_shown (dates_of (r ∷ rs))) (read : Option (List ℕ)) (right : (d : Dated) → first ≡ date_shown d → read ≡ reads r d) where
    abbrev Met : Option (List ℕ) → Type 0
    Met o = ((date : List ℕ) × (o ≡ Some date) × (read ≡ Some date) × (rest ≡ map date_shown (dates_of rs))) ⊎ ((o ≡ None) × (read ≡ None) × (dates ≡ map date_shown (dates_of rs)))

    unread : (ds : List Dated) → list_all (λ (d : Dated). pairs_in_order (row_key r) (date_key d)) ds ≡ true → first ∷ rest ≡ map date_shown ds → read ≡ None
    unread [] over h = absurd (cc h)
    unread (d ∷ ds) over h =
        let p = and_parts (pairs_in_order (row_key r) (date_key d)) (list_all (λ (x : Dated). pairs_in_order (row_key r) (date_key x)) ds) over in
        right d (heads first (date_shown d) rest (map date_shown ds) h).0 ∙ ap (λ (b : Bool). if b then Some d.expiry else None) (apart r d p.0)

    met : Met r.expiry
    met = by r.expiry is
      where
        by : (o : Option (List ℕ)) → dates ≡ map date_shown (its o) → Met o
        by None h = inr (refl, unread (dates_of rs) (dates_over (row_key r) rs (and_parts (list_all (λ (s : LotRow). pairs_in_order (row_key r) (row_key s)) rs) (rises_by pairs_in_order row_key rs) rise).0) (sym split ∙ h), h)
        by (Some date) h =
            let d : Dated = record { item = r.item; lot = r.lot; expiry = date } in
            let p = heads first (date_shown d) rest (map date_shown (dates_of rs)) (sym split ∙ h) in
            inl (date, refl, right d p.0 ∙ (λ i. if same_text r.item i && same_text r.lot i then Some date else None), p.1)

    pub date_met : (date : List ℕ) → read ≡ Some date → (Some date ≡ r.expiry) × (rest ≡ map date_shown (dates_of rs))
    date_met date is_read = elim met [
      | inl some ↦ (sym is_read ∙ some.2 ∙ sym some.1, some.3)
      | inr none ↦ absurd (let e : ◌≡◌ {A = Option (List ℕ)} None (Some date) = sym none.1 ∙ is_read in cc e)
    ]

    pub no_date_met : read ≡ None → (None ≡ r.expiry) × (dates ≡ map date_shown (dates_of rs))
    no_date_met is_read = elim met [
      | inl some ↦ absurd (let e : ◌≡◌ {A = Option (List ℕ)} None (Some some.0) = sym is_read ∙ some.2 in cc e)
      | inr none ↦ (sym none.0, none.2)
    ]

-- rows from a place on rise too
pub rises_left : (rows : List LotRow) (i : ℕ) → rises_by pairs_in_order row_key rows ≡ true → rises_by pairs_in_order row_key (drop i rows) ≡ true
rises_left rows zero h = h
rises_left [] (suc i) h = h
rises_left (r ∷ rows) (suc i) h = rises_left rows i (and_parts (list_all (λ (s : LotRow). pairs_in_order (row_key r) (row_key s)) rows) (rises_by pairs_in_order row_key rows) h).1
