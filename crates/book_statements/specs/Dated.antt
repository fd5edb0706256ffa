-- The dates of pairs, and what the queries of them show.
use Rattle.std.specs.Prelude.{ℕ, List, [], ◌∷◌, flat_map, map, option_to_list}
use Rattle.sqlite.specs.declared.types.Value.TheVariants.{Text}
use Rattle.sqlite.specs.Order.{Row}
use Rattle.definitions.specs.Rows.{LotRow}

-- a pair with its date
pub record Dated : Type 0 where
  pub item : List ℕ
  pub lot : List ℕ
  pub expiry : List ℕ

-- those of the rows that have one
abbrev pub dates_of : List LotRow → List Dated
dates_of rows = flat_map
    (λ (r : LotRow). map (λ date. record { item = r.item; lot = r.lot; expiry = date })
    (option_to_list r.expiry)) rows

-- item, lot and expiry
abbrev pub date_shown : Dated → Row
date_shown d = Text d.item ∷ Text d.lot ∷ Text d.expiry ∷ []
